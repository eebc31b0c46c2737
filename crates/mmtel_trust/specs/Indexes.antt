-- The indexes that the tables keep beside their lists, so that no look-up scans a list.
use Rattle.std.specs.Prelude.{◌≡◌, ℕ, Bool, nat_le, true, List, length, ◌&&◌, ◌==◌}
use Rattle.std.specs.List.{list_all}
use Rattle.mmtel_types.specs.declared.numbers.Account.{Account}
use Rattle.mmtel_types.specs.declared.numbers.Peer.{Peer}
use Rattle.mmtel_trust.specs.Hashes.{addr_hash, name_hash, uri_hash}
use Rattle.mmtel_trust.specs.Peers.{Peers, IsSound, matches_number}
use Rattle.mmtel_trust.specs.HashIndex.{IsIndex}
use Rattle.mmtel_trust.specs.declared.accounts.AccountIdentity.{AccountIdentity}
use Rattle.mmtel_trust.specs.declared.known_peers.KnownPeer.{KnownPeer}
use Rattle.mmtel_trust.specs.declared.known_peers.Route.{Route}

-- identities by their URIs, and by the numbers of their accounts
pub record AreIndexed (es : List AccountIdentity) (by_uri by_account : List (ℕ × ℕ)) : Type 0 where
  pub uris : IsIndex (λ e. uri_hash e.uri) es by_uri
  pub numbers : IsIndex (λ e. e.account.0) es by_account

-- the identity belongs to the account
abbrev pub is_of_account : Account → AccountIdentity → Bool
is_of_account a e = e.account.0 == a.0

-- the route's name is a prefix of the number of exactly this many bytes
abbrev pub matches_with_length : List ℕ → ℕ → Route → Bool
matches_with_length number n r = matches_number number r && length r.name == n

-- no name of a route is longer
abbrev pub are_within : ℕ → List Route → Bool
are_within bound rs = list_all (λ r. nat_le (length r.name) bound) rs

-- peers by their numbers and by their addresses, and routes by their names, none of which is longer than the bound
pub record IsPeerTableState (t : Peers) (by_number by_addr by_name : List (ℕ × ℕ)) (bound : ℕ) : Type 0 where
  pub sound : IsSound t
  pub numbers : IsIndex (λ k. k.peer.0) t.known by_number
  pub addrs : IsIndex (λ k. addr_hash k.addr) t.known by_addr
  pub names : IsIndex (λ r. name_hash r.name) t.routes by_name
  pub within : are_within bound t.routes ≡ true

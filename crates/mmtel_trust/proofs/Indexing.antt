-- The indexes that the tables keep of their lists: what is looked up is covered, and stays so as the tables grow.
use Rattle.std.proofs.Common.{◌≡◌, ◌==◌, ℕ, ◌≤◌, Bool, true, false, List, length, subst, arith}
use Rattle.std.proofs.lemmas.Bool.Decides.{nat_tests}
use Rattle.mmtel_base.proofs.Runs.{and_true}
use Rattle.mmtel_types.specs.declared.numbers.Account.{Account}
use Rattle.mmtel_types.specs.declared.numbers.Peer.{Peer}
use Rattle.mmtel_types.specs.declared.addrs.Addr.{Addr}
use Rattle.mmtel_lex.specs.declared.values.Uri.{Uri}
use Rattle.mmtel_trust.specs.Accounts.{is_of}
use Rattle.mmtel_trust.specs.Hashes.{addr_hash, name_hash, uri_hash}
use Rattle.mmtel_trust.specs.Indexes.{AreIndexed, IsPeerTableState, is_of_account}
use Rattle.mmtel_trust.specs.Peers.{Peers, has_addr, has_number, is_at, is_number, is_route, is_trusted_one, with_peer, with_route}
use Rattle.mmtel_trust.specs.HashIndex.{Covers, HasAlso, IsIndex}
use Rattle.mmtel_trust.specs.declared.accounts.AccountIdentity.{AccountIdentity}
use Rattle.mmtel_trust.specs.declared.known_peers.KnownPeer.{KnownPeer}
use Rattle.mmtel_trust.specs.declared.known_peers.Route.{Route}
use Rattle.mmtel_trust.proofs.HashTheorems.{addrs_share, identities_share, names_share}
use Rattle.mmtel_trust.proofs.Lookups.{covered, index_kept, index_more}
use Rattle.mmtel_trust.proofs.PeerTheorems.{apart_more, match_on_more, matches_on_more}
use Rattle.mmtel_trust.proofs.PrefixWalk.{wider_all, within_more}

is_same : (m n : ℕ) → (m == n) ≡ true → m ≡ n
is_same m n e = grind (arith, nat_tests)

-- of this hash, at the end of the list
at_last : (hash h place n : ℕ) (old new : List (ℕ × ℕ)) → h ≡ hash → place ≡ n → HasAlso h place old new → HasAlso hash n old new
at_last hash h place n old new same last m = subst (λ x. HasAlso x n old new) same (subst (λ x. HasAlso h x old new) last m)

-- ---- accounts

pub covers_uri : (es : List AccountIdentity) (uris numbers : List (ℕ × ℕ)) (u : Uri) → AreIndexed es uris numbers → Covers (is_of u) (uri_hash u) es uris
covers_uri es uris numbers u i = covered (is_of u) (λ e. uri_hash e.uri) (uri_hash u) es uris i.uris (λ e y. identities_share e.uri u y)

pub covers_account : (es : List AccountIdentity) (uris numbers : List (ℕ × ℕ)) (a : Account) → AreIndexed es uris numbers → Covers (is_of_account a) a.0 es numbers
covers_account es uris numbers a i = covered (is_of_account a) (λ e. e.account.0) a.0 es numbers i.numbers (λ e y. is_same e.account.0 a.0 y)

-- ---- peers and routes

pub covers_number : (ks : List KnownPeer) (pairs : List (ℕ × ℕ)) (p : Peer) → IsIndex (λ k. k.peer.0) ks pairs → Covers (is_number p) p.0 ks pairs
covers_number ks pairs p i = covered (is_number p) (λ k. k.peer.0) p.0 ks pairs i (λ k y. is_same k.peer.0 p.0 y)

pub covers_trusted : (ks : List KnownPeer) (pairs : List (ℕ × ℕ)) (p : Peer) → IsIndex (λ k. k.peer.0) ks pairs → Covers (is_trusted_one p) p.0 ks pairs
covers_trusted ks pairs p i = covered (is_trusted_one p) (λ k. k.peer.0) p.0 ks pairs i (λ k y. is_same k.peer.0 p.0 (and_true (is_number p k) k.trusted y).0)

pub covers_addr : (ks : List KnownPeer) (pairs : List (ℕ × ℕ)) (a : Addr) → IsIndex (λ k. addr_hash k.addr) ks pairs → Covers (is_at a) (addr_hash a) ks pairs
covers_addr ks pairs a i = covered (is_at a) (λ k. addr_hash k.addr) (addr_hash a) ks pairs i (λ k y. addrs_share k.addr a y)

pub covers_name : (rs : List Route) (pairs : List (ℕ × ℕ)) (name : List ℕ) → IsIndex (λ r. name_hash r.name) rs pairs → Covers (is_route name) (name_hash name) rs pairs
covers_name rs pairs name i = covered (is_route name) (λ r. name_hash r.name) (name_hash name) rs pairs i (λ r y. names_share r.name name y)

pub kept_by_name : (t : Peers) (h p : ℕ) (numbers addrs names more : List (ℕ × ℕ)) (bound wider : ℕ) → IsPeerTableState t numbers addrs names bound → HasAlso h p names more → bound ≤ wider →
    IsPeerTableState t numbers addrs more wider
kept_by_name t h p numbers addrs names more bound wider i m less =
    record { sound = i.sound; numbers = i.numbers; addrs = i.addrs; names = index_kept (λ r. name_hash r.name) t.routes h p names more i.names m; within = wider_all bound wider t.routes less i.within }

pub peer_more : (t : Peers) (p : Peer) (a : Addr) (trusted : Bool) (g h place : ℕ) (numbers more_numbers addrs more_addrs names : List (ℕ × ℕ)) (bound : ℕ) → IsPeerTableState t numbers addrs names bound →
    has_number p t.known ≡ false → has_addr a t.known ≡ false → g ≡ p.0 → h ≡ addr_hash a → place ≡ length t.known → HasAlso g place numbers more_numbers → HasAlso h place addrs more_addrs →
    IsPeerTableState (with_peer p a trusted t) more_numbers more_addrs names bound
peer_more t p a trusted g h place numbers more_numbers addrs more_addrs names bound i no_number no_addr same hash last m n =
    let k : KnownPeer = record { peer = p; addr = a; trusted = trusted } in
    record {
      sound = record {
        apart = apart_more t.known k i.sound.apart no_number no_addr;
        routed = match_on_more t.known k t.routes i.sound.routed;
      };
      numbers = index_more (λ k. k.peer.0) t.known k numbers more_numbers i.numbers (at_last p.0 g place (length t.known) numbers more_numbers same last m);
      addrs = index_more (λ k. addr_hash k.addr) t.known k addrs more_addrs i.addrs (at_last (addr_hash a) h place (length t.known) addrs more_addrs hash last n);
      names = i.names;
      within = i.within;
    }

pub route_more : (t : Peers) (name : List ℕ) (p : Peer) (h place : ℕ) (numbers addrs names more : List (ℕ × ℕ)) (bound wider : ℕ) → IsPeerTableState t numbers addrs names bound →
    has_number p t.known ≡ true → h ≡ name_hash name → place ≡ length t.routes → HasAlso h place names more → bound ≤ wider → length name ≤ wider → IsPeerTableState (with_route name p t) numbers addrs more wider
route_more t name p h place numbers addrs names more bound wider i there hash last m less fits =
    let r : Route = record { name = name; peer = p } in
    record {
      sound = record { apart = i.sound.apart; routed = matches_on_more t.known t.routes r i.sound.routed there };
      numbers = i.numbers;
      addrs = i.addrs;
      names = index_more (λ r. name_hash r.name) t.routes r names more i.names (at_last (name_hash name) h place (length t.routes) names more hash last m);
      within = within_more bound wider t.routes r i.within less fits;
    }

-- The peers with which the server exchanges messages, and to which of them a URI is routed.
--
-- A configuration of peers and routes takes the place of DNS (RFC 3263): a sip URI is routed by its host (RFC 3261 §19.1.1), without case (§19.1.4), and a tel URI by the longest
-- prefix of its number, with its visual separators removed (RFC 3966 §3, §5.1.1).
use Rattle.std.specs.Prelude.{◌≡◌, ℕ, nat_lt, Bool, true, false, not, ◌==◌, ◌&&◌, ◌||◌, Option, Some, None, List, [], ◌∷◌, ◌++◌, length, codes, find, filter, if◌then◌else◌}
use Rattle.std.specs.Option.{option_map}
use Rattle.std.specs.List.{list_all, list_any}
use Rattle.std.specs.Str.{str_eq_ignore_ascii_case}
use Rattle.mmtel_identity.specs.TrustDomain.{is_in_trust_domain}
use Rattle.mmtel_types.specs.declared.numbers.Peer.{Peer}
use Rattle.mmtel_base.specs.Classes.{in_class}
use Rattle.mmtel_base.specs.declared.classes.Class.TheVariants.{Digit}
use Rattle.mmtel_lex.specs.Identity.{without_separators}
use Rattle.mmtel_lex.specs.declared.values.Uri.{Uri}
use Rattle.mmtel_lex.specs.declared.values.Uri.TheVariants.{Sip, Tel}
use Rattle.mmtel_types.specs.Addrs.{is_same_addr}
use Rattle.mmtel_trust.specs.declared.faults.TableFault.{TableFault}
use Rattle.mmtel_trust.specs.declared.faults.TableFault.TheVariants.{Taken, NoPeer}
use Rattle.mmtel_types.specs.declared.addrs.Addr.{Addr}
use Rattle.mmtel_trust.specs.declared.known_peers.KnownPeer.{KnownPeer}
use Rattle.mmtel_trust.specs.declared.known_peers.Route.{Route}

-- the peers and the routes, each in the order in which they were added
pub record Peers : Type 0 where
  pub known : List KnownPeer
  pub routes : List Route

-- ---- peers

abbrev pub is_number : Peer → KnownPeer → Bool
is_number p k = k.peer.0 == p.0

abbrev pub is_at : Addr → KnownPeer → Bool
is_at a k = is_same_addr k.addr a

abbrev pub has_number : Peer → List KnownPeer → Bool
has_number p ks = list_any (is_number p) ks

abbrev pub has_addr : Addr → List KnownPeer → Bool
has_addr a ks = list_any (is_at a) ks

-- the peer at the address
abbrev pub peer_at : Addr → List KnownPeer → Option Peer
peer_at a ks = option_map (λ k. k.peer) (find (is_at a) ks)

-- the address of the peer
abbrev pub addr_of : Peer → List KnownPeer → Option Addr
addr_of p ks = option_map (λ k. k.addr) (find (is_number p) ks)

-- the peer is this one, and is in the trust domain
abbrev pub is_trusted_one : Peer → KnownPeer → Bool
is_trusted_one p k = is_in_trust_domain k.peer k.trusted p

-- the peer is in the table and is trusted
abbrev pub is_trusted : Peer → List KnownPeer → Bool
is_trusted p ks = list_any (is_trusted_one p) ks

abbrev pub with_peer : Peer → Addr → Bool → Peers → Peers
with_peer p a trusted t = record t { known = t.known ++ record { peer = p; addr = a; trusted = trusted } ∷ [] }

-- each number and each address occurs once
abbrev pub are_apart : List KnownPeer → Bool
are_apart [] = true
are_apart (k ∷ ks) = (not (has_number k.peer ks) && not (has_addr k.addr ks)) && are_apart ks

-- ---- routes

-- of this name, without case
abbrev pub is_route : List ℕ → Route → Bool
is_route name r = str_eq_ignore_ascii_case r.name name

abbrev pub has_name : List ℕ → List Route → Bool
has_name name rs = list_any (is_route name) rs

abbrev pub with_route : List ℕ → Peer → Peers → Peers
with_route name p t = record t { routes = t.routes ++ record { name = name; peer = p } ∷ [] }

abbrev pub named_route : List ℕ → List Route → Option Route
named_route name rs = find (is_route name) rs

-- the text begins with the prefix
abbrev pub begins_with : List ℕ → List ℕ → Bool
begins_with s [] = true
begins_with [] (p ∷ ps) = false
begins_with (b ∷ s) (p ∷ ps) = b == p && begins_with s ps

-- '+' and one digit or more
abbrev pub is_prefix : List ℕ → Bool
is_prefix [] = false
is_prefix (b ∷ s) = b == 43 && (not (length s == 0) && list_all (in_class Digit) s)

-- the name of the route is a prefix with which the number begins
abbrev pub matches_number : List ℕ → Route → Bool
matches_number number r = is_prefix r.name && begins_with number r.name

abbrev pub longer : Route → Option Route → Option Route
longer r None = Some r
longer r (Some s) = if nat_lt (length r.name) (length s.name) then Some s else Some r

-- the route with the longest name; the first of these
abbrev pub longest : List Route → Option Route
longest [] = None
longest (r ∷ rs) = longer r (longest rs)

-- the route that names the host, or the longest prefix of the number
abbrev pub own_route : Uri → List Route → Option Route
own_route (Sip user host port params headers) rs = named_route host rs
own_route (Tel number params) rs = longest (filter (matches_number (without_separators number)) rs)

-- the first, or else the second
abbrev pub or_route : Option Route → Option Route → Option Route
or_route (Some r) other = Some r
or_route None other = other

-- the peer to which the URI is routed: by its own route, else by that of '*'
abbrev pub route_of : Uri → List Route → Option Peer
route_of u rs = option_map (λ r. r.peer) (or_route (own_route u rs) (named_route (codes "*") rs))

-- ---- what a table refuses

-- each number and each address occurs once
abbrev pub peer_fault : Peer → Addr → Peers → Option TableFault
peer_fault p a t = if has_number p t.known || has_addr a t.known then Some Taken else None

-- each name occurs once, without case, and its peer is in the table
abbrev pub route_fault : List ℕ → Peer → Peers → Option TableFault
route_fault name p t = if has_name name t.routes then Some Taken else if has_number p t.known then None else Some NoPeer

-- each route names a peer that is in the table
abbrev pub routes_have_peers : Peers → Bool
routes_have_peers t = list_all (λ r. has_number r.peer t.known) t.routes

-- invariant of each table
pub record IsSound (t : Peers) : Type 0 where
  pub apart : are_apart t.known ≡ true
  pub routed : routes_have_peers t ≡ true

-- The route of an attempt: which Route values it keeps, and to which peer it is sent (RFC 3261 §16.4 and §16.6, loose routing).
use Rattle.std.specs.Prelude.{ℕ, ◌==◌, Bool, false, ◌&&◌, Option, Some, None, List, [], ◌∷◌, drop, if◌then◌else◌}
use Rattle.std.specs.Option.{unwrap_or}
use Rattle.std.specs.Str.{bytes_eq}
use Rattle.mmtel_lex.specs.declared.values.Uri.{Uri}
use Rattle.mmtel_lex.specs.declared.values.Uri.TheVariants.{Sip, Tel}
use Rattle.mmtel_message.specs.Addresses.{ip_text}
use Rattle.mmtel_types.specs.declared.addrs.Addr.{Addr}
use Rattle.mmtel_types.specs.declared.numbers.Peer.{Peer}
use Rattle.mmtel_trust.specs.Asserted.{uri_in}
use Rattle.mmtel_trust.specs.Peers.{route_of}
use Rattle.mmtel_trust.specs.declared.known_peers.Route.{Route}

-- ---- the values that are kept

-- the URI names the server's address; without a port it is 5060 (RFC 3261 §19.1.2)
abbrev pub names_server : Addr → Uri → Bool
names_server sip (Sip user host port params headers) = bytes_eq host (ip_text sip.ip) && unwrap_or port 5060 == sip.port
names_server sip (Tel number params) = false

abbrev pub is_own_route : Addr → Option Uri → Bool
is_own_route sip None = false
is_own_route sip (Some uri) = names_server sip uri

-- the first value names the server
abbrev pub begins_with_own_route : Addr → List (List ℕ) → Bool
begins_with_own_route sip [] = false
begins_with_own_route sip (value ∷ values) = is_own_route sip (uri_in value)

-- the Route values that each attempt keeps: without a first one that names the server (RFC 3261 §16.4)
abbrev pub remaining_routes : Addr → List (List ℕ) → List (List ℕ)
remaining_routes sip values = if begins_with_own_route sip values then drop 1 values else values

-- ---- the peer

-- the peer to which a Route value is routed: none where it is no sip URI
abbrev pub routed_peer : List Route → Option Uri → Option Peer
routed_peer table None = None
routed_peer table (Some (Sip user host port params headers)) = route_of (Sip user host port params headers) table
routed_peer table (Some (Tel number params)) = None

-- the peer of the first of these Route values; without any, that of the target
abbrev pub next_hop : List Route → (values : List (List ℕ)) → (target : Uri) → Option Peer
next_hop table [] target = route_of target table
next_hop table (value ∷ values) target = routed_peer table (uri_in value)

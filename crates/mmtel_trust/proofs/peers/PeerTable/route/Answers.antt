use Rattle.std.proofs.Common.{◌≡◌, List, true, IfSome, sym, ap, subst, ◌∙◌}
use Rattle.mmtel_trust.specs.Hashes.{name_hash}
use Rattle.mmtel_trust.specs.Indexes.{are_within}
use Rattle.mmtel_trust.specs.Peers.{has_number, route_of}
use Rattle.mmtel_trust.specs.HashIndex.{IsIndex}
use Rattle.mmtel_trust.specs.declared.known_peers.Route.{Route}
use Rattle.mmtel_trust.proofs.PeerTheorems.{route_matches}
use Rattle.mmtel_trust.proofs.peers.PeerTable.route.Goals as goal

pub route_of-requires-clause-index : goal.route_of-requires-clause-index
route_of-requires-clause-index c = subst (λ (rs : List Route). IsIndex (λ r. name_hash r.name) rs c.self.inside.by_name) (sym c.items.ensures) c.self.invariant.names

pub route_of-requires-clause-within : goal.route_of-requires-clause-within
route_of-requires-clause-within c = subst (λ (rs : List Route). are_within c.self.inside.bound rs ≡ true) (sym c.items.ensures) c.self.invariant.within

pub returns-clause-known : goal.returns-clause-known
returns-clause-known c =
    let found : c.route_of.result ≡ route_of c.args.uri.now c.self.inside.routes = c.route_of.ensures ∙ ap (λ rs. route_of c.args.uri.now rs) c.items.ensures in
    subst (λ t. IfSome c.route_of.result (λ p. has_number p t.known ≡ true)) c.self.view_is
    (subst (λ o. IfSome o (λ p. has_number p c.self.inside.peers ≡ true)) (sym found) (route_matches c.self.inside.peers c.args.uri.now c.self.inside.routes c.self.invariant.sound.routed))

use Rattle.std.proofs.Common.{List, sym, subst}
use Rattle.mmtel_trust.specs.Hashes.{name_hash}
use Rattle.mmtel_trust.specs.Peers.{is_route}
use Rattle.mmtel_trust.specs.HashIndex.{Covers}
use Rattle.mmtel_trust.specs.declared.known_peers.Route.{Route}
use Rattle.mmtel_trust.proofs.Indexing.{covers_name}
use Rattle.mmtel_trust.proofs.peers.PeerTable.has_name.Goals as goal

pub has_item-requires : goal.has_item-requires
has_item-requires c =
    subst (λ (xs : List Route). Covers (is_route c.args.name.now) (name_hash c.args.name.now) xs c.self.inside.by_name) (sym c.items.ensures)
    (covers_name c.self.inside.routes c.self.inside.by_name c.args.name.now c.self.invariant.names)

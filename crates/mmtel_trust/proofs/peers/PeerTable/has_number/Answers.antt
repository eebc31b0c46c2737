use Rattle.std.proofs.Common.{List, sym, subst}
use Rattle.mmtel_trust.specs.Peers.{is_number}
use Rattle.mmtel_trust.specs.HashIndex.{Covers}
use Rattle.mmtel_trust.specs.declared.known_peers.KnownPeer.{KnownPeer}
use Rattle.mmtel_trust.proofs.Indexing.{covers_number}
use Rattle.mmtel_trust.proofs.peers.PeerTable.has_number.Goals as goal

pub has_item-requires : goal.has_item-requires
has_item-requires c =
    subst (λ (xs : List KnownPeer). Covers (is_number c.args.peer) c.args.peer.0 xs c.self.inside.by_number) (sym c.items.ensures)
    (covers_number c.self.inside.peers c.self.inside.by_number c.args.peer c.self.invariant.numbers)

use Rattle.std.proofs.Common.{List, sym, subst}
use Rattle.mmtel_trust.specs.Hashes.{addr_hash}
use Rattle.mmtel_trust.specs.Peers.{is_at}
use Rattle.mmtel_trust.specs.HashIndex.{Covers}
use Rattle.mmtel_trust.specs.declared.known_peers.KnownPeer.{KnownPeer}
use Rattle.mmtel_trust.proofs.Indexing.{covers_addr}
use Rattle.mmtel_trust.proofs.peers.PeerTable.has_addr.Goals as goal

pub has_item-requires : goal.has_item-requires
has_item-requires c =
    subst (λ (xs : List KnownPeer). Covers (is_at c.args.addr) (addr_hash c.args.addr) xs c.self.inside.by_addr) (sym c.items.ensures)
    (covers_addr c.self.inside.peers c.self.inside.by_addr c.args.addr c.self.invariant.addrs)

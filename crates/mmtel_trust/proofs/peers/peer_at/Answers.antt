use Rattle.mmtel_trust.proofs.Indexing.{covers_addr}
use Rattle.mmtel_trust.proofs.peers.peer_at.Goals as goal

pub first_item-requires : goal.first_item-requires
first_item-requires c = covers_addr c.args.peers.now c.args.by_addr.now c.args.addr c.requires

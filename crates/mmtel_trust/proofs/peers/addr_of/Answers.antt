use Rattle.mmtel_trust.proofs.Indexing.{covers_number}
use Rattle.mmtel_trust.proofs.peers.addr_of.Goals as goal

pub first_item-requires : goal.first_item-requires
first_item-requires c = covers_number c.args.peers.now c.args.by_number.now c.args.peer c.requires

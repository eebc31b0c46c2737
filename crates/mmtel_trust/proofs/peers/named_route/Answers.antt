use Rattle.mmtel_trust.proofs.Indexing.{covers_name}
use Rattle.mmtel_trust.proofs.peers.named_route.Goals as goal

pub first_item-requires : goal.first_item-requires
first_item-requires c = covers_name c.args.routes.now c.args.by_name.now c.args.name.now c.requires

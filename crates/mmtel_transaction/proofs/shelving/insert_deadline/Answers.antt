use Rattle.mmtel_transaction.proofs.Reaching.{deadlines_parted}
use Rattle.mmtel_transaction.proofs.shelving.insert_deadline.Goals as goal

pub seek-to-requires : goal.seek-to-requires
seek-to-requires g c = deadlines_parted c.args.new c.args.due.now c.requires.ascends

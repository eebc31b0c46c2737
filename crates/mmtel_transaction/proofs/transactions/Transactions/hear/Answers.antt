use Rattle.mmtel_transaction.proofs.Representation.{heard_done}
use Rattle.mmtel_transaction.proofs.transactions.Transactions.hear.Goals as goal

pub returns-clause-done : goal.returns-clause-done
returns-clause-done g c = heard_done c.args.self.now c.hear_as.new.self c.args.p c.args.m c.args.now c.ms.result c.in_ok-head.head c.classify-taken.result c.hear_as.result c.in_ok-head.ensures
    c.classify-taken.ensures c.ms.ensures.number c.hear_as.ensures.done

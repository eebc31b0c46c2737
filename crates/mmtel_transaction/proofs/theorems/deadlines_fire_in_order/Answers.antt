use Rattle.mmtel_transaction.proofs.Order.{first_due, in_order}
use Rattle.mmtel_transaction.proofs.theorems.deadlines_fire_in_order.Goals as goal

pub returns : goal.returns
returns c = record { order = in_order; first = first_due }

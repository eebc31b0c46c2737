use Rattle.mmtel_leg.proofs.OrderTheorems as order
use Rattle.mmtel_leg.proofs.theorems.requests_are_in_order.Goals as goal

pub returns : goal.returns
returns c = record { received = order.received }

use Rattle.mmtel_leg.proofs.OrderTheorems as order
use Rattle.mmtel_leg.proofs.theorems.acks_have_their_invites_number.Goals as goal

pub returns : goal.returns
returns c = record { made = order.made; begun = order.begun }

use Rattle.mmtel_leg.proofs.OrderTheorems as order
use Rattle.mmtel_leg.proofs.theorems.numbers_read_back.Goals as goal

pub returns : goal.returns
returns c = record { request = order.request_reads; ack = order.ack_reads }

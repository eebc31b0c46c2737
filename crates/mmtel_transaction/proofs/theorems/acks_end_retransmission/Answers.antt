use Rattle.mmtel_transaction.proofs.Acks.{acks_end}
use Rattle.mmtel_transaction.proofs.theorems.acks_end_retransmission.Goals as goal

pub returns : goal.returns
returns c = record { ended = acks_end }

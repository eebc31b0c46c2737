use Rattle.mmtel_transaction.proofs.Among.{unacknowledged}
use Rattle.mmtel_transaction.proofs.Acknowledged.{acked_retransmits_nothing, kept_acks_are_retransmitted, success}
use Rattle.mmtel_transaction.proofs.theorems.finals_wait_for_their_ack.Goals as goal

pub returns : goal.returns
returns c = record { unacknowledged = unacknowledged; success = success; no_retransmission = acked_retransmits_nothing; kept = kept_acks_are_retransmitted }

use Rattle.mmtel_transaction_examples.proofs.Sequences.{ends_after_the_ack, retransmitted_invite, second_timeout, timeout}
use Rattle.mmtel_transaction_examples.proofs.theorems.sequences_compute.Goals as goal

pub returns : goal.returns
returns c = record { repeated = retransmitted_invite; silence = timeout; second = second_timeout; ended = ends_after_the_ack }

use Rattle.mmtel_transaction_examples.proofs.RetransmissionExamples.{requests, finals, acks, reliable}
use Rattle.mmtel_transaction_examples.proofs.theorems.retransmissions_compute.Goals as goal

pub returns : goal.returns
returns c = record { requests = requests; finals = finals; acks = acks; answers = reliable }

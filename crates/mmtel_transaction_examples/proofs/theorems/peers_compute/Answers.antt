use Rattle.mmtel_transaction_examples.proofs.PeerExamples.{texts, peers}
use Rattle.mmtel_transaction_examples.proofs.theorems.peers_compute.Goals as goal

pub returns : goal.returns
returns c = record { texts = texts; peers = peers }

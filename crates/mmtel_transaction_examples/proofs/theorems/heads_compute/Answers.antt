use Rattle.mmtel_transaction_examples.proofs.HeadExamples.{heads}
use Rattle.mmtel_transaction_examples.proofs.theorems.heads_compute.Goals as goal

pub returns : goal.returns
returns c = record { heads = heads }

use Rattle.mmtel_transaction_examples.proofs.Successive.{successive_deadlines}
use Rattle.mmtel_transaction_examples.proofs.theorems.deadlines_compute.Goals as goal

pub returns : goal.returns
returns c = record { deadlines = successive_deadlines }

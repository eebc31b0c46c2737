use Rattle.mmtel_transaction.proofs.Drawn.{differ}
use Rattle.mmtel_transaction.proofs.theorems.tokens_differ.Goals as goal

pub returns : goal.returns
returns c = record { differ = differ }

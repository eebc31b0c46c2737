use Rattle.mmtel_precedence.proofs.Extending.{later_endings_extend}
use Rattle.mmtel_precedence.proofs.theorems.later_endings_extend.Goals as goal

pub returns : goal.returns
returns c = record { law = later_endings_extend }

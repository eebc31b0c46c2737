use Rattle.mmtel_precedence.proofs.NextSteps.{endings_are_moves}
use Rattle.mmtel_precedence.proofs.theorems.endings_are_moves.Goals as goal

pub returns : goal.returns
returns c = record { law = endings_are_moves }

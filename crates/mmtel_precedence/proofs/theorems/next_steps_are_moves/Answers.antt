use Rattle.mmtel_precedence.proofs.NextSteps.{next_steps_are_moves}
use Rattle.mmtel_precedence.proofs.theorems.next_steps_are_moves.Goals as goal

pub returns : goal.returns
returns c = record { law = next_steps_are_moves }

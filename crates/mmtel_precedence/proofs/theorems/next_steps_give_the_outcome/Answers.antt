use Rattle.mmtel_precedence.proofs.NextSteps.{next_steps_give_the_outcome}
use Rattle.mmtel_precedence.proofs.theorems.next_steps_give_the_outcome.Goals as goal

pub returns : goal.returns
returns c = record { law = next_steps_give_the_outcome }

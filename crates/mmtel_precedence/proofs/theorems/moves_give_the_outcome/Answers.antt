use Rattle.mmtel_precedence.proofs.MovesToTheOutcome.{moves_give_outcome}
use Rattle.mmtel_precedence.proofs.theorems.moves_give_the_outcome.Goals as goal

pub returns : goal.returns
returns c = record { law = moves_give_outcome }

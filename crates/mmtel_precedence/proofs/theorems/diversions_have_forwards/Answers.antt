use Rattle.mmtel_precedence.proofs.DiversionTargets.{diversions_have_forwards}
use Rattle.mmtel_precedence.proofs.theorems.diversions_have_forwards.Goals as goal

pub returns : goal.returns
returns c = record { law = diversions_have_forwards }

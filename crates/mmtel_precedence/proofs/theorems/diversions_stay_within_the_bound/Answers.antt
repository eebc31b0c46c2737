use Rattle.mmtel_precedence.proofs.Bound.{stays_within_bound}
use Rattle.mmtel_precedence.proofs.theorems.diversions_stay_within_the_bound.Goals as goal

pub returns : goal.returns
returns c = record { law = stays_within_bound }

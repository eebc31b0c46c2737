use Rattle.mmtel_leg.proofs.OperationTheorems as deeds
use Rattle.mmtel_leg.proofs.theorems.numbers_rise_by_one.Goals as goal

pub returns : goal.returns
returns c = record { counted = deeds.counted; last = deeds.last }

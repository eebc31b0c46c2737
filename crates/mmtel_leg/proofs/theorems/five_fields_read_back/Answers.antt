use Rattle.mmtel_leg.proofs.FiveTheorems as five
use Rattle.mmtel_leg.proofs.theorems.five_fields_read_back.Goals as goal

pub returns : goal.returns
returns c = record { read = five.five_read }

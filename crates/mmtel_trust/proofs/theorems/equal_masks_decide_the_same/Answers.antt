use Rattle.mmtel_trust.proofs.MaskTheorems.{alike}
use Rattle.mmtel_trust.proofs.theorems.equal_masks_decide_the_same.Goals as goal

pub returns : goal.returns
returns c = record { equivalent = alike }

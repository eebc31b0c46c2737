use Rattle.mmtel_trust.proofs.IndexKeeping.{passed_equal-entries}
use Rattle.mmtel_trust.proofs.Masked.{passed_equal}
use Rattle.mmtel_trust.proofs.theorems.equal_masks_show_the_same.Goals as goal

pub returns : goal.returns
returns c = record { lines = passed_equal; entries = passed_equal-entries }

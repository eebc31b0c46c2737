use Rattle.mmtel_message.proofs.SpellingTheorems.{same_folded}
use Rattle.mmtel_message.proofs.theorems.folds_do_not_matter.Goals as goal

pub returns : goal.returns
returns c = record {
  reading = same_folded;
}

use Rattle.mmtel_message.proofs.SpellingTheorems.{same_line}
use Rattle.mmtel_message.proofs.theorems.spelling_does_not_matter.Goals as goal

pub returns : goal.returns
returns c = record {
  line = same_line;
}

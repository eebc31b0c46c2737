use Rattle.std.proofs.Common.{refl}
use Rattle.mmtel_message.proofs.NameTheorems.{long_fixed}
use Rattle.mmtel_message.proofs.SpellingTheorems.{same_spelling}
use Rattle.mmtel_message.proofs.theorems.case_does_not_matter.Goals as goal

pub returns : goal.returns
returns c = record {
  case = same_spelling;
  compact = refl;
  once = λ n token. (long_fixed n token).spelled;
}

use Rattle.mmtel_message.proofs.CanonicalTheorems.{first_kept, only_kept}
use Rattle.mmtel_message.proofs.SpellingTheorems.{same_values, same_five}
use Rattle.mmtel_message.proofs.theorems.other_names_do_not_matter.Goals as goal

pub returns : goal.returns
returns c = record {
  first = first_kept;
  only = only_kept;
  values = same_values;
  five = same_five;
}

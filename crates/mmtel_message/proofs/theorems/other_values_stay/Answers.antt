use Rattle.mmtel_message.proofs.SpellingTheorems.{dropped_others, replaced_others}
use Rattle.mmtel_message.proofs.theorems.other_values_stay.Goals as goal

pub returns : goal.returns
returns c = record {
  set = replaced_others;
  drop_all = dropped_others;
}

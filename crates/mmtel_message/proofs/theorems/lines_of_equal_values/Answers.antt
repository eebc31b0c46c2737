use Rattle.mmtel_message.proofs.SpellingTheorems.{same_reading}
use Rattle.mmtel_message.proofs.theorems.lines_of_equal_values.Goals as goal

pub returns : goal.returns
returns c = record {
  reading = same_reading;
}

use Rattle.mmtel_message.proofs.ResponseTheorems.{response_five}
use Rattle.mmtel_message.proofs.TagTheorems.{tag_found, tag_stays}
use Rattle.mmtel_message.proofs.theorems.responses_have_the_fields.Goals as goal

pub returns : goal.returns
returns c = record {
  five = response_five;
  tag = tag_found;
  kept = tag_stays;
}

use Rattle.mmtel_run_definitions.proofs.InForce.{after_message_what_is_in_force, last_is_in_force, texts_are_those_kept}
use Rattle.mmtel_run_definitions.proofs.RecordsSeen.{seen_alone}
use Rattle.mmtel_run_definitions.proofs.theorems.records_are_those_kept.Goals as goal

pub returns : goal.returns
returns c = record {
  texts = texts_are_those_kept;
  last = last_is_in_force c.puts_change_one_account.ensures.its c.puts_change_one_account.ensures.others;
  reported = after_message_what_is_in_force;
  seen = seen_alone;
}

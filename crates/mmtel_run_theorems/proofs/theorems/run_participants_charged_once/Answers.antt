use Rattle.mmtel_run_theorems.proofs.RunTheorems.{seats_charged}
use Rattle.mmtel_run_theorems.proofs.theorems.run_participants_charged_once.Goals as goal

pub returns : goal.returns
returns c = record {
  law =
      seats_charged c.legs_go_back.ensures.law c.conferences_reply_in_their_own.ensures.law c.calls_take_their_steps.ensures.law c.calls_of_tables_are_exact.ensures.law c.charging_records_are_in_order.ensures.calls
      c.participants_are_charged_once.ensures.charged c.rows_are_filed.ensures.all c.participants_have_their_meters.ensures.participants c.participants_have_their_meters.ensures.metered
      c.participants_have_their_meters.ensures.rows c.rows_are_filed.ensures.order
      c.deadlines_end_between_sends.ensures.begun;
}

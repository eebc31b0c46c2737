use Rattle.mmtel_run_theorems.proofs.RunTheorems.{calls_come}
use Rattle.mmtel_run_theorems.proofs.theorems.calls_of_runs_reach_outcome.Goals as goal

pub returns : goal.returns
returns c =
    let kept = c.records_are_those_kept.ensures in
    let notices = c.calls_notify_their_diversions.ensures in
    record {
      law =
          calls_come c.legs_go_back.ensures.law c.conferences_reply_in_their_own.ensures.law c.calls_take_their_steps.ensures.law c.calls_of_tables_are_exact.ensures.law c.charging_records_are_in_order.ensures.calls
          c.participants_are_charged_once.ensures.charged c.rows_are_filed.ensures.all c.calls_take_their_steps.ensures.own c.table_calls_reply_in_their_own.ensures.law
          c.other_operations_output_nothing.ensures.law c.calls_continue.ensures.law c.charging_is_exact.ensures.law notices.reported
          notices.nothing_later notices.ends c.diversions_stay_within_the_bound.ensures.law c.diversions_have_forwards.ensures.law kept.texts kept.last kept.reported c.deadlines_end_between_sends.ensures.begun;
    }

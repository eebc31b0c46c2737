use Rattle.std.proofs.Common.{arith, refl, ◌∙◌}
use Rattle.mmtel_server.proofs.Drives.{begun, breaks, closes, ends, fails, goes_on}
use Rattle.mmtel_server.proofs.Received.{none_within, rise_then, within_more, within_then}
use Rattle.mmtel_server.proofs.Reading.{no_rise}
use Rattle.mmtel_server.proofs.driving.drive.Goals as goal

pub turns-init : goal.turns-init
turns-init g c = record {
  drove = begun c.theorems_of_runs_hold.ensures _ _;
  calls = none_within _ _;
  output = refl;
  delivery_faults = no_rise _;
  arrival_faults = refl;
}

pub turns-preserved : goal.turns-preserved
turns-preserved g c = record {
  drove = goes_on c.theorems_of_runs_hold.ensures _ _ _ _ _ c.turns.invariant.drove _ _ _
      (rw c.in-Ok-Some.field-0-is at c.in-Ok-Some.ensures.received) c.in-Ok.ensures.done;
  calls = within_more _ _ _ _ (omega arith) (within_then _ _ _ _ _ c.turns.invariant.calls c.next_event.ensures.calls);
  output = c.next_event.ensures.output ∙ c.turns.invariant.output;
  delivery_faults = rise_then _ _ _ c.turns.invariant.delivery_faults c.next_event.ensures.delivery_faults;
  arrival_faults = c.in-Ok-Some.ensures.cause ∙ c.turns.invariant.arrival_faults;
}

pub returns-in-Err-step_event-clause-driven : goal.returns-in-Err-step_event-clause-driven
returns-in-Err-step_event-clause-driven g c =
    breaks c.theorems_of_runs_hold.ensures _ _ _ _ _ c.turns.invariant.drove _ (omega arith) _ _ _
    (rw c.in-Ok-Some.field-0-is at c.in-Ok-Some.ensures.received) c.in-Err-step_event.ensures.aborted

pub returns-in-Ok-None-clause-driven : goal.returns-in-Ok-None-clause-driven
returns-in-Ok-None-clause-driven g c =
    closes c.theorems_of_runs_hold.ensures _ _ _ _ _ c.turns.invariant.drove _ (omega arith) _ c.servers_offer_what_runs_give.ensures.noninterference
    (rw c.in-Ok-None.field-0-is at c.in-Ok-None.ensures.received)

pub returns-in-Err-clause-driven : goal.returns-in-Err-clause-driven
returns-in-Err-clause-driven g c =
    fails c.theorems_of_runs_hold.ensures _ _ _ _ _ c.turns.invariant.drove _ (omega arith) _ c.servers_offer_what_runs_give.ensures.noninterference
    c.next_event.ensures.delivery_faults _ c.in-Err.ensures.received

pub returns-clause-driven : goal.returns-clause-driven
returns-clause-driven g c =
    ends c.theorems_of_runs_hold.ensures _ _ _ _ _ c.turns.invariant.drove c.servers_offer_what_runs_give.ensures.noninterference _ (omega arith)

pub returns-in-Err-step_event-clause-calls : goal.returns-in-Err-step_event-clause-calls
returns-in-Err-step_event-clause-calls g c = within_more _ _ _ _ (omega arith) (within_then _ _ _ _ _ c.turns.invariant.calls c.next_event.ensures.calls)

pub returns-in-Ok-None-clause-calls : goal.returns-in-Ok-None-clause-calls
returns-in-Ok-None-clause-calls g c = within_more _ _ _ _ (omega arith) (within_then _ _ _ _ _ c.turns.invariant.calls c.next_event.ensures.calls)

pub returns-in-Err-clause-calls : goal.returns-in-Err-clause-calls
returns-in-Err-clause-calls g c = within_more _ _ _ _ (omega arith) (within_then _ _ _ _ _ c.turns.invariant.calls c.next_event.ensures.calls)

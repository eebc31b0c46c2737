use Rattle.std.proofs.Common.{arith, inl, refl, ◌∙◌}
use Rattle.mmtel_server.proofs.Received.{rise_then}
use Rattle.mmtel_server.specs.States.{link_state}
use Rattle.mmtel_serve.proofs.Reading.{bound_within, lost_still, lost_then, stays_of}
use Rattle.mmtel_serve.proofs.ServeEffects.{begun, breaks, closes, ends, fails, goes_on}
use Rattle.mmtel_serve.proofs.serving.serve.Goals as goal

pub turns-init : goal.turns-init
turns-init g c = record {
  served = begun c.theorems_of_runs_hold.ensures c.parts_are_delivered.ensures.none c.parts_are_delivered.ensures.both c.runs_keep_noninterference.ensures.offers c.bytes_are_seen.ensures.law _;
  lost = inl refl;
  delivery_faults = inl refl;
  bound = refl;
  arrival_faults = refl;
}

pub turns-preserved : goal.turns-preserved
turns-preserved g c = record {
  served = goes_on c.theorems_of_runs_hold.ensures c.parts_are_delivered.ensures.none c.parts_are_delivered.ensures.both c.runs_keep_noninterference.ensures.offers c.bytes_are_seen.ensures.law _ _ _
      c.turns.invariant.served
      (link_state g.N.Link c.next_event.new.link) _ _ (rw c.in-Ok-Some.field-0-is at c.in-Ok-Some.ensures.received)
      c.next_event.ensures.output c.serve_event.ensures.received c.serve_event.ensures.counted _ c.in-Ok.ensures.done;
  lost = lost_then _ _ _ _ _ _ _ _ c.turns.invariant.lost c.turns.invariant.delivery_faults c.next_event.ensures.output c.next_event.ensures.delivery_faults c.serve_event.ensures.lost;
  delivery_faults = rise_then _ _ _ (rise_then _ _ _ c.turns.invariant.delivery_faults c.next_event.ensures.delivery_faults) (stays_of _ _ _ _ c.serve_event.ensures.lost);
  bound = c.serve_event.ensures.bound ∙ (bound_within _ _ _ c.next_event.ensures.calls ∙ c.turns.invariant.bound);
  arrival_faults = c.serve_event.ensures.arrival_faults ∙ (c.in-Ok-Some.ensures.cause ∙ c.turns.invariant.arrival_faults);
}

pub returns-in-Err-serve_event-clause-served : goal.returns-in-Err-serve_event-clause-served
returns-in-Err-serve_event-clause-served g c =
    breaks c.theorems_of_runs_hold.ensures c.parts_are_delivered.ensures.none c.parts_are_delivered.ensures.both c.runs_keep_noninterference.ensures.offers c.bytes_are_seen.ensures.law _ _ _ c.turns.invariant.served
    (link_state g.N.Link c.next_event.new.link) _ _ (rw c.in-Ok-Some.field-0-is at c.in-Ok-Some.ensures.received)
    c.next_event.ensures.output c.serve_event.ensures.received c.serve_event.ensures.counted _ (omega arith) _ c.in-Err-serve_event.ensures.stopped

pub returns-in-Err-serve_event-clause-lost : goal.returns-in-Err-serve_event-clause-lost
returns-in-Err-serve_event-clause-lost g c = lost_then _ _ _ _ _ _ _ _ c.turns.invariant.lost c.turns.invariant.delivery_faults c.next_event.ensures.output c.next_event.ensures.delivery_faults c.serve_event.ensures.lost

pub returns-in-Err-serve_event-clause-delivery_faults : goal.returns-in-Err-serve_event-clause-delivery_faults
returns-in-Err-serve_event-clause-delivery_faults g c = rise_then _ _ _ (rise_then _ _ _ c.turns.invariant.delivery_faults c.next_event.ensures.delivery_faults) (stays_of _ _ _ _ c.serve_event.ensures.lost)

pub returns-in-Ok-None-clause-served : goal.returns-in-Ok-None-clause-served
returns-in-Ok-None-clause-served g c =
    closes c.theorems_of_runs_hold.ensures c.parts_are_delivered.ensures.none c.parts_are_delivered.ensures.both c.runs_keep_noninterference.ensures.offers c.bytes_are_seen.ensures.law _ _ _
    c.turns.invariant.served _ (omega arith) (link_state g.N.Link c.next_event.new.link) c.next_event.ensures.output
    (rw c.in-Ok-None.field-0-is at c.in-Ok-None.ensures.received)

pub returns-in-Ok-None-clause-lost : goal.returns-in-Ok-None-clause-lost
returns-in-Ok-None-clause-lost g c = lost_still _ _ _ _ _ _ c.turns.invariant.lost c.next_event.ensures.output c.next_event.ensures.delivery_faults

pub returns-in-Ok-None-clause-delivery_faults : goal.returns-in-Ok-None-clause-delivery_faults
returns-in-Ok-None-clause-delivery_faults g c = rise_then _ _ _ c.turns.invariant.delivery_faults c.next_event.ensures.delivery_faults

pub returns-in-Err-clause-served : goal.returns-in-Err-clause-served
returns-in-Err-clause-served g c =
    fails c.theorems_of_runs_hold.ensures c.parts_are_delivered.ensures.none c.parts_are_delivered.ensures.both c.runs_keep_noninterference.ensures.offers c.bytes_are_seen.ensures.law _ _ _
    c.turns.invariant.served _ (omega arith) (link_state g.N.Link c.next_event.new.link) c.next_event.ensures.output c.next_event.ensures.delivery_faults _
    c.in-Err.ensures.received

pub returns-in-Err-clause-lost : goal.returns-in-Err-clause-lost
returns-in-Err-clause-lost g c = lost_still _ _ _ _ _ _ c.turns.invariant.lost c.next_event.ensures.output c.next_event.ensures.delivery_faults

pub returns-in-Err-clause-delivery_faults : goal.returns-in-Err-clause-delivery_faults
returns-in-Err-clause-delivery_faults g c = rise_then _ _ _ c.turns.invariant.delivery_faults c.next_event.ensures.delivery_faults

pub returns-clause-served : goal.returns-clause-served
returns-clause-served g c =
    ends c.theorems_of_runs_hold.ensures c.parts_are_delivered.ensures.none c.parts_are_delivered.ensures.both c.runs_keep_noninterference.ensures.offers c.bytes_are_seen.ensures.law _ _ _
    c.turns.invariant.served _ (omega arith)

pub returns-in-Err-serve_event-clause-bound : goal.returns-in-Err-serve_event-clause-bound
returns-in-Err-serve_event-clause-bound g c = c.serve_event.ensures.bound ∙ (bound_within _ _ _ c.next_event.ensures.calls ∙ c.turns.invariant.bound)

pub returns-in-Ok-None-clause-bound : goal.returns-in-Ok-None-clause-bound
returns-in-Ok-None-clause-bound g c = bound_within _ _ _ c.next_event.ensures.calls ∙ c.turns.invariant.bound

pub returns-in-Err-clause-bound : goal.returns-in-Err-clause-bound
returns-in-Err-clause-bound g c = bound_within _ _ _ c.next_event.ensures.calls ∙ c.turns.invariant.bound

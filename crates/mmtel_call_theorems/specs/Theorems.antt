-- What is claimed of every trace of a call, in the terms of SIP.
use Rattle.std.specs.Prelude.{◌++◌, ◌≡◌, ℕ, ◌+◌, Bool, false, true, List, [], map, count_by}
use Rattle.mmtel_charging.specs.Meters.{MeterView}
use Rattle.mmtel_charging.specs.declared.rows.Kind.{Kind}
use Rattle.mmtel_charging.specs.declared.rows.Row.{Row}
use Rattle.mmtel_output.specs.declared.outputs.StepOutput.{StepOutput}
use Rattle.mmtel_precedence.specs.Calls.{SnapshotView}
use Rattle.mmtel_precedence.specs.Theorems.{diversions_made}
use Rattle.mmtel_transaction.specs.declared.words.TKey.{TKey}
use Rattle.mmtel_types.specs.declared.causes.Cause.{Cause}
use Rattle.mmtel_types.specs.declared.numbers.Account.{Account}
use Rattle.mmtel_types.specs.declared.numbers.CallNo.{CallNo}
use Rattle.mmtel_call_services.specs.CallConfig.{CallConfigView}
use Rattle.mmtel_call_services.specs.declared.charging_records.Ending.{Ending}
use Rattle.mmtel_call.specs.Detaching.{call_finish}
use Rattle.mmtel_call.specs.Table.{step}
use Rattle.mmtel_call.specs.declared.calls.Call.{Call}
use Rattle.mmtel_call.specs.declared.calls.Phase.TheVariants.{Over}
use Rattle.mmtel_call.specs.declared.signals.Signal.{Signal}
use Rattle.mmtel_call_theorems.specs.Charging.{charging_records_of_parts, parts_of, running_meters}
use Rattle.mmtel_call_theorems.specs.Endings.{answer_moment, endings_after}
use Rattle.mmtel_call_theorems.specs.Outcomes.{call_inputs_after, initially_remaining, outcome_after, result_of}
use Rattle.mmtel_call_theorems.specs.Labels.{HasOtherKey, HaveEmptyOutputs, InFlightHasOtherKeys, PhaseHasOtherKey, emits_while_offered}
use Rattle.mmtel_call_theorems.specs.Labels.{is_offered, label_of_result, labels_of, labels_of_step, labels_of_targets}
use Rattle.mmtel_call_theorems.specs.CallTrace.{TraceStep, TraceStart, items_added, call_after, first_step, is_over, over_at, charging_records_after, opening_in}

-- ---- the precedence of services

-- the result of the call so far is that of Outcome
abbrev pub ReachesItsOutcome : Type 0
ReachesItsOutcome = (s : TraceStart) (received : List TraceStep) → result_of (call_after s received) ≡ (outcome_after s received).result

-- ---- what is sent

-- while it is offered, the targets get the INVITEs that Outcome gives, in order, and then the caller gets one final response, by the result: a 2xx if the call was answered,
-- otherwise one with the status of the cause
abbrev pub ShowsItsOutcome : Type 0
ShowsItsOutcome = (s : TraceStart) (received : List TraceStep) → HaveEmptyOutputs s received →
    labels_of s.arrival.key (emits_while_offered s received)
    ≡ labels_of_targets (opening_in s) (outcome_after s received).targets ++ label_of_result (outcome_after s received).result

-- the requests whose responses it awaits are other ones than that of this server transaction
abbrev pub CallHasOtherKeys : (key : TKey) → Call → Type 0
CallHasOtherKeys key c = PhaseHasOtherKey key c.phase × InFlightHasOtherKeys key c.relayed

-- whatever a call receives, in any trace, as long as each later request has a server transaction of its own
pub record ShowsNothingLater : Type 0 where
  -- so have those whose responses it awaits, an INVITE of a side and the requests in flight beside it: as it opens, and after each step
  pub opens : (s : TraceStart) (key : TKey) → CallHasOtherKeys key (first_step s).call
  pub steps : (config : CallConfigView) (now : SnapshotView) (received : Signal) (c : Call) (output : StepOutput) (key : TKey) → CallHasOtherKeys key c → HasOtherKey key received →
      CallHasOtherKeys key (step config now received c output).call
  -- while it is offered no INVITE is relayed, so everything observed counts
  pub all : (config : CallConfigView) (now : SnapshotView) (received : Signal) (c : Call) (output : StepOutput) (key : TKey) → is_offered c.phase ≡ true →
      labels_of_step key received (items_added output.out (step config now received c output).output.out)
      ≡ labels_of key (items_added output.out (step config now received c output).output.out)
  -- once it is not offered any more, it sends no INVITE to a target, and no final response to the INVITE that opened it: neither on what it receives,
  pub none : (config : CallConfigView) (now : SnapshotView) (received : Signal) (c : Call) (output : StepOutput) (key : TKey) →
      is_offered c.phase ≡ false → CallHasOtherKeys key c → HasOtherKey key received →
      labels_of_step key received (items_added output.out (step config now received c output).output.out) ≡ []
  -- nor where it ends without a leg that was detached from it
  pub ends : (config : CallConfigView) (at : ℕ) (c : Call) (output : StepOutput) (key : TKey) → InFlightHasOtherKeys key c.relayed →
      labels_of key (items_added output.out (call_finish config at c output).output.out) ≡ []

-- ---- the bound

-- as many diversions are left as the bound leaves after those that the call came with and those that were made
abbrev pub DiversionsAreCounted : Type 0
DiversionsAreCounted = (s : TraceStart) (received : List TraceStep) →
    (call_after s received).diversions.remaining + diversions_made (outcome_after s received) ≡ initially_remaining s

-- ---- charging

-- a part that began, regardless of when it was answered
pub record BegunPart : Type 0 where
  pub kind : Kind
  pub account : Account
  pub call : CallNo
  pub began : ℕ

abbrev pub part_of_meter : MeterView → BegunPart
part_of_meter m = record { kind = m.kind; account = m.account; call = m.call; began = m.began }

abbrev pub part_of_charging_record : Row → BegunPart
part_of_charging_record row = record { kind = row.kind; account = row.account; call = row.call; began = row.began }

-- the parts that began in a trace, in that order
abbrev pub parts_after : TraceStart → List TraceStep → List MeterView
parts_after s received = parts_of (call_inputs_after s received) s.arrival.number (outcome_after s received).targets

-- how it ended with this cause: when it was answered, when it was over, and how often it was held
abbrev pub ending_by_cause : TraceStart → List TraceStep → Cause → Ending
ending_by_cause s received cause = record { answered = (call_after s received).answered; at = over_at s received; holds = (call_after s received).hold.holds; cause = cause }

-- their CDRs
abbrev pub charges_due_after : TraceStart → List TraceStep → Cause → List Row
charges_due_after s received cause = charging_records_of_parts (ending_by_cause s received cause) (call_inputs_after s received) s.arrival.number (outcome_after s received).targets

pub record ChargingIsExact : Type 0 where
  -- it was answered when an attempt was
  pub answered : (s : TraceStart) (received : List TraceStep) → (call_after s received).answered ≡ answer_moment (endings_after s received)
  -- while the call is not over no CDR is filed, and the parts that began run
  pub runs : (s : TraceStart) (received : List TraceStep) → is_over (call_after s received).phase ≡ false →
      (running_meters (call_after s received) ≡ parts_after s received) × (charging_records_after s received ≡ [])
  -- once it is over no part runs, and for each part that began a CDR was filed, in the order begun
  pub filed : (s : TraceStart) (received : List TraceStep) (cause : Cause) → (call_after s received).phase ≡ Over cause →
      (running_meters (call_after s received) ≡ []) × (charging_records_after s received ≡ charges_due_after s received cause)
  -- of each kind of part: as many began as run or were filed
  pub each : (s : TraceStart) (received : List TraceStep) (p : BegunPart → Bool) →
      count_by p (map part_of_meter (parts_after s received)) ≡ count_by p (map part_of_meter (running_meters (call_after s received)))
      + count_by p (map part_of_charging_record (charging_records_after s received))

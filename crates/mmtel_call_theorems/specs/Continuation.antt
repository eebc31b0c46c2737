-- The invariants of a call from step to step: how it opened, in every trace; and, once it is established or a leg of it is detached, its parts, until both sides have left (TS
-- 32.260 §5). With these theorems the result of a call also follows from traces that contain more than signals.
use Rattle.std.specs.Prelude.{◌≡◌, true, false, ℕ, Bool, List, [], ◌++◌, Option, None, is_some}
use Rattle.mmtel_charging.specs.Meters.{MeterView}
use Rattle.mmtel_charging.specs.declared.rows.Row.{Row}
use Rattle.mmtel_output.specs.declared.outputs.StepOutput.{StepOutput}
use Rattle.mmtel_precedence.specs.Calls.{SnapshotView}
use Rattle.mmtel_types.specs.declared.causes.Cause.{Cause}
use Rattle.mmtel_types.specs.declared.causes.Cause.TheVariants.{Ended}
use Rattle.mmtel_call_services.specs.Decisions.{service_sheet}
use Rattle.mmtel_call_services.specs.ChargingRecords.{charging_records}
use Rattle.mmtel_call_services.specs.CallConfig.{CallConfigView}
use Rattle.mmtel_call_services.specs.declared.charging_records.Ending.{Ending}
use Rattle.mmtel_call.specs.Closing.{StepResult}
use Rattle.mmtel_call.specs.Detaching.{caller_meter_of, target_meter_of}
use Rattle.mmtel_call.specs.Table.{step}
use Rattle.mmtel_call.specs.declared.calls.Call.{Call}
use Rattle.mmtel_call.specs.declared.calls.Phase.{Phase}
use Rattle.mmtel_call.specs.declared.calls.Phase.TheVariants.{Detached, Established, Offered, Over}
use Rattle.mmtel_call.specs.declared.calls.OfferedAttempt.{OfferedAttempt}
use Rattle.mmtel_call.specs.declared.signals.Signal.{Signal}
use Rattle.mmtel_call_theorems.specs.Charging.{last_part, origin_part, past_parts}
use Rattle.mmtel_call_theorems.specs.Outcomes.{call_inputs_after, last_record, outcome_after}
use Rattle.mmtel_call_theorems.specs.CallTrace.{TraceStart, TraceStep, call_after, is_over, opening_in}

-- ---- the parts of a call that run

-- that of its caller, those that are past, and that of the target that it reached last
pub record Parts : Type 0 where
  pub first : Option MeterView
  pub past : List MeterView
  pub last : Option MeterView

abbrev pub parts_in : Phase → (past : List MeterView) → Parts
parts_in (Offered x) past = record { first = x.caller.meter; past = past; last = x.callee.leg.meter }
parts_in (Established x stage) past = record { first = x.caller.meter; past = past; last = x.callee.meter }
parts_in (Detached detached) past = record { first = caller_meter_of detached.remaining detached.meter; past = past; last = target_meter_of detached.remaining detached.meter }
parts_in (Over cause) past = record { first = None; past = past; last = None }

abbrev pub parts_now : Call → Parts
parts_now c = parts_in c.phase c.past

-- those that began according to Outcome
abbrev pub parts_begun : TraceStart → List TraceStep → Parts
parts_begun s received = record {
  first = origin_part (call_inputs_after s received) s.arrival.number;
  past = past_parts (call_inputs_after s received) s.arrival.number 0 None (outcome_after s received).targets;
  last = last_part (call_inputs_after s received) s.arrival.number 0 (outcome_after s received).targets;
}

-- ---- one step

-- what does not change in a call
pub record StaysSame (c d : Call) : Type 0 where
  pub opening : d.opening ≡ c.opening
  pub diversions : d.diversions ≡ c.diversions
  pub answered : d.answered ≡ c.answered

-- it was answered and is not over
abbrev pub is_established_in : Phase → Bool
is_established_in (Offered x) = false
is_established_in (Established x stage) = true
is_established_in (Detached detached) = true
is_established_in (Over cause) = false

-- it is still established, and its parts continue
pub record StaysEstablished (c : Call) (rows : List Row) (s : StepResult) : Type 0 where
  pub same : StaysSame c s.call
  pub established : is_established_in s.call.phase ≡ true
  pub parts : parts_now s.call ≡ parts_now c
  pub none : s.output.rows ≡ rows

-- how it ended at this moment
abbrev pub ending_at : Call → (at : ℕ) → Ending
ending_at c at = record { answered = c.answered; at = at; holds = c.hold.holds; cause = Ended }

-- both sides have left, nothing is in flight, and for each part a CDR was filed
pub record HasEnded (at : ℕ) (c : Call) (rows : List Row) (s : StepResult) : Type 0 where
  pub same : StaysSame c s.call
  pub over : s.call.phase ≡ Over Ended
  pub past : s.call.past ≡ []
  pub in_flight : s.call.relayed ≡ []
  pub filed : s.output.rows ≡ rows ++ charging_records (ending_at s.call at) (parts_now c).past (parts_now c).first (parts_now c).last

pub data ContinuesOrEnds (at : ℕ) (c : Call) (rows : List Row) (s : StepResult) : Type 0 where
  Continues : StaysEstablished c rows s → ContinuesOrEnds at c rows s
  Ends : HasEnded at c rows s → ContinuesOrEnds at c rows s

-- it is over, and remains over
pub record StaysOver (c : Call) (rows : List Row) (s : StepResult) : Type 0 where
  pub same : StaysSame c s.call
  pub phase : s.call.phase ≡ c.phase
  pub past : s.call.past ≡ c.past
  pub hold : s.call.hold ≡ c.hold
  pub in_flight : s.call.relayed ≡ []
  pub none : s.output.rows ≡ rows

-- ---- the theorems

pub record CallsContinue : Type 0 where
  -- a call remains the one that was opened
  pub opening : (s : TraceStart) (received : List TraceStep) → (call_after s received).opening ≡ opening_in s
  -- while it is not over, those parts run that began according to Outcome
  pub parts : (s : TraceStart) (received : List TraceStep) → is_over (call_after s received).phase ≡ false → parts_now (call_after s received) ≡ parts_begun s received
  -- while it is offered, it uses the record that the account of the last target of Outcome had when the call reached that target
  pub sheet_of : (s : TraceStart) (received : List TraceStep) (x : OfferedAttempt) → (call_after s received).phase ≡ Offered x →
      service_sheet x.attempt.service ≡ last_record (call_inputs_after s received) 0 (outcome_after s received).targets
  -- one that is established was answered
  pub answered : (s : TraceStart) (received : List TraceStep) → is_established_in (call_after s received).phase ≡ true → is_some (call_after s received).answered ≡ true
  -- and one that was answered is over with the cause `Ended` alone
  pub cause : (s : TraceStart) (received : List TraceStep) (cause : Cause) → (call_after s received).phase ≡ Over cause →
      is_some (call_after s received).answered ≡ true → cause ≡ Ended
  -- whatever it receives, a call that is established remains so, or ends; one that is over remains over
  pub established : (config : CallConfigView) (now : SnapshotView) (received : Signal) (c : Call) (output : StepOutput) →
      is_established_in c.phase ≡ true → ContinuesOrEnds now.at c output.rows (step config now received c output)
  pub ended : (config : CallConfigView) (now : SnapshotView) (received : Signal) (c : Call) (output : StepOutput) → is_over c.phase ≡ true → c.relayed ≡ [] →
      StaysOver c output.rows (step config now received c output)
  -- and its PRACKs and UPDATEs all got their final responses
  pub dismissed : (s : TraceStart) (received : List TraceStep) → is_over (call_after s received).phase ≡ true → (call_after s received).relayed ≡ []

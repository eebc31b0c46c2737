-- The phase of a call, beside the state of the moves of the precedence of services.
use Rattle.std.proofs.Common.{◌≡◌, ℕ, suc, ◌+◌, ◌-◌, true, false, List, [], ◌++◌, length, refl}
use Rattle.std.specs.Prelude.{Option, Some, None, count_by, is_some}
use Rattle.std.specs.Option.{option_map}
use Rattle.mmtel_charging.specs.declared.rows.Row.{Row}
use Rattle.mmtel_leg.specs.Legs.{Leg}
use Rattle.mmtel_precedence.specs.Calls.{Final, ReachedTargetView, SnapshotView, Answered, OutcomeTarget}
use Rattle.mmtel_precedence.specs.Theorems.{is_diverted_to}
use Rattle.mmtel_precedence.specs.Moves as moves
use Rattle.mmtel_precedence.specs.Moves.{CallState, account_at}
use Rattle.mmtel_precedence.specs.NextSteps as turns
use Rattle.mmtel_types.specs.declared.causes.Cause.{Cause}
use Rattle.mmtel_types.specs.declared.causes.Cause.TheVariants as causes
use Rattle.mmtel_call_services.specs.Decisions.{service_sheet}
use Rattle.mmtel_call_services.specs.ChargingRecords.{cause_by}
use Rattle.mmtel_call_services.specs.CallConfig.{CallConfigView}
use Rattle.mmtel_call_services.specs.declared.openings.Opening.{Opening}
use Rattle.mmtel_call_services.specs.declared.charging_records.Ending.{Ending}
use Rattle.mmtel_call.specs.Closing.{StepResult, account_in}
use Rattle.mmtel_call.specs.declared.calls.Call.{Call}
use Rattle.mmtel_call.specs.declared.calls.EstablishedLegs.{EstablishedLegs}
use Rattle.mmtel_call.specs.declared.calls.Phase.TheVariants.{Offered, Established, Over}
use Rattle.mmtel_call.specs.declared.calls.Stage.{Stage}
use Rattle.mmtel_call.specs.declared.calls.OfferedAttempt.{OfferedAttempt}
use Rattle.mmtel_call_theorems.specs.Charging.{charging_records_of_parts, last_part, origin_part, past_parts}
use Rattle.mmtel_call_theorems.specs.Labels.{Label, label_of_result, labels_of, labels_of_targets}
use Rattle.mmtel_call_theorems.specs.Outcomes.{call_inputs_of, last_record, received_diversions, result_if_answered}
use Rattle.mmtel_call_theorems.proofs.Parts.{all_parts, last_served}

-- how many diversions the bound leaves at first
abbrev pub total : CallConfigView → Opening → ℕ
total config o = config.bound - received_diversions o

-- it is offered: in the moves this target rings
pub record IsRinging (config : CallConfigView) (first : SnapshotView) (o : Opening) (later : ℕ → SnapshotView) (kept : CallState) (c : Call) (filed : List Row) (x : OfferedAttempt)
    (reach : ReachedTargetView) : Type 0 where
  pub phase : c.phase ≡ Offered x
  pub rings : kept.phase ≡ moves.Ringing (account_at reach)
  pub sheet : turns.sheet_of reach ≡ service_sheet x.attempt.service
  pub record_of : service_sheet x.attempt.service ≡ last_record (call_inputs_of config first o later) 0 kept.targets
  pub answered : c.answered ≡ None
  pub origin : x.caller.meter ≡ origin_part (call_inputs_of config first o later) o.number
  pub past : c.past ≡ past_parts (call_inputs_of config first o later) o.number 0 None kept.targets
  pub last : x.callee.leg.meter ≡ last_part (call_inputs_of config first o later) o.number 0 kept.targets
  pub served : last_served (call_inputs_of config first o later) None kept.targets ≡ option_map account_in x.attempt.service
  pub reached : length kept.targets ≡ suc kept.done
  pub none : filed ≡ []

-- it was answered
pub record IsEstablished (config : CallConfigView) (first : SnapshotView) (o : Opening) (later : ℕ → SnapshotView) (kept : CallState) (c : Call) (filed : List Row) (x : EstablishedLegs)
    (stage : Stage) (moment : ℕ) : Type 0 where
  pub phase : c.phase ≡ Established x stage
  pub over : kept.phase ≡ moves.Over Answered
  pub answered : c.answered ≡ Some moment
  pub origin : x.caller.meter ≡ origin_part (call_inputs_of config first o later) o.number
  pub past : c.past ≡ past_parts (call_inputs_of config first o later) o.number 0 None kept.targets
  pub last : x.callee.meter ≡ last_part (call_inputs_of config first o later) o.number 0 kept.targets
  pub none : filed ≡ []

-- how a call ended at this moment
abbrev pub ending_at : Call → (at : ℕ) → Cause → Ending
ending_at c at cause = record { answered = c.answered; at = at; holds = c.hold.holds; cause = cause }

-- an answered call is over with one cause alone
pub by-answer : (answered : Option ℕ) (cause : Cause) → is_some answered ≡ true → cause_by answered cause ≡ causes.Ended
by-answer None cause h = absurd (let e : false ≡ true = h in cc)
by-answer (Some at) cause h = refl

-- it is over
pub record IsEnded (config : CallConfigView) (first : SnapshotView) (o : Opening) (later : ℕ → SnapshotView) (kept : CallState) (c : Call) (filed : List Row) (at : ℕ) (cause : Cause) : Type 0 where
  pub phase : c.phase ≡ Over cause
  pub over : kept.phase ≡ moves.Over (result_if_answered c.answered (Final cause))
  pub why : is_some c.answered ≡ true → cause ≡ causes.Ended
  pub past : c.past ≡ []
  pub rows : filed ≡ charging_records_of_parts (ending_at c at cause) (call_inputs_of config first o later) o.number kept.targets

pub data Place (config : CallConfigView) (first : SnapshotView) (o : Opening) (later : ℕ → SnapshotView) (kept : CallState) (c : Call) (filed : List Row) (at : ℕ) : Type 0 where
  Rings : (x : OfferedAttempt) → (reach : ReachedTargetView) → IsRinging config first o later kept c filed x reach → Place config first o later kept c filed at
  Talks : (x : EstablishedLegs) → (stage : Stage) → (moment : ℕ) → IsEstablished config first o later kept c filed x stage moment → Place config first o later kept c filed at
  Ends : (cause : Cause) → IsEnded config first o later kept c filed at cause → Place config first o later kept c filed at

pub record Agrees (config : CallConfigView) (first : SnapshotView) (o : Opening) (later : ℕ → SnapshotView) (kept : CallState) (c : Call) (filed : List Row) (at : ℕ) : Type 0 where
  pub opening : c.opening ≡ o
  pub remaining : c.diversions.remaining + kept.done ≡ total config o
  pub count : c.diversions.count ≡ received_diversions o + kept.done
  pub made : count_by is_diverted_to kept.targets ≡ kept.done
  pub empty : kept.endings ≡ []
  pub place : Place config first o later kept c filed at

-- after some moves from here, the phase of the call is the one that this step led to, and these CDRs were filed
abbrev pub Came : CallConfigView → SnapshotView → Opening → (ℕ → SnapshotView) → CallState → List Row → StepResult → (at : ℕ) → Type 0
Came config first o later kept rows s at =
    (n : ℕ) × (filed : List Row) × (s.output.rows ≡ rows ++ filed) × Agrees config first o later (moves.moves n (call_inputs_of config first o later) kept) s.call filed at

-- and, if P holds, the INVITEs due for the targets that it reached since these were sent, and the final response due for its result
abbrev pub Shows : Type 0 → Opening → (before : List OutcomeTarget) → CallState → (old : List Label) → StepResult → Type 0
Shows P o before kept old s =
    (new : List OutcomeTarget) × (kept.targets ≡ before ++ new) × (P → labels_of o.key s.output.out ≡ old ++ (labels_of_targets o new ++ label_of_result (moves.result_in kept.phase)))

abbrev pub Comes : CallConfigView → SnapshotView → Opening → (ℕ → SnapshotView) → Type 0 → (before : List OutcomeTarget) → CallState → List Row → (old : List Label) → StepResult → (at : ℕ) → Type 0
Comes config first o later P before kept rows old s at =
    (n : ℕ) × (filed : List Row) × (s.output.rows ≡ rows ++ filed) × Agrees config first o later (moves.moves n (call_inputs_of config first o later) kept) s.call filed at
    × Shows P o before (moves.moves n (call_inputs_of config first o later) kept) old s

-- the legs of a call that continues or is refused, and the past parts
pub record IsReady (config : CallConfigView) (first : SnapshotView) (later : ℕ → SnapshotView) (caller : Leg) (c : Call) (kept : CallState) : Type 0 where
  pub answered : c.answered ≡ None
  pub remaining : c.diversions.remaining + kept.done ≡ total config c.opening
  pub count : c.diversions.count ≡ received_diversions c.opening + kept.done
  pub made : count_by is_diverted_to kept.targets ≡ kept.done
  pub empty : kept.endings ≡ []
  pub origin : caller.meter ≡ origin_part (call_inputs_of config first c.opening later) c.opening.number
  pub past : c.past ≡ all_parts (call_inputs_of config first c.opening later) c.opening.number 0 None kept.targets

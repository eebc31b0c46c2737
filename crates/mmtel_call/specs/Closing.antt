-- How a call ends: its meters give their CDRs, in the order in which the parts began (TS 32.260 §5).
use Rattle.std.specs.Prelude.{ℕ, Option, None, List, [], ◌++◌, option_to_list}
use Rattle.std.specs.Option.{option_map}
use Rattle.mmtel_charging.specs.Meters.{MeterView}
use Rattle.mmtel_charging.specs.declared.rows.Kind.{Kind}
use Rattle.mmtel_charging.specs.declared.rows.Row.{Row}
use Rattle.mmtel_output.specs.declared.outputs.StepOutput.{StepOutput}
use Rattle.mmtel_types.specs.declared.causes.Cause.{Cause}
use Rattle.mmtel_types.specs.declared.causes.Cause.TheVariants.{Ended}
use Rattle.mmtel_types.specs.declared.numbers.Account.{Account}
use Rattle.mmtel_types.specs.declared.numbers.CallNo.{CallNo}
use Rattle.mmtel_call_services.specs.ChargingRecords.{cause_by, charging_records}
use Rattle.mmtel_call_services.specs.declared.charging_records.Ending.{Ending}
use Rattle.mmtel_call.specs.Calls.{Call, EstablishedLegs, OfferedAttempt, Over, Service}

-- a call after a step, and the output of that step
pub record StepResult : Type 0 where
  pub call : Call
  pub output : StepOutput

-- the call and the output after a step
abbrev pub step_result : Call → StepOutput → StepResult
step_result c output = record { call = c; output = output }

-- ---- meters

abbrev pub new_meter : Kind → CallNo → (at : ℕ) → Account → MeterView
new_meter kind call at account = record { kind = kind; account = account; call = call; began = at; answered = None }

-- the meter of an account, if there is one
abbrev pub meter_of : Kind → Call → (at : ℕ) → Option Account → Option MeterView
meter_of kind c at account = option_map (new_meter kind c.opening.number at) account

abbrev pub account_in : Service → Account
account_in service = service.account

-- the meter of the served account, if there is one
abbrev pub meter_for : Kind → Call → (at : ℕ) → Option Service → Option MeterView
meter_for kind c at service = meter_of kind c at (option_map account_in service)

-- the meter of a part that is past is added to the others
abbrev pub with_past : Option MeterView → Call → Call
with_past meter c = record c { past = c.past ++ option_to_list meter }

-- ---- CDRs

abbrev pub ending_of : Call → (at : ℕ) → Cause → Ending
ending_of c at cause = record { answered = c.answered; at = at; holds = c.hold.holds; cause = cause_by c.answered cause }

abbrev pub with_rows : List Row → StepOutput → StepOutput
with_rows rows output = record output { rows = output.rows ++ rows }

-- ---- the end

-- the call is over with this cause, and its legs, which had these meters, have left
abbrev pub call_end : (at : ℕ) → Cause → (first last : Option MeterView) → Call → StepOutput → StepResult
call_end at cause first last c output = record {
  call = record c { past = []; relayed = []; phase = Over (cause_by c.answered cause) };
  output = with_rows (charging_records (ending_of c at cause) c.past first last) output;
}

-- the same for an offered call, and for an answered one
abbrev pub offered_call_end : (at : ℕ) → Cause → OfferedAttempt → Call → StepOutput → StepResult
offered_call_end at cause x c output = call_end at cause x.caller.meter x.callee.leg.meter c output

abbrev pub established_call_end : (at : ℕ) → EstablishedLegs → Call → StepOutput → StepResult
established_call_end at x c output = call_end at Ended x.caller.meter x.callee.meter c output

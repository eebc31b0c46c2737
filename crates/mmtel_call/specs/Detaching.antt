-- A stable call whose leg is detached from it, for a conference: the leg is put back, or the call ends (RFC 4579 §5.6, RFC 3891 §3).
use Rattle.std.specs.Prelude.{ℕ, Bool, true, false, Option, Some, None}
use Rattle.mmtel_charging.specs.Meters.{MeterView}
use Rattle.mmtel_output.specs.Sending.{with_bye}
use Rattle.mmtel_output.specs.declared.outputs.StepOutput.{StepOutput}
use Rattle.mmtel_leg.specs.Legs.{Leg}
use Rattle.mmtel_leg.specs.Releases.{released_leg}
use Rattle.mmtel_leg.specs.declared.legs.Released.{Released}
use Rattle.mmtel_leg.specs.declared.legs.Released.TheVariants as released
use Rattle.mmtel_types.specs.declared.causes.Cause.TheVariants.{Ended}
use Rattle.mmtel_types.specs.declared.sides.Side.{Side}
use Rattle.mmtel_types.specs.declared.sides.Side.TheVariants.{Caller, Callee}
use Rattle.mmtel_call_services.specs.CallConfig.{CallConfigView}
use Rattle.mmtel_call.specs.Answered.{at_stage, leg_of}
use Rattle.mmtel_call.specs.Calls.{Answered, Call, Departing, Detached, DetachedLeg, Established, EstablishedLegs, Offered, Over, Phase, Reinviting, Stable, Stage}
use Rattle.mmtel_call.specs.Closing.{StepResult, call_end, step_result}
use Rattle.mmtel_call.specs.RelayedTransactions.{output_after_dismissal, without_in_flight}

-- ---- a leg is detached

abbrev pub with_meter : Option MeterView → Leg → Leg
with_meter meter leg = record leg { meter = meter }

-- the leg without its meter, which stays with the call
abbrev pub removed_leg : Side → EstablishedLegs → Released
removed_leg Caller x = released.Caller (with_meter None x.caller)
removed_leg Callee x = released.Callee (with_meter None x.callee)

abbrev pub remaining_leg : Side → EstablishedLegs → Released
remaining_leg Caller x = released.Callee x.callee
remaining_leg Callee x = released.Caller x.caller

abbrev pub detached_of : Side → EstablishedLegs → DetachedLeg
detached_of side x = record { remaining = remaining_leg side x; meter = (leg_of side x).meter; service = x.service }

-- in a stable call alone
abbrev pub removed_leg_at : Stage → Side → EstablishedLegs → Option Released
removed_leg_at (Answered waiting success) side x = None
removed_leg_at (Departing waiting success) side x = None
removed_leg_at Stable side x = Some (removed_leg side x)
removed_leg_at (Reinviting asking q) side x = None

abbrev pub detached_at : Stage → Side → EstablishedLegs → Call → Call
detached_at (Answered waiting success) side x c = c
detached_at (Departing waiting success) side x c = c
detached_at Stable side x c = record c { phase = Detached (detached_of side x) }
detached_at (Reinviting asking q) side x c = c

abbrev pub removed_leg_in : Phase → Side → Option Released
removed_leg_in (Offered x) side = None
removed_leg_in (Established x stage) side = removed_leg_at stage side x
removed_leg_in (Detached detached) side = None
removed_leg_in (Over cause) side = None

abbrev pub detached_in : Phase → Side → Call → Call
detached_in (Offered x) side c = c
detached_in (Established x stage) side c = detached_at stage side x c
detached_in (Detached detached) side c = c
detached_in (Over cause) side c = c

-- ---- it is put back

-- whether it is of the other side than the remaining one, and has no meter
abbrev pub fits : (away left : Released) → Bool
fits (released.Caller leg) (released.Caller other) = false
fits (released.Caller leg) (released.Callee other) = true
fits (released.Callee leg) (released.Caller other) = true
fits (released.Callee leg) (released.Callee other) = false

abbrev pub fits_in : Phase → Released → Bool
fits_in (Offered x) away = false
fits_in (Established x stage) away = false
fits_in (Detached detached) away = fits away detached.remaining
fits_in (Over cause) away = false

abbrev pub legs_with : Released → DetachedLeg → EstablishedLegs
legs_with (released.Caller leg) detached = record { caller = with_meter detached.meter leg; callee = released_leg detached.remaining; service = detached.service }
legs_with (released.Callee leg) detached = record { caller = released_leg detached.remaining; callee = with_meter detached.meter leg; service = detached.service }

abbrev pub with_leg_restored : Phase → Released → Call → Call
with_leg_restored (Offered x) away c = c
with_leg_restored (Established x stage) away c = c
with_leg_restored (Detached detached) away c = at_stage (legs_with away detached) Stable c
with_leg_restored (Over cause) away c = c

-- ---- the call ends without it

-- the meter of the caller's leg, and that of the target's
abbrev pub caller_meter_of : Released → Option MeterView → Option MeterView
caller_meter_of (released.Caller leg) meter = leg.meter
caller_meter_of (released.Callee leg) meter = meter

abbrev pub target_meter_of : Released → Option MeterView → Option MeterView
target_meter_of (released.Caller leg) meter = meter
target_meter_of (released.Callee leg) meter = leg.meter

-- requests in flight first get their final responses (RFC 3262 §3, RFC 3311 §5.2); then BYE to the remaining leg, and the CDRs
abbrev pub finish_of_detached : CallConfigView → (at : ℕ) → DetachedLeg → Call → StepOutput → StepResult
finish_of_detached config at detached c output = call_end at Ended (caller_meter_of detached.remaining detached.meter)
    (target_meter_of detached.remaining detached.meter) c (with_bye config.sip (released_leg detached.remaining).dialogue output)

abbrev pub is_detached : Phase → Bool
is_detached (Offered x) = false
is_detached (Established x stage) = false
is_detached (Detached detached) = true
is_detached (Over cause) = false

abbrev pub finish_of_phase : Phase → CallConfigView → (at : ℕ) → Call → StepOutput → StepResult
finish_of_phase (Offered x) config at c output = step_result c output
finish_of_phase (Established x stage) config at c output = step_result c output
finish_of_phase (Detached detached) config at c output = finish_of_detached config at detached (without_in_flight c) (output_after_dismissal config c output)
finish_of_phase (Over cause) config at c output = step_result c output

unfoldable pub call_finish : CallConfigView → (at : ℕ) → Call → StepOutput → StepResult
call_finish config at c output = finish_of_phase c.phase config at c output

-- The CDRs that the meters of a call give once it is over, in the order in which the parts began (TS 32.260 §5).
use Rattle.std.specs.Prelude.{ℕ, Option, Some, None, List, ◌++◌, map, option_to_list}
use Rattle.mmtel_charging.specs.Meters.{MeterView, row_of_meter}
use Rattle.mmtel_charging.specs.declared.rows.Kind.{Kind}
use Rattle.mmtel_charging.specs.declared.rows.Kind.TheVariants.{Origin, Terminating, Diversion, Participant}
use Rattle.mmtel_charging.specs.declared.rows.Row.{Row}
use Rattle.mmtel_types.specs.declared.causes.Cause.{Cause}
use Rattle.mmtel_types.specs.declared.causes.Cause.TheVariants.{Ended}
use Rattle.mmtel_call_services.specs.declared.charging_records.Ending.{Ending}

abbrev pub with_answer : Option ℕ → MeterView → MeterView
with_answer None meter = meter
with_answer (Some at) meter = record meter { answered = Some at }

-- the moment of the answer in a past part; the part of an account that was reached and did not answer has none
abbrev pub past_answer : Kind → Option ℕ → Option ℕ
past_answer Terminating answered = None
past_answer Origin answered = answered
past_answer Diversion answered = answered
past_answer Participant answered = answered

-- the CDR of a meter among the past ones, and of the meter of the last target
unfoldable pub past_charging_record : Ending → MeterView → Row
past_charging_record end meter = row_of_meter (with_answer (past_answer meter.kind end.answered) meter) end.at end.holds end.cause

unfoldable pub last_charging_record : Ending → MeterView → Row
last_charging_record end meter = row_of_meter (with_answer end.answered meter) end.at end.holds end.cause

-- a call that was answered has the cause `Ended`, whatever ended it
abbrev pub cause_by : Option ℕ → Cause → Cause
cause_by None cause = cause
cause_by (Some at) cause = Ended

-- the CDRs: the caller's, those of the past parts, and that of the last target
abbrev pub charging_records : Ending → List MeterView → (first last : Option MeterView) → List Row
charging_records end past first last = map (past_charging_record end) (option_to_list first) ++ map (past_charging_record end) past
    ++ map (last_charging_record end) (option_to_list last)

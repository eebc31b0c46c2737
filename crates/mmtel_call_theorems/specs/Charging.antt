-- Who is charged in a trace, by the targets of its Outcome: the account that is served as the caller, from the opening on; each account that is reached; and each that diverts,
-- from when the next target is reached (TS 32.260 §5).
use Rattle.std.specs.Prelude.{ℕ, suc, List, [], ◌∷◌, ◌++◌, Option, None, option_to_list}
use Rattle.std.specs.Option.{option_map}
use Rattle.mmtel_charging.specs.Meters.{MeterView}
use Rattle.mmtel_charging.specs.declared.rows.Kind.{Kind}
use Rattle.mmtel_charging.specs.declared.rows.Kind.TheVariants.{Origin, Terminating, Diversion}
use Rattle.mmtel_charging.specs.declared.rows.Row.{Row}
use Rattle.mmtel_precedence.specs.Calls as precedence
use Rattle.mmtel_precedence.specs.Calls.{OutcomeTarget, snapshot_after}
use Rattle.mmtel_precedence.specs.Targets.{served_at}
use Rattle.mmtel_types.specs.declared.numbers.Account.{Account}
use Rattle.mmtel_types.specs.declared.numbers.CallNo.{CallNo}
use Rattle.mmtel_call_services.specs.ChargingRecords.{charging_records}
use Rattle.mmtel_call_services.specs.declared.charging_records.Ending.{Ending}
use Rattle.mmtel_call.specs.Closing.{new_meter}
use Rattle.mmtel_call.specs.Detaching.{caller_meter_of, target_meter_of}
use Rattle.mmtel_call.specs.declared.calls.Call.{Call}
use Rattle.mmtel_call.specs.declared.calls.Phase.{Phase}
use Rattle.mmtel_call.specs.declared.calls.Phase.TheVariants.{Detached, Established, Offered, Over}

-- ---- which parts began, and when

-- the part of an account, if there is one
abbrev pub part_of : Kind → CallNo → (at : ℕ) → Option Account → Option MeterView
part_of kind number at account = option_map (new_meter kind number at) account

-- that of the call's own account
abbrev pub origin_part : precedence.CallInputs → CallNo → Option MeterView
origin_part call number = part_of Origin number call.opening_snapshot.at call.served.origin

-- that of the account that is served at the target which is reached after k diversions
abbrev pub served_part : precedence.CallInputs → CallNo → (k : ℕ) → OutcomeTarget → Option MeterView
served_part call number k target = part_of Terminating number (snapshot_after call k).at (served_at call target.diversion target.uri)

-- that of the account that diverts to it, if one does
abbrev pub diverting_part : precedence.CallInputs → CallNo → (k : ℕ) → (diverts : Option Account) → Option MeterView
diverting_part call number k diverts = part_of Diversion number (snapshot_after call k).at diverts

-- those from the target that is reached after k diversions, to which this account diverts: all but that of the last target
abbrev pub past_parts : precedence.CallInputs → CallNo → (k : ℕ) → (diverts : Option Account) → List OutcomeTarget → List MeterView
past_parts call number k diverts [] = []
past_parts call number k diverts (target ∷ []) = option_to_list (diverting_part call number k diverts)
past_parts call number k diverts (target ∷ next ∷ later) =
    option_to_list (diverting_part call number k diverts)
    ++ option_to_list (served_part call number k target)
    ++ past_parts call number (suc k) (served_at call target.diversion target.uri) (next ∷ later)

-- that of the last target
abbrev pub last_part : precedence.CallInputs → CallNo → (k : ℕ) → List OutcomeTarget → Option MeterView
last_part call number k [] = None
last_part call number k (target ∷ []) = served_part call number k target
last_part call number k (target ∷ next ∷ later) = last_part call number (suc k) (next ∷ later)

-- in the order begun
abbrev pub parts_of : precedence.CallInputs → CallNo → List OutcomeTarget → List MeterView
parts_of call number targets =
    option_to_list (origin_part call number) ++ past_parts call number 0 None targets ++ option_to_list (last_part call number 0 targets)

-- their CDRs, after the call ended in this way
abbrev pub charging_records_of_parts : Ending → precedence.CallInputs → CallNo → List OutcomeTarget → List Row
charging_records_of_parts end call number targets = charging_records end (past_parts call number 0 None targets) (origin_part call number) (last_part call number 0 targets)

-- ---- which meters run

abbrev pub running_meters_in : Phase → (past : List MeterView) → List MeterView
running_meters_in (Offered x) past = option_to_list x.caller.meter ++ past ++ option_to_list x.callee.leg.meter
running_meters_in (Established x stage) past = option_to_list x.caller.meter ++ past ++ option_to_list x.callee.meter
running_meters_in (Detached detached) past = option_to_list (caller_meter_of detached.remaining detached.meter) ++ past
    ++ option_to_list (target_meter_of detached.remaining detached.meter)
running_meters_in (Over cause) past = past

abbrev pub running_meters : Call → List MeterView
running_meters c = running_meters_in c.phase c.past

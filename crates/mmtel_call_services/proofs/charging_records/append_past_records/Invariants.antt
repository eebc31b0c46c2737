use Rattle.std.proofs.Common.{◌≡◌, ◌++◌, map, length}
use Rattle.std.specs.Prelude.{OnOk}
use Rattle.mmtel_call_services.specs.ChargingRecords.{past_charging_record}
use Rattle.mmtel_call_services.proofs.charging_records.append_past_records.Given as goal

-- what was filed, and what is still to be filed
abbrev pub invariant-past : goal.invariant-past
invariant-past l = OnOk l.kept (l.rows ++ map (past_charging_record l.end) l.past ≡ l.fn.rows ++ map (past_charging_record l.end) l.fn.past)

abbrev pub decreases-past : goal.decreases-past
decreases-past l = length l.past

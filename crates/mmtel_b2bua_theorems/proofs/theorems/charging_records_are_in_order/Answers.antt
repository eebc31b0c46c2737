use Rattle.mmtel_b2bua_theorems.proofs.ChargingRecords.{of_calls}
use Rattle.mmtel_b2bua_theorems.proofs.Tabling.{in_order}
use Rattle.mmtel_b2bua_theorems.proofs.theorems.charging_records_are_in_order.Goals as goal

pub returns : goal.returns
returns c = record { law = in_order; calls = of_calls c.calls_continue.ensures.law c.charging_is_exact.ensures.law }

use Rattle.mmtel_b2bua_theorems.proofs.NoInjectionOfCalls.{send_no_injection}
use Rattle.mmtel_b2bua_theorems.proofs.NoInjectionOfTables.{legs_have_no_injection, ops_have_no_injection}
use Rattle.mmtel_b2bua_theorems.proofs.theorems.tables_send_no_injection.Goals as goal

pub returns : goal.returns
returns c =
    let heads = c.calls_send_no_injection.ensures in
    record {
      law = send_no_injection heads.no_injection heads.lines heads.finished c.calls_continue.ensures.law c.charging_is_exact.ensures.law;
      operations = ops_have_no_injection;
      legs = legs_have_no_injection;
    }

use Rattle.mmtel_focus_theorems.proofs.ChargedTables.{ops_charged}
use Rattle.mmtel_focus_theorems.proofs.charging_theorems.participants_are_charged_once.Goals as goal

pub returns : goal.returns
returns c = record { charged = ops_charged }

use Rattle.mmtel_run_definitions.proofs.ChargingRows.{none_waits, rows_are_filed, rows_in_order}
use Rattle.mmtel_run_definitions.proofs.theorems.rows_are_filed.Goals as goal

pub returns : goal.returns
returns c = record { all = rows_are_filed; order = rows_in_order; none = none_waits }

use Rattle.mmtel_run_theorems.proofs.Examples.{everybodys, restricted, they_come, unshown}
use Rattle.mmtel_run_theorems.proofs.noninterference.masks_compute.Goals as goal

pub returns : goal.returns
returns c = record { restricted = restricted; unshown = unshown; shown = everybodys; states = they_come }

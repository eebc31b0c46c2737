use Rattle.mmtel_run_theorems.proofs.Sources.{configurations_are_read}
use Rattle.mmtel_run_theorems.proofs.noninterference.configurations_are_read.Goals as goal

pub returns : goal.returns
returns c = record { read = configurations_are_read }

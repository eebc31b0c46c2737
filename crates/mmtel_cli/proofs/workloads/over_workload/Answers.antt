use Rattle.std.proofs.Common.{refl}
use Rattle.mmtel_cli.proofs.WorkConfig.{no_bad_line, work_directory}
use Rattle.mmtel_cli.proofs.workloads.over_workload.Goals as goal

pub unreachable-requires : goal.unreachable-requires
unreachable-requires g c = no_bad_line _ (rw c.in-Err-BadLine.field-0-is at c.in-Err-BadLine.ensures.exact)

pub returns-in-Err-NoMemory-clause-gives : goal.returns-in-Err-NoMemory-clause-gives
returns-in-Err-NoMemory-clause-gives g c = record { directory = work_directory.0; reads = work_directory.1; is_due = λ keeper. refl }

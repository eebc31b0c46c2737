use Rattle.mmtel_cli.proofs.CommandResults.{gives_line, gives_memory}
use Rattle.mmtel_cli.proofs.top.over_config.Goals as goal

pub returns-in-Err-BadLine-clause-gives : goal.returns-in-Err-BadLine-clause-gives
returns-in-Err-BadLine-clause-gives g c =
    gives_line _ _ _ _ _ _ (rw (← c.in-Err-BadLine.line-is) at (rw c.bytes.ensures at (rw c.in-Err-BadLine.field-0-is at c.in-Err-BadLine.ensures.exact)))

pub returns-in-Err-NoMemory-clause-gives : goal.returns-in-Err-NoMemory-clause-gives
returns-in-Err-NoMemory-clause-gives g c = gives_memory _ _ _ _

use Rattle.mmtel_cli.proofs.CommandResults.{serves_line, serves_short}
use Rattle.mmtel_cli.proofs.serving.over_config.Goals as goal

pub returns-in-Err-BadLine-clause-due : goal.returns-in-Err-BadLine-clause-due
returns-in-Err-BadLine-clause-due g c =
    serves_line _ _ _ _ _ (rw (← c.in-Err-BadLine.line-is) at (rw c.bytes.ensures at (rw c.in-Err-BadLine.field-0-is at c.in-Err-BadLine.ensures.exact)))

pub returns-in-Err-NoMemory-clause-due : goal.returns-in-Err-NoMemory-clause-due
returns-in-Err-NoMemory-clause-due g c = serves_short _ _ _ _

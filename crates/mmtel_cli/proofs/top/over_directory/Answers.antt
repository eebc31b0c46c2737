use Rattle.mmtel_cli.proofs.CommandResults.{gives_script, gives_no_script, gives_memory}
use Rattle.mmtel_cli.proofs.top.over_directory.Goals as goal

pub returns-in-Ok-clause-gives : goal.returns-in-Ok-clause-gives
returns-in-Ok-clause-gives g c =
    gives_script _ _ _ _ _ _ _ _ (rw c.bytes.ensures at c.in-Ok.ensures.text) (rw c.bytes-in-Ok.ensures at c.over_script-due.ensures.due)

pub returns-in-Err-Failed-clause-gives : goal.returns-in-Err-Failed-clause-gives
returns-in-Err-Failed-clause-gives g c =
    gives_no_script _ _ _ _ _ _ (rw c.bytes.ensures at (rw c.in-Err-Failed.field-0-is at c.in-Err-Failed.ensures.text))

pub returns-in-Err-NoMemory-clause-gives : goal.returns-in-Err-NoMemory-clause-gives
returns-in-Err-NoMemory-clause-gives g c = gives_memory _ _ _ _

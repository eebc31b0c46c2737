use Rattle.mmtel_cli.proofs.CommandResults.{gives_no_serve, gives_serve, gives_unread_serve}
use Rattle.mmtel_cli.proofs.serving.over_serve.Goals as goal

pub returns-in-Ok-clause-gives : goal.returns-in-Ok-clause-gives
returns-in-Ok-clause-gives g c = gives_serve _ _ _ _ _ _ _ _ _ (rw c.bytes.ensures at c.in-Ok.ensures.text) c.over_config-due.ensures.due

pub returns-in-Err-Failed-clause-gives : goal.returns-in-Err-Failed-clause-gives
returns-in-Err-Failed-clause-gives g c =
    gives_no_serve _ _ _ _ _ _ (rw c.bytes.ensures at (rw c.in-Err-Failed.field-0-is at c.in-Err-Failed.ensures.text))

pub returns-in-Err-NoMemory-clause-gives : goal.returns-in-Err-NoMemory-clause-gives
returns-in-Err-NoMemory-clause-gives g c = gives_unread_serve _ _ _ _ _

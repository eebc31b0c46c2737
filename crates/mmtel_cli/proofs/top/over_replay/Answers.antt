use Rattle.mmtel_cli.proofs.CommandResults.{config_after_call, gives_config, gives_no_config, gives_no_memory}
use Rattle.mmtel_cli.proofs.top.over_replay.Goals as goal

pub returns-in-Ok-clause-gives : goal.returns-in-Ok-clause-gives
returns-in-Ok-clause-gives g c = gives_config _ _ _ _ _ _ _ (rw c.bytes.ensures at c.in-Ok.ensures.text) c.over_config-due.ensures.gives

pub returns-in-Err-Failed-clause-gives : goal.returns-in-Err-Failed-clause-gives
returns-in-Err-Failed-clause-gives g c =
    gives_no_config _ _ _ _ _ (rw c.bytes.ensures at (rw c.in-Err-Failed.field-0-is at c.in-Err-Failed.ensures.text))

pub returns-in-Err-NoMemory-clause-gives : goal.returns-in-Err-NoMemory-clause-gives
returns-in-Err-NoMemory-clause-gives g c = gives_no_memory _ _ _

pub returns-in-Ok-clause-calls : goal.returns-in-Ok-clause-calls
returns-in-Ok-clause-calls g c = config_after_call _ _ _ _ _ _ (rw c.bytes.ensures at c.in-Ok.ensures.text) c.over_config-due.ensures.calls

use Rattle.mmtel_cli.proofs.CommandResults.{result_of_text, result_of_no_text, result_of_unread}
use Rattle.mmtel_cli.proofs.checks.over_records.Goals as goal

pub returns-in-Ok-clause-gives : goal.returns-in-Ok-clause-gives
returns-in-Ok-clause-gives g c = result_of_text _ _ _ _ _ c.in-Ok.ensures.text c.over_text.ensures.due

pub returns-in-Err-Failed-clause-gives : goal.returns-in-Err-Failed-clause-gives
returns-in-Err-Failed-clause-gives g c = result_of_no_text _ _ _ (rw c.in-Err-Failed.field-0-is at c.in-Err-Failed.ensures.text)

pub returns-in-Err-NoMemory-clause-gives : goal.returns-in-Err-NoMemory-clause-gives
returns-in-Err-NoMemory-clause-gives g c = result_of_unread _ _

use Rattle.mmtel_cli.proofs.CommandResults.{gives_charges, gives_no_charges, gives_unread_charges}
use Rattle.mmtel_cli.proofs.charges.over_charges.Goals as goal

pub returns-in-Ok-clause-gives : goal.returns-in-Ok-clause-gives
returns-in-Ok-clause-gives g c = gives_charges _ _ _ _ _ _ _ c.in-Ok.ensures.text c.over_text.ensures.due c.over_text.ensures.held

pub returns-in-Err-Failed-clause-gives : goal.returns-in-Err-Failed-clause-gives
returns-in-Err-Failed-clause-gives g c = gives_no_charges _ _ _ _ (rw c.in-Err-Failed.field-0-is at c.in-Err-Failed.ensures.text)

pub returns-in-Err-NoMemory-clause-gives : goal.returns-in-Err-NoMemory-clause-gives
returns-in-Err-NoMemory-clause-gives g c = gives_unread_charges _ _ _

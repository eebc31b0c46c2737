use Rattle.mmtel_cli.proofs.OutOfMemory.{aborted_untouched}
use Rattle.mmtel_cli.proofs.charges.over_text.Goals as goal

pub returns-in-Err-NoMemory-clause-due : goal.returns-in-Err-NoMemory-clause-due
returns-in-Err-NoMemory-clause-due g c = aborted_untouched _ _

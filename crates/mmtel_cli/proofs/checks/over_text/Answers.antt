use Rattle.mmtel_cli.proofs.OutOfMemory.{aborted_untouched}
use Rattle.mmtel_cli.proofs.checks.over_text.Goals as goal

pub returns-in-Err-clause-due : goal.returns-in-Err-clause-due
returns-in-Err-clause-due c = λ keeper. aborted_untouched keeper _

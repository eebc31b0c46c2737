use Rattle.std.proofs.Common.{inr, refl}
use Rattle.mmtel_cli.proofs.charges.over_store.Goals as goal

pub returns-in-Err-NoMemory-clause-due : goal.returns-in-Err-NoMemory-clause-due
returns-in-Err-NoMemory-clause-due g c = inr ((rw c.in-Err-NoMemory.field-0-is at c.in-Err-NoMemory.ensures.stopped) refl)

use Rattle.std.proofs.Common.{refl}
use Rattle.mmtel_cli.specs.OutOfMemory.{AbortedServeOpening}
use Rattle.mmtel_cli.proofs.serving.over_directory.Goals as goal

pub returns-in-Ok-clause-served : goal.returns-in-Ok-clause-served
returns-in-Ok-clause-served g c = c.over_loaded-due.ensures.served _ (rw (← c.items.ensures) at (rw c.bytes.ensures at c.in-Ok.ensures.loaded))

pub returns-in-Err-NoMemory-clause-served : goal.returns-in-Err-NoMemory-clause-served
returns-in-Err-NoMemory-clause-served g c = λ suited.
    AbortedServeOpening (rw c.bytes.ensures at ((rw c.in-Err-NoMemory.field-0-is at c.in-Err-NoMemory.ensures.stopped) refl)) refl

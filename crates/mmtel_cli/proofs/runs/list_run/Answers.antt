use Rattle.mmtel_cli.specs.OutOfMemory.{AbortedRunning}
use Rattle.mmtel_cli.proofs.runs.list_run.Goals as goal

pub returns-in_err-text-in-Ok-clause-stopped : goal.returns-in_err-text-in-Ok-clause-stopped
returns-in_err-text-in-Ok-clause-stopped g c = λ is. AbortedRunning (record {
  loaded = c.items.result.now;
  opening = _;
  opened = rw (← c.items.ensures) at (rw c.bytes.ensures at c.in-Ok.ensures.loaded);
  over = c.in_err-text-in-Ok.ensures.stopped;
})

use Rattle.mmtel_base.specs.Scanning.{leading_run}
use Rattle.mmtel_base.proofs.Runs.{run_each}
use Rattle.mmtel_base.proofs.scanning.split_run.Goals as goal

pub returns-clause-each : goal.returns-clause-each
unfolding leading_run
returns-clause-each c = rw c.split_at.ensures.front (rw c.run_len.ensures.place (run_each c.args.class c.args.bytes.now))

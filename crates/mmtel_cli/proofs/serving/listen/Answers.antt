use Rattle.mmtel_cli.proofs.ServeRuns.{linked, not_linked}
use Rattle.mmtel_cli.proofs.serving.listen.Goals as goal

pub returns-clause-linked : goal.returns-clause-linked
returns-clause-linked g c = linked _ _ _ _ c.bind.ensures.received c.bind.ensures.output c.bind.ensures.delivery_faults (rw c.addr.ensures at c.bind.ensures.calls) c.bind.ensures.cause

pub returns-clause-failed : goal.returns-clause-failed
returns-clause-failed g c = not_linked _ _ _ _ c.bind.ensures.received c.bind.ensures.output c.bind.ensures.delivery_faults (rw c.addr.ensures at c.bind.ensures.calls) c.bind.ensures.cause

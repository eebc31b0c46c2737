use Rattle.std.proofs.Common.{inl}
use Rattle.mmtel_cli.proofs.ServeRuns.{counts_on}
use Rattle.mmtel_cli.proofs.serving.over_loaded.Goals as goal

pub returns-in-Ok-clause-served : goal.returns-in-Ok-clause-served
returns-in-Ok-clause-served g c = λ kept. λ opened. c.over_link.ensures.served _ c.in-Ok.ensures.linked opened

pub returns-in-Err-clause-served : goal.returns-in-Err-clause-served
returns-in-Err-clause-served g c = λ kept. λ opened. λ suited. inl (record { loaded = _; opened = opened; unlinked = c.in-Err.ensures.failed })

pub returns-in-Ok-clause-arrival_faults : goal.returns-in-Ok-clause-arrival_faults
returns-in-Ok-clause-arrival_faults g c = counts_on _ _ _ _ c.in-Ok.ensures.linked.arrival_faults c.over_link.ensures.arrival_faults

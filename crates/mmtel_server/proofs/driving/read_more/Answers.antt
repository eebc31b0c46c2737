use Rattle.std.proofs.Common.{arith}
use Rattle.mmtel_server.proofs.Reading.{read_adds, read_ends, read_lost}
use Rattle.mmtel_server.proofs.driving.read_more.Goals as goal

pub returns-in_err-push-in-Ok-clause-read : goal.returns-in_err-push-in-Ok-clause-read
returns-in_err-push-in-Ok-clause-read g c = λ input is.
    read_lost input _ _ _ _ _ _ _ _ _ _ c.from_residual.ensures.0 c.in-Ok.ensures.received is

pub returns-in-Ok-eq0-clause-read : goal.returns-in-Ok-eq0-clause-read
returns-in-Ok-eq0-clause-read g c = λ input is.
    read_ends input _ _ _ _ _ _ _ (omega arith) c.in-Ok-eq0.ensures.cause.kept (rw c.in-Ok-eq0.field-0-test at c.in-Ok-eq0.ensures.received) is

pub returns-in_ok-push-in-Ok-clause-read : goal.returns-in_ok-push-in-Ok-clause-read
returns-in_ok-push-in-Ok-clause-read g c = λ input is.
    rw c.in_ok-push-in-Ok.ensures.ok (read_adds input _ _ _ _ _ _ c.in-Ok.ensures.within c.in-Ok.ensures.received is)

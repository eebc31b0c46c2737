use Rattle.std.proofs.Common.{arith}
use Rattle.mmtel_server.proofs.Received.{last_failed, one_within, within_then, within_more}
use Rattle.mmtel_server.proofs.driving.next_event.Goals as goal

pub returns-in-Ok-clause-calls : goal.returns-in-Ok-clause-calls
returns-in-Ok-clause-calls g c = within_more _ _ _ _ (omega arith) (within_then _ _ _ _ _ (one_within _ _ _ c.in-Ok.ensures.calls) c.event_of.ensures.calls)

pub returns-in-Err-clause-number : goal.returns-in-Err-clause-number
returns-in-Err-clause-number g c = last_failed _ _ _ _ c.in-Err.ensures.calls

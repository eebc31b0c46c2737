use Rattle.std.proofs.Common.{subst}
use Rattle.mmtel_timers.specs.Deadlines.{IsEachOnce}
use Rattle.mmtel_timers.proofs.queues.Queue.each_is_armed_once.Goals as goal

pub returns : goal.returns
returns c = subst IsEachOnce c.self.view_is c.self.invariant.once

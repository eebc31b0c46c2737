use Rattle.std.proofs.Common.{ap, ◌∙◌}
use Rattle.mmtel_timers.specs.Deadlines.{soonest}
use Rattle.mmtel_timers.proofs.Foremost.{first_is_soonest}
use Rattle.mmtel_timers.proofs.queues.Queue.first.Goals as goal

pub returns-in-Some : goal.returns-in-Some
returns-in-Some c = first_is_soonest c.self.inside.queue.entries (c.in-Some.turn.now, c.in-Some.key.now) c.in-Some.ensures.first c.self.invariant.sorted ∙ ap soonest c.self.view_is

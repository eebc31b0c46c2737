use Rattle.std.proofs.Common.{List, ap, ◌∙◌, subst, sym}
use Rattle.std.specs.List.Sorted.{IsStrictlySortedBy}
use Rattle.std.specs.Map.{keys_of}
use Rattle.mmtel_timers.specs.Deadlines.{without}
use Rattle.mmtel_timers.specs.Queues.{IsQueueState, Queued, queue_position_cmp, queue_view}
use Rattle.mmtel_timers.proofs.QueueInvariant.{kept_disarmed, seen_disarmed}
use Rattle.mmtel_timers.proofs.queues.Queue.disarm.Goals as goal

pub invariant_of-self : goal.invariant_of-self
invariant_of-self c =
    subst (λ (l : List Queued). IsQueueState c.self.inside.armed l c.remove-turn.new.self.entries) (sym c.remove_position.ensures.removed)
    (kept_disarmed c.self.inside.armed c.args.key c.self.inside.queue.entries c.self.inside.positions.entries c.self.invariant c.remove-turn.result c.remove-turn.ensures.value
    c.remove-turn.new.self.entries (subst (λ (l : List Queued). IsStrictlySortedBy queue_position_cmp (keys_of l)) c.remove_position.ensures.removed c.remove_position.ensures.sorted)
    (λ k. c.remove-turn.ensures.updates.0 k))

pub returns : goal.returns
returns c =
    ap queue_view c.remove_position.ensures.removed
    ∙ (seen_disarmed c.self.inside.armed c.args.key c.self.inside.queue.entries c.self.inside.positions.entries c.self.invariant c.remove-turn.result c.remove-turn.ensures.value
    ∙ ap (without c.args.key) c.self.view_is)

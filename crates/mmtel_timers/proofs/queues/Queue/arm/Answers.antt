use Rattle.std.proofs.Common.{◌≡◌, ◌+◌, List, ap, ◌∙◌, subst, sym}
use Rattle.std.specs.BTreeMap.{insert_entry}
use Rattle.std.specs.List.Sorted.{IsStrictlySortedBy}
use Rattle.std.specs.Map.{keys_of}
use Rattle.mmtel_timers.specs.Deadlines.{after_arming}
use Rattle.mmtel_timers.specs.Queues.{IsQueueState, Queued, queue_position_cmp, queue_view, queue_without}
use Rattle.mmtel_timers.specs.declared.queues.QueuePosition.{QueuePosition}
use Rattle.mmtel_timers.proofs.QueueInvariant.{kept_armed, seen_armed}
use Rattle.mmtel_timers.proofs.queues.Queue.arm.Goals as goal

abbrev turn : goal.After-self-1 → QueuePosition
turn c = record { at = c.args.at; number = c.self.inside.armed }

abbrev more : goal.After-self-1 → List Queued
more c = insert_entry queue_position_cmp c.self.inside.queue.entries (turn c) c.args.key

left : (c : goal.After-self-1) → c.remove_position.new.queue.entries ≡ queue_without c.in_ok-earlier.earlier (more c)
left c = c.remove_position.ensures.removed ∙ ap (queue_without c.in_ok-earlier.earlier) c.in_ok-earlier.ensures.queue

sorted : (c : goal.After-self-1) → IsStrictlySortedBy queue_position_cmp (keys_of (more c))
sorted c = subst (λ (l : List Queued). IsStrictlySortedBy queue_position_cmp (keys_of l)) c.in_ok-earlier.ensures.queue c.in_ok-earlier.ensures.sorted

pub invariant_of-self-2 : goal.invariant_of-self-2
invariant_of-self-2 c =
    subst (λ (l : List Queued). IsQueueState (c.self.inside.armed + 1) l c.insert_position.new.positions.entries) (sym (left c))
    (kept_armed c.self.inside.armed c.args.at c.args.key c.self.inside.queue.entries c.self.inside.positions.entries c.self.invariant c.in_ok-earlier.earlier c.in_ok-earlier.ensures.earlier (sorted c)
    c.insert_position.new.positions.entries (subst (λ (l : List Queued). IsStrictlySortedBy queue_position_cmp (keys_of l)) (left c) c.remove_position.ensures.sorted) c.in_ok-earlier.ensures.turns)

pub returns-clause-ok : goal.returns-clause-ok
returns-clause-ok c =
    ap queue_view (left c)
    ∙ (seen_armed c.self.inside.armed c.args.at c.args.key c.self.inside.queue.entries c.self.inside.positions.entries c.self.invariant c.in_ok-earlier.earlier c.in_ok-earlier.ensures.earlier (sorted c)
    ∙ ap (after_arming c.args.at c.args.key) c.self.view_is)

use Rattle.std.proofs.Common.{List, Some, ap, ◌∙◌, subst, sym}
use Rattle.std.specs.Map.{values_of}
use Rattle.mmtel_timers.specs.Deadlines.{without}
use Rattle.mmtel_run_definitions.specs.Deadlines.{first_due_timer, first_timer}
use Rattle.mmtel_server_timers.specs.PendingTimers.{pending_in, queue_of}
use Rattle.mmtel_server_timers.specs.Queue.{NumberedTimer, TimersInvariant, due_by, in_ranks, key_of}
use Rattle.mmtel_server_timers.specs.declared.pending_timers.PendingTimer.{PendingTimer}
use Rattle.mmtel_server_timers.specs.declared.ranks.Ranks.{Ranks}
use Rattle.mmtel_server_timers.proofs.Queueing.{kept_out, none_found, taken_out}
use Rattle.mmtel_server_timers.proofs.timers.Timers.pop_due.Goals as goal

pub invariant_of-self : goal.invariant_of-self
invariant_of-self g c =
    record {
      timers = subst (λ (r : Ranks). TimersInvariant c.self.inside.next c.self.inside.step r c.remove.new.self.entries) (sym c.disarm.ensures.rest)
          (subst (λ (l : List NumberedTimer). TimersInvariant c.self.inside.next c.self.inside.step (in_ranks (without (key_of c.in-Some.number)) c.self.inside.ranks) l) (sym c.remove.ensures.entries)
          (kept_out c.self.inside.next c.self.inside.step c.self.inside.ranks c.self.inside.pending.entries c.in-Some.number c.self.invariant.timers));
      earliest = c.earliest_timer-self-inside.ensures;
    }

pub returns-in-None-clause-first : goal.returns-in-None-clause-first
returns-in-None-clause-first g c =
    none_found c.self.inside.next c.self.inside.step c.self.inside.ranks c.self.inside.pending.entries c.self.invariant.timers c.args.now
    (sym c.in-None.is ∙ (c.due_by.ensures ∙ ap (due_by c.args.now) c.self.invariant.earliest))
    ∙ ap (λ (l : List PendingTimer). first_due_timer c.args.now (queue_of l)) c.self.view_is

pub returns-in-Some-clause-first : goal.returns-in-Some-clause-first
returns-in-Some-clause-first g c =
    ap (λ (l : List NumberedTimer). Some (first_timer (pending_in c.in-Some.armed) (queue_of (values_of l)))) c.remove.ensures.entries
    ∙ (taken_out c.self.inside.next c.self.inside.step c.self.inside.ranks c.self.inside.pending.entries c.self.invariant.timers c.args.now (c.in-Some.number, c.in-Some.armed)
    (sym c.in-Some.is ∙ (c.due_by.ensures ∙ ap (due_by c.args.now) c.self.invariant.earliest))
    ∙ ap (λ (l : List PendingTimer). first_due_timer c.args.now (queue_of l)) c.self.view_is)

use Rattle.std.proofs.Common.{◌+◌, ◌++◌, ◌∷◌, [], List, ap, ◌∙◌, subst, sym}
use Rattle.std.specs.BTreeMap.{is_at}
use Rattle.std.specs.Map.{remove_entry, values_of}
use Rattle.std.specs.Ordering.{nat_cmp}
use Rattle.mmtel_timers.specs.Deadlines.{after_arming}
use Rattle.mmtel_server_timers.specs.Queue.{NumberedTimer, TimersInvariant, TimersKept, in_rank, key_of}
use Rattle.mmtel_server_timers.specs.declared.pending_timers.PendingTimer.{PendingTimer}
use Rattle.mmtel_server_timers.specs.declared.ranks.Ranks.{Ranks}
use Rattle.mmtel_server_timers.proofs.Queueing.{kept_more, put_back, seen_more}
use Rattle.mmtel_server_timers.proofs.timers.Timers.arm.Goals as goal

pub invariant_of-self-in-Err-arm : goal.invariant_of-self-in-Err-arm
invariant_of-self-in-Err-arm g c =
    subst (λ (r : Ranks). TimersKept c.self.inside.next c.self.inside.step r c.remove.new.self.entries c.self.inside.first) (sym c.in-Err-arm.ensures.err)
    (subst (λ (l : List NumberedTimer). TimersKept c.self.inside.next c.self.inside.step c.self.inside.ranks l c.self.inside.first)
    (sym (c.remove.ensures.entries
    ∙ (ap (remove_entry (is_at (nat_cmp c.self.inside.next))) c.in-Ok.ensures.entries
    ∙ put_back c.self.inside.next c.self.inside.step c.self.inside.ranks c.self.inside.pending.entries c.self.invariant.timers c.args.timer)))
    c.self.invariant)

pub returns-in-Err-arm-clause-err : goal.returns-in-Err-arm-clause-err
returns-in-Err-arm-clause-err g c =
    ap values_of (c.remove.ensures.entries
    ∙ (ap (remove_entry (is_at (nat_cmp c.self.inside.next))) c.in-Ok.ensures.entries
    ∙ put_back c.self.inside.next c.self.inside.step c.self.inside.ranks c.self.inside.pending.entries c.self.invariant.timers c.args.timer))
    ∙ c.self.view_is

pub invariant_of-self-2 : goal.invariant_of-self-2
invariant_of-self-2 g c =
    record {
      timers = subst (λ (r : Ranks). TimersInvariant (c.self.inside.next + 1) c.args.timer.step r c.insert.new.self.entries) (sym c.in-Ok-arm.ensures.ok)
          (subst (λ (l : List NumberedTimer). TimersInvariant (c.self.inside.next + 1) c.args.timer.step (in_rank c.rank.result (after_arming c.args.timer.at (key_of c.self.inside.next)) c.self.inside.ranks) l)
          (sym c.in-Ok.ensures.entries)
          (kept_more c.self.inside.next c.self.inside.step c.self.inside.ranks c.self.inside.pending.entries c.self.invariant.timers c.args.timer c.rank.result c.rank.ensures c.if-timer-self.false));
      earliest = c.earliest_timer-self-inside.ensures;
    }

pub returns-clause-ok : goal.returns-clause-ok
returns-clause-ok g c =
    ap values_of c.in-Ok.ensures.entries
    ∙ (seen_more c.self.inside.next c.self.inside.step c.self.inside.ranks c.self.inside.pending.entries c.self.invariant.timers c.args.timer
    ∙ ap (λ (l : List PendingTimer). l ++ c.args.timer ∷ []) c.self.view_is)

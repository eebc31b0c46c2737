use Rattle.std.proofs.Common.{List, ap, ◌∙◌, sym}
use Rattle.std.specs.Option.{option_map}
use Rattle.mmtel_run_definitions.specs.Deadlines.{first_due_timer}
use Rattle.mmtel_server_timers.specs.PendingTimers.{first_in, queue_of}
use Rattle.mmtel_server_timers.specs.Queue.{NumberedTimer, due_by, pending_of}
use Rattle.mmtel_server_timers.specs.declared.pending_timers.PendingTimer.{PendingTimer}
use Rattle.mmtel_server_timers.proofs.Queueing.{first_found}
use Rattle.mmtel_server_timers.proofs.timers.Timers.first_due.Goals as goal

pub returns-in-Some : goal.returns-in-Some
returns-in-Some c =
    ap (option_map (λ (q : NumberedTimer). pending_of q)) (sym c.in-Some.is ∙ (c.due_by.ensures ∙ ap (due_by c.args.now) c.self.invariant.earliest))
    ∙ (first_found c.self.inside.next c.self.inside.step c.self.inside.ranks c.self.inside.pending.entries c.self.invariant.timers c.args.now
    ∙ ap (λ (l : List PendingTimer). first_in (first_due_timer c.args.now (queue_of l))) c.self.view_is)

pub returns-in-None : goal.returns-in-None
returns-in-None c =
    ap (option_map (λ (q : NumberedTimer). pending_of q)) (sym c.in-None.is ∙ (c.due_by.ensures ∙ ap (due_by c.args.now) c.self.invariant.earliest))
    ∙ (first_found c.self.inside.next c.self.inside.step c.self.inside.ranks c.self.inside.pending.entries c.self.invariant.timers c.args.now
    ∙ ap (λ (l : List PendingTimer). first_in (first_due_timer c.args.now (queue_of l))) c.self.view_is)

use Rattle.std.proofs.Common.{◌≡◌, ◌≤◌, ◌∙◌, ℕ, Option, ap, subst, sym}
use Rattle.std.proofs.lemmas.Option.{none-some, same_Some}
use Rattle.std.proofs.lemmas.Result.{on_err_weaker, on_ok_weaker}
use Rattle.mmtel_run_definitions.specs.Deadlines.{FirstTimer, ServiceTimer, first_due_timer, first_timer}
use Rattle.mmtel_run_definitions.specs.Transitions.{after_first_service_timer, after_service_timer}
use Rattle.mmtel_server_timers.proofs.PendingTimers.{IsDueIn, first_due}
use Rattle.mmtel_server.proofs.Timers.{breaks_left, on_left}
use Rattle.mmtel_server.proofs.servers.Server.fire_service_timer.Goals as goal
use Rattle.mmtel_server_timers.specs.PendingTimers.{pending_in, queue_of, timer_in}
use Rattle.mmtel_server.specs.Follows.{AddsOfferPrefix, Follows}
use Rattle.mmtel_server.specs.declared.servers.Server.{Server}

pub returns-in-None-clause-done : goal.returns-in-None-clause-done
returns-in-None-clause-done g c first is =
    absurd (none-some first (c.in-None.ensures.first ∙ (ap (λ (n : ℕ). first_due_timer n (queue_of c.args.self.now.pending_timers)) c.ms.ensures.number ∙ is)))

pub returns-in-Some-clause-done : goal.returns-in-Some-clause-done
returns-in-Some-clause-done g c = on_ok_weaker c.perform_timer.result (λ follows first is.
    let s = c.args.self.now in
    let rest = c.pop_due.new.self in
    let armed = c.in-Some.pending in
    let due : ServiceTimer = timer_in armed.timer in
    let e : first_timer (pending_in armed) (queue_of rest) ≡ first =
    same_Some (first_timer (pending_in armed) (queue_of rest)) first (c.in-Some.ensures.first ∙ (ap (λ (n : ℕ). first_due_timer n (queue_of s.pending_timers)) c.ms.ensures.number ∙ is)) in
    let by : first.first.at ≤ c.args.now = subst (λ (o : Option FirstTimer). IsDueIn c.args.now o) is (first_due c.args.now (queue_of s.pending_timers)) in
    let at : c.moment_by-at.result ≡ armed.at = c.moment_by-at.ensures (subst (λ (f : FirstTimer). f.first.at ≤ c.args.now) (sym e) by) in
    let mid : Server = record s { pending_timers = rest } in
    subst (λ (f : FirstTimer). Follows s c.args.out.now c.perform_timer.new.self c.perform_timer.new.out (λ d token. after_first_service_timer d token f.first f.others)) e
    (on_left (λ d token. after_service_timer d token armed.at due) s rest c.args.out.now c.perform_timer.new.out c.perform_timer.new.self
    (subst (λ (n : ℕ). Follows mid c.args.out.now c.perform_timer.new.self c.perform_timer.new.out (λ d token. after_service_timer d token n due)) at follows))) c.perform_timer.ensures.done

pub returns-in-Some-clause-err : goal.returns-in-Some-clause-err
returns-in-Some-clause-err g c = on_err_weaker c.perform_timer.result (λ breaks first is.
    let s = c.args.self.now in
    let rest = c.pop_due.new.self in
    let armed = c.in-Some.pending in
    let due : ServiceTimer = timer_in armed.timer in
    let e : first_timer (pending_in armed) (queue_of rest) ≡ first =
    same_Some (first_timer (pending_in armed) (queue_of rest)) first (c.in-Some.ensures.first ∙ (ap (λ (n : ℕ). first_due_timer n (queue_of s.pending_timers)) c.ms.ensures.number ∙ is)) in
    let by : first.first.at ≤ c.args.now = subst (λ (o : Option FirstTimer). IsDueIn c.args.now o) is (first_due c.args.now (queue_of s.pending_timers)) in
    let at : c.moment_by-at.result ≡ armed.at = c.moment_by-at.ensures (subst (λ (f : FirstTimer). f.first.at ≤ c.args.now) (sym e) by) in
    let mid : Server = record s { pending_timers = rest } in
    subst (λ (f : FirstTimer). AddsOfferPrefix s c.args.out.now c.perform_timer.new.out (λ d token. after_first_service_timer d token f.first f.others)) e
    (breaks_left (λ d token. after_service_timer d token armed.at due) s rest c.args.out.now c.perform_timer.new.out
    (subst (λ (n : ℕ). AddsOfferPrefix mid c.args.out.now c.perform_timer.new.out (λ d token. after_service_timer d token n due)) at breaks))) c.perform_timer.ensures.err

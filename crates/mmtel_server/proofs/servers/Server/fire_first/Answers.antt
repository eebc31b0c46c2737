use Rattle.std.proofs.Common.{List, ap, subst, ◌∙◌}
use Rattle.std.proofs.lemmas.Result.{on_err_weaker, on_ok_weaker}
use Rattle.mmtel_run_definitions.specs.Deadlines.{Deadline, first_due_timer}
use Rattle.mmtel_run_definitions.specs.Transitions.{after_deadline, after_first_service_timer, after_transaction_timer, with_next_step}
use Rattle.mmtel_server_timers.proofs.PendingTimers.{of_service_timer, of_transaction}
use Rattle.mmtel_server.proofs.Grows.{begins, followed, offer_prefix_added}
use Rattle.mmtel_server.proofs.Settling.{fires_in, strikes}
use Rattle.mmtel_server.proofs.servers.Server.fire_first.Goals as goal
use Rattle.mmtel_server_timers.specs.PendingTimers.{queue_of}
use Rattle.mmtel_server.specs.Follows.{AddsOfferPrefix, Follows}
use Rattle.mmtel_server_timers.specs.declared.pending_timers.PendingTimer.{PendingTimer}

pub returns-in-OfTransaction-clause-done : goal.returns-in-OfTransaction-clause-done
returns-in-OfTransaction-clause-done g c = on_ok_weaker c.fire_transaction_timer.result (λ follows first is chosen.
    let s = c.args.self.now in
    subst (λ (x : Deadline). Follows s c.args.out.now c.fire_transaction_timer.new.self c.fire_transaction_timer.new.out (λ d token. after_deadline d token c.args.now x))
    (of_transaction first (is ∙ c.in-OfTransaction.is))
    (followed (λ d token. with_next_step) (λ d token. after_transaction_timer d token c.args.now) s c.begin_step.new.self c.fire_transaction_timer.new.self c.args.out.now c.args.out.now c.fire_transaction_timer.new.out
    (λ d token w. fires_in d token c.numbers_never_fall.ensures c.args.now w) (c.begin_step.ensures.done c.args.out.now) follows)) c.fire_transaction_timer.ensures.done

pub returns-in-OfTransaction-clause-err : goal.returns-in-OfTransaction-clause-err
returns-in-OfTransaction-clause-err g c = on_err_weaker c.fire_transaction_timer.result (λ breaks first is chosen.
    let s = c.args.self.now in
    subst (λ (x : Deadline). AddsOfferPrefix s c.args.out.now c.fire_transaction_timer.new.out (λ d token. after_deadline d token c.args.now x)) (of_transaction first (is ∙ c.in-OfTransaction.is))
    (offer_prefix_added (λ d token. with_next_step) (λ d token. after_transaction_timer d token c.args.now) s c.begin_step.new.self c.args.out.now c.args.out.now c.fire_transaction_timer.new.out
    (λ d token w. begins w) (λ d token w. fires_in d token c.numbers_never_fall.ensures c.args.now w) (c.begin_step.ensures.done c.args.out.now) breaks)) c.fire_transaction_timer.ensures.err

pub returns-in-OfServiceTimer-clause-done : goal.returns-in-OfServiceTimer-clause-done
returns-in-OfServiceTimer-clause-done g c = on_ok_weaker c.fire_service_timer.result (λ follows first is chosen.
    let s = c.args.self.now in
    let law = c.numbers_never_fall.ensures in
    let call = of_service_timer first (first_due_timer c.args.now (queue_of s.pending_timers)) (is ∙ c.in-OfServiceTimer.is) chosen in
    let there = ap (λ (l : List PendingTimer). first_due_timer c.args.now (queue_of l)) c.begin_step.ensures.armed ∙ call.1 in
    subst (λ (x : Deadline). Follows s c.args.out.now c.fire_service_timer.new.self c.fire_service_timer.new.out (λ d token. after_deadline d token c.args.now x)) call.2
    (followed (λ d token. with_next_step) (λ d token. after_first_service_timer d token call.0.first call.0.others) s c.begin_step.new.self c.fire_service_timer.new.self c.args.out.now c.args.out.now
    c.fire_service_timer.new.out
    (λ d token w. strikes d token law call.0.first call.0.others w) (c.begin_step.ensures.done c.args.out.now)
    (follows call.0 there))) c.fire_service_timer.ensures.done

pub returns-in-OfServiceTimer-clause-err : goal.returns-in-OfServiceTimer-clause-err
returns-in-OfServiceTimer-clause-err g c = on_err_weaker c.fire_service_timer.result (λ breaks first is chosen.
    let s = c.args.self.now in
    let law = c.numbers_never_fall.ensures in
    let call = of_service_timer first (first_due_timer c.args.now (queue_of s.pending_timers)) (is ∙ c.in-OfServiceTimer.is) chosen in
    let there = ap (λ (l : List PendingTimer). first_due_timer c.args.now (queue_of l)) c.begin_step.ensures.armed ∙ call.1 in
    subst (λ (x : Deadline). AddsOfferPrefix s c.args.out.now c.fire_service_timer.new.out (λ d token. after_deadline d token c.args.now x)) call.2
    (offer_prefix_added (λ d token. with_next_step) (λ d token. after_first_service_timer d token call.0.first call.0.others) s c.begin_step.new.self c.args.out.now c.args.out.now c.fire_service_timer.new.out
    (λ d token w. begins w) (λ d token w. strikes d token law call.0.first call.0.others w) (c.begin_step.ensures.done c.args.out.now)
    (breaks call.0 there))) c.fire_service_timer.ensures.err

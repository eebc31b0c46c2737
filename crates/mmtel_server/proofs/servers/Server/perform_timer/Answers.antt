use Rattle.std.proofs.Common.{sym, subst}
use Rattle.std.specs.Prelude.{OnErr, OnOk}
use Rattle.mmtel_run_definitions.specs.Transitions.{after_service_timer}
use Rattle.mmtel_server.proofs.servers.Server.perform_timer.Goals as goal
use Rattle.mmtel_server_timers.specs.PendingTimers.{timer_in}
use Rattle.mmtel_server.specs.Follows.{AddsOfferPrefix, Follows}
use Rattle.mmtel_server_timers.specs.declared.pending_timers.ServiceTimer.{ServiceTimer}

pub returns-in-OfCall-clause-done : goal.returns-in-OfCall-clause-done
returns-in-OfCall-clause-done g c = subst (λ (x : ServiceTimer). OnOk c.signal_calls.result
    (Follows c.args.self.now c.args.out.now c.signal_calls.new.self c.signal_calls.new.out (λ d token. after_service_timer d token c.args.context.now.at (timer_in x))))
    (sym c.in-OfCall.is) c.signal_calls.ensures.done

pub returns-in-OfCall-clause-err : goal.returns-in-OfCall-clause-err
returns-in-OfCall-clause-err g c =
    subst (λ (x : ServiceTimer). OnErr c.signal_calls.result (AddsOfferPrefix c.args.self.now c.args.out.now c.signal_calls.new.out (λ d token. after_service_timer d token c.args.context.now.at (timer_in x))))
    (sym c.in-OfCall.is) c.signal_calls.ensures.err

pub returns-in-OfParticipant-clause-done : goal.returns-in-OfParticipant-clause-done
returns-in-OfParticipant-clause-done g c = subst (λ (x : ServiceTimer). OnOk c.signal_conferences.result
    (Follows c.args.self.now c.args.out.now c.signal_conferences.new.self c.signal_conferences.new.out (λ d token. after_service_timer d token c.args.context.now.at (timer_in x))))
    (sym c.in-OfParticipant.is) c.signal_conferences.ensures.done

pub returns-in-OfParticipant-clause-err : goal.returns-in-OfParticipant-clause-err
returns-in-OfParticipant-clause-err g c = subst (λ (x : ServiceTimer). OnErr c.signal_conferences.result
    (AddsOfferPrefix c.args.self.now c.args.out.now c.signal_conferences.new.out (λ d token. after_service_timer d token c.args.context.now.at (timer_in x))))
    (sym c.in-OfParticipant.is) c.signal_conferences.ensures.err

pub returns-in-OfSubscription-clause-done : goal.returns-in-OfSubscription-clause-done
returns-in-OfSubscription-clause-done g c = subst (λ (x : ServiceTimer). OnOk c.expire_subscription.result
    (Follows c.args.self.now c.args.out.now c.expire_subscription.new.self c.expire_subscription.new.out (λ d token. after_service_timer d token c.args.context.now.at (timer_in x))))
    (sym c.in-OfSubscription.is) c.expire_subscription.ensures.done

pub returns-in-OfSubscription-clause-err : goal.returns-in-OfSubscription-clause-err
returns-in-OfSubscription-clause-err g c = subst (λ (x : ServiceTimer). OnErr c.expire_subscription.result
    (AddsOfferPrefix c.args.self.now c.args.out.now c.expire_subscription.new.out (λ d token. after_service_timer d token c.args.context.now.at (timer_in x))))
    (sym c.in-OfSubscription.is) c.expire_subscription.ensures.err

use Rattle.std.proofs.Common.{◌-◌, ℕ, Option, sym, subst, ◌∙◌}
use Rattle.std.specs.Prelude.{OnOk}
use Rattle.std.proofs.lemmas.Bool.{ne_eqb}
use Rattle.std.proofs.lemmas.Result.{on_ok_weaker}
use Rattle.mmtel_run_definitions.specs.Deadlines.{OfSubscription, PendingTimer}
use Rattle.mmtel_run_definitions.specs.Records.{until_of}
use Rattle.mmtel_run_definitions.specs.Subscriptions.{after_activation, with_expiry_timer}
use Rattle.mmtel_run_definitions.specs.Transitions.{with_timer}
use Rattle.mmtel_server.proofs.Owners.{rests}
use Rattle.mmtel_server.proofs.Subscriptions.{stands_breaks, stands_follows, stands_grows}
use Rattle.mmtel_server.proofs.Grows.{on_err, stops, stops_on}
use Rattle.mmtel_server.proofs.servers.Server.activate_subscription.Goals as goal
use Rattle.mmtel_server.specs.Follows.{Follows}

pub returns-then-seconds-eq0-clause-done : goal.returns-then-seconds-eq0-clause-done
returns-then-seconds-eq0-clause-done g c =
    subst (λ (n : ℕ). OnOk c.notify_terminated.result
    (Follows c.args.self.now c.args.out.now c.notify_terminated.new.self c.notify_terminated.new.out (λ d token. after_activation d token c.args.context.now.at c.args.sub n)))
    (sym c.if-seconds-eq0.true) c.notify_terminated.ensures.done

pub returns-then-seconds-eq0-clause-err : goal.returns-then-seconds-eq0-clause-err
returns-then-seconds-eq0-clause-err g c =
    stops_on c.notify_terminated.result (λ d token. after_activation d token c.args.context.now.at c.args.sub c.args.seconds) c.args.self.now c.args.out.now c.notify_terminated.new.out
    (λ d token w. stands_grows d token c.args.context.now.at c.args.sub c.args.seconds w) c.notify_terminated.ensures.err

pub returns-in_err-notify_subscriber-clause-err : goal.returns-in_err-notify_subscriber-clause-err
returns-in_err-notify_subscriber-clause-err g c = on_err c.from_residual.result _
    (stops (λ d token. after_activation d token c.args.context.now.at c.args.sub c.args.seconds) c.args.self.now c.args.out.now c.notify_subscriber.new.out
    (λ d token w. stands_grows d token c.args.context.now.at c.args.sub c.args.seconds w) c.in_err-notify_subscriber.ensures.err)

pub returns-in-None-clause-done : goal.returns-in-None-clause-done
returns-in-None-clause-done g c =
    stands_follows c.args.context.now.at c.args.sub c.args.seconds
    (ne_eqb c.args.seconds 0 c.if-seconds-eq0.false) c.args.self.now c.notify_subscriber.new.self c.args.out.now c.notify_subscriber.new.out c.in_ok-notify_subscriber.ensures.done
    c.set_by-set.result (sym c.set_by-set.ensures.set_by) c.notify_subscriber.new.self
    (subst (λ (o : Option ℕ). Follows c.notify_subscriber.new.self c.notify_subscriber.new.out c.notify_subscriber.new.self c.notify_subscriber.new.out
    (λ d token. with_expiry_timer c.args.sub o (until_of c.args.context.now.at
    c.args.seconds))) (sym c.in-None.is)
    (rests c.notify_subscriber.new.self c.notify_subscriber.new.out))

pub returns-in-Some-clause-done : goal.returns-in-Some-clause-done
returns-in-Some-clause-done g c = on_ok_weaker c.arm_timer.result (λ follows.
    stands_follows c.args.context.now.at c.args.sub c.args.seconds
    (ne_eqb c.args.seconds 0 c.if-seconds-eq0.false) c.args.self.now c.notify_subscriber.new.self c.args.out.now c.notify_subscriber.new.out c.in_ok-notify_subscriber.ensures.done
    c.set_by-set.result (sym c.set_by-set.ensures.set_by) c.arm_timer.new.self
    (subst (λ (o : Option ℕ). Follows c.notify_subscriber.new.self c.notify_subscriber.new.out c.arm_timer.new.self c.notify_subscriber.new.out
    (λ d token. with_expiry_timer c.args.sub o (until_of c.args.context.now.at c.args.seconds))) (sym c.in-Some.is)
    (subst (λ (n : ℕ). Follows c.notify_subscriber.new.self c.notify_subscriber.new.out c.arm_timer.new.self c.notify_subscriber.new.out
    (λ d token w. let a : PendingTimer = record { timer = OfSubscription c.args.sub c.in-Some.set; at = n; step = w.steps - 1 } in with_timer a w)) (c.ms.ensures.number ∙ c.until-until.ensures)
    (follows c.notify_subscriber.new.out))))
    c.arm_timer.ensures.done

pub returns-in-Some-clause-err : goal.returns-in-Some-clause-err
returns-in-Some-clause-err g c = on_err c.arm_timer.result _
    (stands_breaks c.args.context.now.at c.args.sub c.args.seconds
    (ne_eqb c.args.seconds 0 c.if-seconds-eq0.false) c.args.self.now c.notify_subscriber.new.self c.args.out.now c.notify_subscriber.new.out c.in_ok-notify_subscriber.ensures.done
    c.set_by-set.result (sym c.set_by-set.ensures.set_by))

use Rattle.std.proofs.Common.{ℕ, Option, refl, sym, subst}
use Rattle.std.proofs.lemmas.Result.{on_err_weaker, on_ok_weaker}
use Rattle.mmtel_run_definitions.specs.Subscriptions.{after_subscribe, after_subscribe_by}
use Rattle.mmtel_server.proofs.Subscriptions.{made_for_named, subscribes_grows, subscribing_so}
use Rattle.mmtel_server.proofs.Grows.{on_err, stops, stops_on}
use Rattle.mmtel_server.proofs.Participants.{breaks_reads, follows_reads}
use Rattle.mmtel_server.proofs.servers.Server.subscribe.Goals as goal
use Rattle.mmtel_server.specs.Follows.{AddsOfferPrefix, Follows}

pub returns-in_err-code-clause-err : goal.returns-in_err-code-clause-err
returns-in_err-code-clause-err g c = on_err c.from_residual.result _
    (stops (λ d token. after_subscribe d token c.args.context.now.at c.args.key c.args.request.now) c.args.self.now c.args.out.now c.args.out.now (λ d token w. subscribes_grows d token
    c.args.context.now.at c.args.key c.args.request.now w) refl)

pub returns-in-Some-clause-done : goal.returns-in-Some-clause-done
returns-in-Some-clause-done g c = on_ok_weaker c.refuse_subscribe.result (λ follows.
    let s = c.args.self.now in
    let P = Follows s c.args.out.now c.refuse_subscribe.new.self c.refuse_subscribe.new.out in
    subscribing_so s P (follows_reads s c.args.out.now c.refuse_subscribe.new.self c.refuse_subscribe.new.out) c.args.context.now.at c.args.key c.args.request.now c.in_ok-code.field-0 c.in_ok-code.ensures.first
    (subst (λ (o : Option ℕ). P (λ d token. after_subscribe_by d token c.args.context.now.at c.args.key c.args.request.now o)) (sym c.in-Some.is) follows))
    c.refuse_subscribe.ensures.done

pub returns-in-Some-clause-err : goal.returns-in-Some-clause-err
returns-in-Some-clause-err g c =
    stops_on c.refuse_subscribe.result (λ d token. after_subscribe d token c.args.context.now.at c.args.key c.args.request.now) c.args.self.now c.args.out.now c.refuse_subscribe.new.out
    (λ d token w. subscribes_grows d token c.args.context.now.at c.args.key c.args.request.now w) c.refuse_subscribe.ensures.err

pub returns-in_err-account-in-None-clause-err : goal.returns-in_err-account-in-None-clause-err
returns-in_err-account-in-None-clause-err g c = on_err c.from_residual-in_err-account-in-None.result _
    (stops (λ d token. after_subscribe d token c.args.context.now.at c.args.key c.args.request.now) c.args.self.now c.args.out.now c.args.out.now (λ d token w. subscribes_grows d token
    c.args.context.now.at c.args.key c.args.request.now w) refl)

pub returns-in_ok-account-in-None-clause-done : goal.returns-in_ok-account-in-None-clause-done
returns-in_ok-account-in-None-clause-done g c = on_ok_weaker c.create_subscription_for.result (λ follows.
    let s = c.args.self.now in
    let P = Follows s c.args.out.now c.create_subscription_for.new.self c.create_subscription_for.new.out in
    let reads = follows_reads s c.args.out.now c.create_subscription_for.new.self c.create_subscription_for.new.out in
    subscribing_so s P reads c.args.context.now.at c.args.key c.args.request.now c.in_ok-code.field-0 c.in_ok-code.ensures.first
    (subst (λ (o : Option ℕ). P (λ d token. after_subscribe_by d token c.args.context.now.at c.args.key c.args.request.now o)) (sym c.in-None.is)
    (made_for_named s P reads c.args.context.now.at c.args.key c.args.request.now c.in_ok-account-in-None.account c.in_ok-account-in-None.ensures.account follows)))
    c.create_subscription_for.ensures.done

pub returns-in_ok-account-in-None-clause-err : goal.returns-in_ok-account-in-None-clause-err
returns-in_ok-account-in-None-clause-err g c = on_err_weaker c.create_subscription_for.result (λ breaks.
    let s = c.args.self.now in
    let P = AddsOfferPrefix s c.args.out.now c.create_subscription_for.new.out in
    let reads = breaks_reads s c.args.out.now c.create_subscription_for.new.out in
    subscribing_so s P reads c.args.context.now.at c.args.key c.args.request.now c.in_ok-code.field-0 c.in_ok-code.ensures.first
    (subst (λ (o : Option ℕ). P (λ d token. after_subscribe_by d token c.args.context.now.at c.args.key c.args.request.now o)) (sym c.in-None.is)
    (made_for_named s P reads c.args.context.now.at c.args.key c.args.request.now c.in_ok-account-in-None.account c.in_ok-account-in-None.ensures.account breaks)))
    c.create_subscription_for.ensures.err

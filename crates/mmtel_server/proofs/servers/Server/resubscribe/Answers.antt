use Rattle.std.proofs.Common.{ℕ, Option, true, refl, sym, subst}
use Rattle.std.proofs.lemmas.Result.{on_err_weaker, on_ok_weaker}
use Rattle.mmtel_mwi.specs.Subscribing.{refusal}
use Rattle.mmtel_run_definitions.specs.Subscriptions.{after_refresh_by, subscribe_request_of}
use Rattle.mmtel_server.proofs.Subscriptions.{refreshes_grows, refreshing_so}
use Rattle.mmtel_server.proofs.Grows.{on_err, stops, stops_on}
use Rattle.mmtel_server.proofs.Participants.{breaks_reads, follows_reads}
use Rattle.mmtel_server.proofs.servers.Server.resubscribe.Goals as goal
use Rattle.mmtel_server.specs.Follows.{AddsOfferPrefix, Follows}

pub returns-in_err-code-clause-err : goal.returns-in_err-code-clause-err
returns-in_err-code-clause-err g c = on_err c.from_residual.result _
    (stops (λ d token. after_refresh_by d token c.args.context.now.at c.args.key c.args.request.now c.args.sub (refusal (subscribe_request_of d true c.args.request.now.parsed))) c.args.self.now c.args.out.now
    c.args.out.now (λ d token w. refreshes_grows d token c.args.context.now.at c.args.key c.args.request.now c.args.sub (refusal (subscribe_request_of d true c.args.request.now.parsed)) w) refl)

pub returns-in-Some-clause-done : goal.returns-in-Some-clause-done
returns-in-Some-clause-done g c = on_ok_weaker c.refuse_subscribe.result (λ follows.
    let s = c.args.self.now in
    let P = Follows s c.args.out.now c.refuse_subscribe.new.self c.refuse_subscribe.new.out in
    refreshing_so s P (follows_reads s c.args.out.now c.refuse_subscribe.new.self c.refuse_subscribe.new.out) c.args.context.now.at c.args.key c.args.request.now c.args.sub c.in_ok-code.field-0 c.in_ok-code.ensures.first
    (subst (λ (o : Option ℕ). P (λ d token. after_refresh_by d token c.args.context.now.at c.args.key c.args.request.now c.args.sub o)) (sym c.in-Some.is) follows))
    c.refuse_subscribe.ensures.done

pub returns-in-Some-clause-err : goal.returns-in-Some-clause-err
returns-in-Some-clause-err g c =
    stops_on c.refuse_subscribe.result
    (λ d token. after_refresh_by d token c.args.context.now.at c.args.key c.args.request.now c.args.sub (refusal (subscribe_request_of d true c.args.request.now.parsed))) c.args.self.now
    c.args.out.now c.refuse_subscribe.new.out (λ d token w. refreshes_grows d token c.args.context.now.at c.args.key c.args.request.now c.args.sub (refusal (subscribe_request_of d true c.args.request.now.parsed)) w)
    c.refuse_subscribe.ensures.err

pub returns-in-None-clause-done : goal.returns-in-None-clause-done
returns-in-None-clause-done g c = on_ok_weaker c.refresh_subscription.result (λ follows.
    let s = c.args.self.now in
    let P = Follows s c.args.out.now c.refresh_subscription.new.self c.refresh_subscription.new.out in
    refreshing_so s P (follows_reads s c.args.out.now c.refresh_subscription.new.self c.refresh_subscription.new.out) c.args.context.now.at c.args.key c.args.request.now c.args.sub
    c.in_ok-code.field-0 c.in_ok-code.ensures.first
    (subst (λ (o : Option ℕ). P (λ d token. after_refresh_by d token c.args.context.now.at c.args.key c.args.request.now c.args.sub o)) (sym c.in-None.is) follows))
    c.refresh_subscription.ensures.done

pub returns-in-None-clause-err : goal.returns-in-None-clause-err
returns-in-None-clause-err g c = on_err_weaker c.refresh_subscription.result (λ breaks.
    let s = c.args.self.now in
    let P = AddsOfferPrefix s c.args.out.now c.refresh_subscription.new.out in
    refreshing_so s P (breaks_reads s c.args.out.now c.refresh_subscription.new.out) c.args.context.now.at c.args.key c.args.request.now c.args.sub c.in_ok-code.field-0 c.in_ok-code.ensures.first
    (subst (λ (o : Option ℕ). P (λ d token. after_refresh_by d token c.args.context.now.at c.args.key c.args.request.now c.args.sub o)) (sym c.in-None.is) breaks))
    c.refresh_subscription.ensures.err

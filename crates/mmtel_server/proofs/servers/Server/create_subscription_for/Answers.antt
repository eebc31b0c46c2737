use Rattle.std.proofs.Common.{true, false, Option, sym, subst, ◌∙◌}
use Rattle.std.specs.Prelude.{if◌then◌else◌}
use Rattle.std.proofs.lemmas.Result.{on_err_weaker, on_ok_weaker}
use Rattle.mmtel_run_definitions.specs.OwnResponses.{StatusResponse, plain_response}
use Rattle.mmtel_run_definitions.specs.Subscriptions.{after_subscription_for}
use Rattle.mmtel_run_definitions.specs.Transitions.{with_response}
use Rattle.mmtel_types.specs.declared.numbers.Account.{Account}
use Rattle.mmtel_server.proofs.Subscriptions.{made_for_so, makes_for_grows}
use Rattle.mmtel_server.proofs.Grows.{stops_on}
use Rattle.mmtel_server.proofs.Participants.{breaks_reads, follows_reads}
use Rattle.mmtel_server.proofs.servers.Server.create_subscription_for.Goals as goal
use Rattle.mmtel_server.specs.Follows.{AddsOfferPrefix, Follows}

pub returns-in-None-clause-done : goal.returns-in-None-clause-done
returns-in-None-clause-done g c = on_ok_weaker c.respond.result (λ follows.
    let s = c.args.self.now in
    subst (λ (o : Option Account). Follows s c.args.out.now c.respond.new.self c.respond.new.out (λ d token. after_subscription_for d token c.args.context.now.at c.args.key c.args.request.now o)) (sym c.in-None.is)
    (subst (λ (x : StatusResponse). Follows s c.args.out.now c.respond.new.self c.respond.new.out (λ d token. with_response d token c.args.context.now.at c.args.key c.args.request.now x))
    c.plain_response.ensures.response follows))
    c.respond.ensures.done

pub returns-in-None-clause-err : goal.returns-in-None-clause-err
returns-in-None-clause-err g c =
    stops_on c.respond.result (λ d token. after_subscription_for d token c.args.context.now.at c.args.key c.args.request.now c.args.account) c.args.self.now c.args.out.now c.respond.new.out
    (λ d token w. makes_for_grows d token c.args.context.now.at c.args.key c.args.request.now c.args.account w) c.respond.ensures.err

pub returns-then-is_full-clause-done : goal.returns-then-is_full-clause-done
returns-then-is_full-clause-done g c = on_ok_weaker c.respond-then-is_full.result (λ follows.
    let s = c.args.self.now in
    subst (λ (o : Option Account). Follows s c.args.out.now c.respond-then-is_full.new.self c.respond-then-is_full.new.out (λ d token. after_subscription_for d token c.args.context.now.at c.args.key
    c.args.request.now o)) (sym c.in-Some.is)
    (made_for_so s (Follows s c.args.out.now c.respond-then-is_full.new.self c.respond-then-is_full.new.out) (follows_reads s c.args.out.now c.respond-then-is_full.new.self c.respond-then-is_full.new.out)
    c.args.context.now.at c.args.key c.args.request.now c.in-Some.account true (sym c.is_full.ensures.full ∙ c.if-is_full.true)
    (subst (λ (x : StatusResponse). Follows s c.args.out.now c.respond-then-is_full.new.self c.respond-then-is_full.new.out (λ d token. with_response d token c.args.context.now.at c.args.key
    c.args.request.now x)) c.plain_response-then-is_full.ensures.response follows)))
    c.respond-then-is_full.ensures.done

pub returns-then-is_full-clause-err : goal.returns-then-is_full-clause-err
returns-then-is_full-clause-err g c =
    stops_on c.respond-then-is_full.result (λ d token. after_subscription_for d token c.args.context.now.at c.args.key c.args.request.now c.args.account) c.args.self.now c.args.out.now c.respond-then-is_full.new.out
    (λ d token w. makes_for_grows d token c.args.context.now.at c.args.key c.args.request.now c.args.account w) c.respond-then-is_full.ensures.err

pub returns-else-is_full-clause-done : goal.returns-else-is_full-clause-done
returns-else-is_full-clause-done g c = on_ok_weaker c.create_subscription.result (λ follows.
    let s = c.args.self.now in
    subst (λ (o : Option Account). Follows s c.args.out.now c.create_subscription.new.self c.create_subscription.new.out
    (λ d token. after_subscription_for d token c.args.context.now.at c.args.key c.args.request.now o)) (sym c.in-Some.is)
    (made_for_so s (Follows s c.args.out.now c.create_subscription.new.self c.create_subscription.new.out) (follows_reads s c.args.out.now c.create_subscription.new.self c.create_subscription.new.out)
    c.args.context.now.at c.args.key c.args.request.now c.in-Some.account false (sym c.is_full.ensures.full ∙ c.if-is_full.false) follows))
    c.create_subscription.ensures.done

pub returns-else-is_full-clause-err : goal.returns-else-is_full-clause-err
returns-else-is_full-clause-err g c = on_err_weaker c.create_subscription.result (λ breaks.
    let s = c.args.self.now in
    subst (λ (o : Option Account). AddsOfferPrefix s c.args.out.now c.create_subscription.new.out (λ d token. after_subscription_for d token c.args.context.now.at c.args.key c.args.request.now o)) (sym c.in-Some.is)
    (made_for_so s (AddsOfferPrefix s c.args.out.now c.create_subscription.new.out) (breaks_reads s c.args.out.now c.create_subscription.new.out)
    c.args.context.now.at c.args.key c.args.request.now c.in-Some.account false (sym c.is_full.ensures.full ∙ c.if-is_full.false) breaks))
    c.create_subscription.ensures.err

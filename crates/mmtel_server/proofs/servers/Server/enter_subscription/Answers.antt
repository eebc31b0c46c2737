use Rattle.std.proofs.Common.{ap, sym, subst, ◌∙◌}
use Rattle.std.specs.Prelude.{codes}
use Rattle.std.proofs.lemmas.Result.{on_err_weaker, on_ok_weaker}
use Rattle.mmtel_compose.specs.ReceivedMessages.{MessageView}
use Rattle.mmtel_message.specs.Faults.{is_method}
use Rattle.mmtel_run_definitions.specs.OwnResponses.{StatusResponse, plain_response}
use Rattle.mmtel_run_definitions.specs.Subscriptions.{after_subscription_request}
use Rattle.mmtel_run_definitions.specs.Transitions.{with_response}
use Rattle.mmtel_server.proofs.Subscriptions.{enters_box_grows, enters_breaks, enters_follows, other_so, resubscribes_so, unordered_follows}
use Rattle.mmtel_server.proofs.Grows.{stops_on}
use Rattle.mmtel_server.proofs.servers.Server.enter_subscription.Goals as goal
use Rattle.mmtel_server.specs.Follows.{AddsOfferPrefix, Follows}
use Rattle.mmtel_server.specs.declared.servers.Server.{Server}

pub returns-in-Err-clause-done : goal.returns-in-Err-clause-done
returns-in-Err-clause-done g c = on_ok_weaker c.respond.result (λ follows.
    let s = c.args.self.now in
    unordered_follows c.args.context.now.at c.args.key c.args.request.now c.args.sub s c.receive_in_subscription.result c.receive_in_subscription.ensures.check c.args.out.now c.in-Err.field-0
    c.in-Err.is c.respond.new.self c.respond.new.out
    (subst (λ (x : Server). Follows x c.args.out.now c.respond.new.self c.respond.new.out (λ d token. with_response d token c.args.context.now.at c.args.key c.args.request.now (plain_response 500)))
    c.in-Err.ensures.refused
    (subst (λ (x : StatusResponse). Follows c.receive_in_subscription.new.self c.args.out.now c.respond.new.self c.respond.new.out (λ d token. with_response d token c.args.context.now.at c.args.key c.args.request.now x))
    c.plain_response.ensures.response follows)))
    c.respond.ensures.done

pub returns-in-Err-clause-err : goal.returns-in-Err-clause-err
returns-in-Err-clause-err g c =
    stops_on c.respond.result (λ d token. after_subscription_request d token c.args.context.now.at c.args.key c.args.request.now c.args.sub) c.args.self.now c.args.out.now c.respond.new.out
    (λ d token w. enters_box_grows d token c.args.context.now.at c.args.key c.args.request.now c.args.sub w) c.respond.ensures.err

pub returns-then-is_method-clause-done : goal.returns-then-is_method-clause-done
returns-then-is_method-clause-done g c = on_ok_weaker c.resubscribe.result (λ follows.
    enters_follows c.args.context.now.at c.args.key c.args.request.now c.args.sub c.args.self.now c.receive_in_subscription.result c.receive_in_subscription.ensures.check c.args.out.now c.in-Ok.is
    c.receive_in_subscription.new.self
    (c.in-Ok.ensures.done c.args.out.now) c.resubscribe.new.self c.resubscribe.new.out
    (resubscribes_so (Follows c.receive_in_subscription.new.self c.args.out.now c.resubscribe.new.self c.resubscribe.new.out) c.args.context.now.at c.args.key c.args.request.now c.args.sub
    (sym (ap (is_method (codes "SUBSCRIBE")) (c.start.ensures ∙ ap (λ (x : MessageView). x.parsed.start) c.request.view_is)) ∙ (sym c.is_method.ensures ∙ c.if-is_method.true)) follows))
    c.resubscribe.ensures.done

pub returns-then-is_method-clause-err : goal.returns-then-is_method-clause-err
returns-then-is_method-clause-err g c = on_err_weaker c.resubscribe.result (λ breaks.
    enters_breaks c.args.context.now.at c.args.key c.args.request.now c.args.sub c.args.self.now c.receive_in_subscription.result c.receive_in_subscription.ensures.check c.args.out.now c.in-Ok.is
    c.receive_in_subscription.new.self
    (c.in-Ok.ensures.done c.args.out.now) c.resubscribe.new.out
    (resubscribes_so (AddsOfferPrefix c.receive_in_subscription.new.self c.args.out.now c.resubscribe.new.out) c.args.context.now.at c.args.key c.args.request.now c.args.sub
    (sym (ap (is_method (codes "SUBSCRIBE")) (c.start.ensures ∙ ap (λ (x : MessageView). x.parsed.start) c.request.view_is)) ∙ (sym c.is_method.ensures ∙ c.if-is_method.true)) breaks))
    c.resubscribe.ensures.err

pub returns-else-is_method-clause-done : goal.returns-else-is_method-clause-done
returns-else-is_method-clause-done g c = on_ok_weaker c.respond_to_other.result (λ follows.
    enters_follows c.args.context.now.at c.args.key c.args.request.now c.args.sub c.args.self.now c.receive_in_subscription.result c.receive_in_subscription.ensures.check c.args.out.now c.in-Ok.is
    c.receive_in_subscription.new.self
    (c.in-Ok.ensures.done c.args.out.now) c.respond_to_other.new.self c.respond_to_other.new.out
    (other_so (Follows c.receive_in_subscription.new.self c.args.out.now c.respond_to_other.new.self c.respond_to_other.new.out) c.args.context.now.at c.args.key c.args.request.now c.args.sub
    (sym (ap (is_method (codes "SUBSCRIBE")) (c.start.ensures ∙ ap (λ (x : MessageView). x.parsed.start) c.request.view_is)) ∙ (sym c.is_method.ensures ∙ c.if-is_method.false)) follows))
    c.respond_to_other.ensures.done

pub returns-else-is_method-clause-err : goal.returns-else-is_method-clause-err
returns-else-is_method-clause-err g c =
    stops_on c.respond_to_other.result (λ d token. after_subscription_request d token c.args.context.now.at c.args.key c.args.request.now c.args.sub) c.args.self.now c.args.out.now c.respond_to_other.new.out
    (λ d token w. enters_box_grows d token c.args.context.now.at c.args.key c.args.request.now c.args.sub w) c.respond_to_other.ensures.err

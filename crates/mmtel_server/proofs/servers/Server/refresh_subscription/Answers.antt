use Rattle.std.proofs.Common.{◌≡◌, ℕ, None, refl, subst, ap, ◌∙◌}
use Rattle.std.proofs.lemmas.Result.{on_err_weaker, on_ok_weaker}
use Rattle.mmtel_mwi.specs.Boxes.{table_after_refresh, with_table}
use Rattle.mmtel_mwi.specs.Subscribing.{granted_seconds}
use Rattle.mmtel_run_definitions.specs.OwnResponses.{StatusResponse}
use Rattle.mmtel_run_definitions.specs.Records.{until_of}
use Rattle.mmtel_run_definitions.specs.Subscriptions.{after_activation, after_refresh_by, grant_response}
use Rattle.mmtel_run_definitions.specs.Transitions.{with_response}
use Rattle.mmtel_server.proofs.Subscriptions.{refreshes_breaks, refreshes_follows, refreshes_grows}
use Rattle.mmtel_server.proofs.Grows.{on_err, stops}
use Rattle.mmtel_server.proofs.servers.Server.refresh_subscription.Goals as goal
use Rattle.mmtel_server.specs.Follows.{AddsOfferPrefix, Follows}
use Rattle.mmtel_server.specs.declared.servers.Server.{Server}

pub returns-in_err-status_response-clause-err : goal.returns-in_err-status_response-clause-err
returns-in_err-status_response-clause-err g c = on_err c.from_residual.result _
    (stops (λ d token. after_refresh_by d token c.args.context.now.at c.args.key c.args.request.now c.args.sub None) c.args.self.now c.args.out.now c.args.out.now (λ d token w. refreshes_grows d token
    c.args.context.now.at c.args.key c.args.request.now c.args.sub None w) refl)

pub returns-in_err-done-clause-err : goal.returns-in_err-done-clause-err
returns-in_err-done-clause-err g c = on_err c.from_residual-in_err-done.result _
    (stops (λ d token. after_refresh_by d token c.args.context.now.at c.args.key c.args.request.now c.args.sub None) c.args.self.now c.args.out.now c.respond-done.new.out
    (λ d token w. refreshes_grows d token c.args.context.now.at c.args.key c.args.request.now c.args.sub None w) c.in_err-done.ensures.err)

pub returns-clause-done : goal.returns-clause-done
returns-clause-done g c = on_ok_weaker c.activate_subscription.result (λ follows.
    let s = c.args.self.now in
    let seconds = granted_seconds c.args.request.now.parsed.expires in
    let is = c.granted_expires-seconds.ensures.seconds in
    let until : c.until.result ≡ until_of c.args.context.now.at seconds = c.until.ensures ∙ ap (until_of c.args.context.now.at) is in
    let first : Server = record s { boxes = c.refresh.new.self } in
    let answers : Follows first c.args.out.now c.respond-done.new.self c.respond-done.new.out (λ d token. with_response d token c.args.context.now.at c.args.key c.args.request.now (grant_response seconds)) =
    subst (λ (x : StatusResponse). Follows first c.args.out.now c.respond-done.new.self c.respond-done.new.out (λ d token. with_response d token c.args.context.now.at c.args.key c.args.request.now x))
    (c.in_ok-status_response.ensures.response ∙ ap grant_response is) c.in_ok-done.ensures.done in
    let boxes = c.refresh.ensures.refreshed ∙ ap (λ (n : ℕ). with_table s.boxes (table_after_refresh c.args.sub n s.boxes.table)) until in
    refreshes_follows c.args.context.now.at c.args.key c.args.request.now c.args.sub s c.respond-done.new.self c.args.out.now c.respond-done.new.out c.refresh.new.self boxes answers
    c.activate_subscription.new.self c.activate_subscription.new.out
    (subst (λ (n : ℕ). Follows c.respond-done.new.self c.respond-done.new.out c.activate_subscription.new.self c.activate_subscription.new.out
    (λ d token. after_activation d token c.args.context.now.at c.args.sub n)) is follows))
    c.activate_subscription.ensures.done

pub returns-clause-err : goal.returns-clause-err
returns-clause-err g c = on_err_weaker c.activate_subscription.result (λ breaks.
    let s = c.args.self.now in
    let seconds = granted_seconds c.args.request.now.parsed.expires in
    let is = c.granted_expires-seconds.ensures.seconds in
    let until : c.until.result ≡ until_of c.args.context.now.at seconds = c.until.ensures ∙ ap (until_of c.args.context.now.at) is in
    let first : Server = record s { boxes = c.refresh.new.self } in
    let answers : Follows first c.args.out.now c.respond-done.new.self c.respond-done.new.out (λ d token. with_response d token c.args.context.now.at c.args.key c.args.request.now (grant_response seconds)) =
    subst (λ (x : StatusResponse). Follows first c.args.out.now c.respond-done.new.self c.respond-done.new.out (λ d token. with_response d token c.args.context.now.at c.args.key c.args.request.now x))
    (c.in_ok-status_response.ensures.response ∙ ap grant_response is) c.in_ok-done.ensures.done in
    let boxes = c.refresh.ensures.refreshed ∙ ap (λ (n : ℕ). with_table s.boxes (table_after_refresh c.args.sub n s.boxes.table)) until in
    refreshes_breaks c.args.context.now.at c.args.key c.args.request.now c.args.sub s c.respond-done.new.self c.args.out.now c.respond-done.new.out c.refresh.new.self boxes answers c.activate_subscription.new.out
    (subst (λ (n : ℕ). AddsOfferPrefix c.respond-done.new.self c.respond-done.new.out c.activate_subscription.new.out (λ d token. after_activation d token c.args.context.now.at c.args.sub n)) is breaks))
    c.activate_subscription.ensures.err

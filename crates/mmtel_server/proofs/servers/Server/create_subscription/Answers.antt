use Rattle.std.proofs.Common.{◌≡◌, [], ◌∷◌, List, ℕ, refl, subst, ap, ◌∙◌}
use Rattle.std.proofs.lemmas.Result.{on_err_weaker, on_ok_weaker}
use Rattle.mmtel_leg.specs.Legs.{Leg}
use Rattle.mmtel_mwi.specs.Operations.{Subscribes}
use Rattle.mmtel_mwi.specs.Subscribing.{granted_seconds}
use Rattle.mmtel_run_definitions.specs.OwnResponses.{response_to}
use Rattle.mmtel_run_definitions.specs.Records.{until_of}
use Rattle.mmtel_run_definitions.specs.Ownership.{leg_by}
use Rattle.mmtel_run_definitions.specs.Subscriptions.{after_activation, after_subscription, grant_response, with_mailbox_op}
use Rattle.mmtel_run_definitions.specs.Transitions.{with_emits}
use Rattle.mmtel_transaction.specs.declared.words.Emit.TheVariants as emit
use Rattle.mmtel_server.proofs.Subscriptions.{makes_breaks, makes_follows, makes_grows}
use Rattle.mmtel_server.proofs.Grows.{on_err, stops}
use Rattle.mmtel_server.proofs.servers.Server.create_subscription.Goals as goal
use Rattle.mmtel_server.specs.Follows.{AddsOfferPrefix, Follows}
use Rattle.mmtel_server.specs.declared.servers.Server.{Server}

pub returns-in_err-tag-clause-err : goal.returns-in_err-tag-clause-err
returns-in_err-tag-clause-err g c = on_err c.from_residual.result _
    (stops (λ d token. after_subscription d token c.args.context.now.at c.args.key c.args.request.now c.args.account (granted_seconds c.args.request.now.parsed.expires)) c.args.self.now c.args.out.now c.args.out.now
    (λ d token w. makes_grows d token c.args.context.now.at c.args.key c.args.request.now c.args.account (granted_seconds c.args.request.now.parsed.expires) w) refl)

pub returns-in_err-copied-clause-err : goal.returns-in_err-copied-clause-err
returns-in_err-copied-clause-err g c = on_err c.from_residual-in_err-copied.result _
    (stops (λ d token. after_subscription d token c.args.context.now.at c.args.key c.args.request.now c.args.account (granted_seconds c.args.request.now.parsed.expires)) c.args.self.now c.args.out.now c.args.out.now
    (λ d token w. makes_grows d token c.args.context.now.at c.args.key c.args.request.now c.args.account (granted_seconds c.args.request.now.parsed.expires) w) refl)

pub returns-in_err-leg-clause-err : goal.returns-in_err-leg-clause-err
returns-in_err-leg-clause-err g c = on_err c.from_residual-in_err-leg.result _
    (stops (λ d token. after_subscription d token c.args.context.now.at c.args.key c.args.request.now c.args.account (granted_seconds c.args.request.now.parsed.expires)) c.args.self.now c.args.out.now c.args.out.now
    (λ d token w. makes_grows d token c.args.context.now.at c.args.key c.args.request.now c.args.account (granted_seconds c.args.request.now.parsed.expires) w) refl)

pub returns-in_err-sub-clause-err : goal.returns-in_err-sub-clause-err
returns-in_err-sub-clause-err g c = on_err c.from_residual-in_err-sub.result _
    (stops (λ d token. after_subscription d token c.args.context.now.at c.args.key c.args.request.now c.args.account (granted_seconds c.args.request.now.parsed.expires)) c.args.self.now c.args.out.now c.args.out.now
    (λ d token w. makes_grows d token c.args.context.now.at c.args.key c.args.request.now c.args.account (granted_seconds c.args.request.now.parsed.expires) w) refl)

pub returns-in_err-done-clause-err : goal.returns-in_err-done-clause-err
returns-in_err-done-clause-err g c = on_err c.from_residual-in_err-done.result _
    (stops (λ d token. after_subscription d token c.args.context.now.at c.args.key c.args.request.now c.args.account (granted_seconds c.args.request.now.parsed.expires)) c.args.self.now c.args.out.now
    c.accept_subscribe-done.new.out
    (λ d token w. makes_grows d token c.args.context.now.at c.args.key c.args.request.now c.args.account (granted_seconds c.args.request.now.parsed.expires) w) c.in_err-done.ensures.err)

pub returns-clause-done : goal.returns-clause-done
returns-clause-done g c = on_ok_weaker c.activate_subscription.result (λ follows.
    let seconds = granted_seconds c.args.request.now.parsed.expires in
    let leg : c.in_ok-leg.leg ≡ leg_by c.in_ok-tag.tag c.args.request.now = c.in_ok-leg.ensures ∙ ap (λ (t : List ℕ). leg_by t c.args.request.now) c.in_ok-copied.ensures.copy in
    let first : Server = record c.args.self.now { tokens = c.draw_next_tag.new.tokens } in
    let until : c.until.result ≡ until_of c.args.context.now.at seconds = c.until.ensures ∙ ap (until_of c.args.context.now.at) c.granted_expires-seconds.ensures.seconds in
    let adds : Follows first c.args.out.now c.add_subscription.new.self c.args.out.now (λ d token.
    with_mailbox_op (Subscribes c.args.account (leg_by c.in_ok-tag.tag c.args.request.now) (until_of c.args.context.now.at seconds))) =
    subst (λ (n : ℕ). Follows first c.args.out.now c.add_subscription.new.self c.args.out.now (λ d token. with_mailbox_op (Subscribes c.args.account (leg_by c.in_ok-tag.tag c.args.request.now) n))) until
    (subst (λ (l : Leg). Follows first c.args.out.now c.add_subscription.new.self c.args.out.now (λ d token. with_mailbox_op (Subscribes c.args.account l c.until.result))) leg
    (c.in_ok-sub.ensures.done c.args.out.now)) in
    let grants = subst (λ (n : ℕ). Follows c.add_subscription.new.self c.args.out.now c.accept_subscribe-done.new.self c.accept_subscribe-done.new.out
    (λ d token. with_emits c.args.context.now.at (emit.Reply c.args.key (response_to d.sip c.in_ok-tag.tag c.args.request.now (grant_response n)) ∷ []))) c.granted_expires-seconds.ensures.seconds
    c.in_ok-done.ensures.done in
    makes_follows c.args.context.now.at c.args.key c.args.request.now c.args.account seconds c.args.self.now c.draw_next_tag.new.tokens c.in_ok-tag.tag c.args.out.now c.in_ok-tag.ensures.drawn c.in_ok-tag.ensures.tag
    c.in_ok-sub.sub c.in_ok-sub.ensures.number c.add_subscription.new.self c.accept_subscribe-done.new.self c.accept_subscribe-done.new.out adds grants c.activate_subscription.new.self c.activate_subscription.new.out
    (subst (λ (n : ℕ). Follows c.accept_subscribe-done.new.self c.accept_subscribe-done.new.out c.activate_subscription.new.self c.activate_subscription.new.out
    (λ d token. after_activation d token c.args.context.now.at c.in_ok-sub.sub n))
    c.granted_expires-seconds.ensures.seconds follows))
    c.activate_subscription.ensures.done

pub returns-clause-err : goal.returns-clause-err
returns-clause-err g c = on_err_weaker c.activate_subscription.result (λ breaks.
    let seconds = granted_seconds c.args.request.now.parsed.expires in
    let leg : c.in_ok-leg.leg ≡ leg_by c.in_ok-tag.tag c.args.request.now = c.in_ok-leg.ensures ∙ ap (λ (t : List ℕ). leg_by t c.args.request.now) c.in_ok-copied.ensures.copy in
    let first : Server = record c.args.self.now { tokens = c.draw_next_tag.new.tokens } in
    let until : c.until.result ≡ until_of c.args.context.now.at seconds = c.until.ensures ∙ ap (until_of c.args.context.now.at) c.granted_expires-seconds.ensures.seconds in
    let adds : Follows first c.args.out.now c.add_subscription.new.self c.args.out.now (λ d token.
    with_mailbox_op (Subscribes c.args.account (leg_by c.in_ok-tag.tag c.args.request.now) (until_of c.args.context.now.at seconds))) =
    subst (λ (n : ℕ). Follows first c.args.out.now c.add_subscription.new.self c.args.out.now (λ d token. with_mailbox_op (Subscribes c.args.account (leg_by c.in_ok-tag.tag c.args.request.now) n))) until
    (subst (λ (l : Leg). Follows first c.args.out.now c.add_subscription.new.self c.args.out.now (λ d token. with_mailbox_op (Subscribes c.args.account l c.until.result))) leg
    (c.in_ok-sub.ensures.done c.args.out.now)) in
    let grants = subst (λ (n : ℕ). Follows c.add_subscription.new.self c.args.out.now c.accept_subscribe-done.new.self c.accept_subscribe-done.new.out
    (λ d token. with_emits c.args.context.now.at (emit.Reply c.args.key (response_to d.sip c.in_ok-tag.tag c.args.request.now (grant_response n)) ∷ []))) c.granted_expires-seconds.ensures.seconds
    c.in_ok-done.ensures.done in
    makes_breaks c.args.context.now.at c.args.key c.args.request.now c.args.account seconds c.args.self.now c.draw_next_tag.new.tokens c.in_ok-tag.tag c.args.out.now c.in_ok-tag.ensures.drawn c.in_ok-tag.ensures.tag
    c.in_ok-sub.sub c.in_ok-sub.ensures.number c.add_subscription.new.self c.accept_subscribe-done.new.self c.accept_subscribe-done.new.out adds grants c.activate_subscription.new.out
    (subst (λ (n : ℕ). AddsOfferPrefix c.accept_subscribe-done.new.self c.accept_subscribe-done.new.out c.activate_subscription.new.out (λ d token. after_activation d token c.args.context.now.at c.in_ok-sub.sub n))
    c.granted_expires-seconds.ensures.seconds breaks))
    c.activate_subscription.ensures.err

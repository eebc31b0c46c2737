use Rattle.std.proofs.Common.{Option, sym, subst}
use Rattle.std.specs.Prelude.{OnErr, OnOk}
use Rattle.mmtel_run_definitions.specs.OwnResponses.{StatusResponse}
use Rattle.mmtel_run_definitions.specs.Transitions.{after_cancel, with_response}
use Rattle.mmtel_transaction.specs.declared.words.TKey.{TKey}
use Rattle.mmtel_server.proofs.Grows.{cancels, stops_on}
use Rattle.mmtel_server.proofs.servers.Server.receive_cancel.Goals as goal
use Rattle.mmtel_server.specs.Follows.{AddsOfferPrefix, Follows}

pub returns-in-None-clause-done : goal.returns-in-None-clause-done
returns-in-None-clause-done g c =
    subst (λ (o : Option TKey). OnOk c.respond-done.result
    (Follows c.args.self.now c.args.out.now c.respond-done.new.self c.respond-done.new.out (λ d token. after_cancel d token c.args.context.now.at c.args.key c.args.cancel o))) (sym c.in-None.is)
    (subst (λ (x : StatusResponse). OnOk c.respond-done.result
    (Follows c.args.self.now c.args.out.now c.respond-done.new.self c.respond-done.new.out (λ d token. with_response d token c.args.context.now.at c.args.key c.args.cancel x)))
    c.plain_response.ensures.response c.respond-done.ensures.done)

pub returns-in-None-clause-err : goal.returns-in-None-clause-err
returns-in-None-clause-err g c = stops_on c.respond-done.result (λ d token. after_cancel d token c.args.context.now.at c.args.key c.args.cancel c.args.invite) c.args.self.now c.args.out.now c.respond-done.new.out
    (λ d token w. cancels c.numbers_never_fall.ensures d token c.args.context.now.at c.args.key c.args.cancel c.args.invite w) c.respond-done.ensures.err

pub returns-in-Some-clause-done : goal.returns-in-Some-clause-done
returns-in-Some-clause-done g c =
    subst (λ (o : Option TKey). OnOk c.cancel_invite.result
    (Follows c.args.self.now c.args.out.now c.cancel_invite.new.self c.cancel_invite.new.out (λ d token. after_cancel d token c.args.context.now.at c.args.key c.args.cancel o)))
    (sym c.in-Some.is) c.cancel_invite.ensures.done

pub returns-in-Some-clause-err : goal.returns-in-Some-clause-err
returns-in-Some-clause-err g c =
    subst (λ (o : Option TKey). OnErr c.cancel_invite.result (AddsOfferPrefix c.args.self.now c.args.out.now c.cancel_invite.new.out (λ d token. after_cancel d token c.args.context.now.at c.args.key c.args.cancel o)))
    (sym c.in-Some.is) c.cancel_invite.ensures.err

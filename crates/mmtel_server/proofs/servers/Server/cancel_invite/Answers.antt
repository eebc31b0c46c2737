use Rattle.std.proofs.Common.{Option, Some, sym, subst}
use Rattle.std.proofs.lemmas.Result.{on_err_weaker, on_ok_weaker}
use Rattle.mmtel_b2bua.specs.Queries.{first_side, side_by_invite_key}
use Rattle.mmtel_run_definitions.specs.OwnResponses.{StatusResponse}
use Rattle.mmtel_run_definitions.specs.Calls.{call_of_invite}
use Rattle.mmtel_run_definitions.specs.Transitions.{after_cancel, after_cancel_of, calls_in, with_response}
use Rattle.mmtel_types.specs.declared.numbers.CallNo.{CallNo}
use Rattle.mmtel_types.specs.declared.sides.Side.{Side}
use Rattle.mmtel_server.proofs.Owners.{breaks_so, follows_so, of_calls}
use Rattle.mmtel_server.proofs.Grows.{cancels, stops_on}
use Rattle.mmtel_server.proofs.servers.Server.cancel_invite.Goals as goal
use Rattle.mmtel_server.specs.Follows.{AddsOfferPrefix, Follows}

pub returns-in-None-clause-done : goal.returns-in-None-clause-done
returns-in-None-clause-done g c = on_ok_weaker c.respond-done.result (λ follows.
    let s = c.args.self.now in
    let out = c.args.out.now in
    follows_so c.asked_by.result (λ d w. call_of_invite c.args.invite (calls_in d w).entries) (λ o d token. after_cancel_of d token c.args.context.now.at c.args.key c.args.cancel c.args.invite o) s out
    (of_calls s c.asked_by.result (first_side (side_by_invite_key c.args.invite)) c.asked_by.ensures) c.respond-done.new.self c.respond-done.new.out
    (subst (λ (o : Option (CallNo × Side)). Follows s out c.respond-done.new.self c.respond-done.new.out (λ d token. after_cancel_of d token c.args.context.now.at c.args.key c.args.cancel c.args.invite o))
    (sym c.in-None.is)
    (subst (λ (x : StatusResponse). Follows s out c.respond-done.new.self c.respond-done.new.out (λ d token. with_response d token c.args.context.now.at c.args.key c.args.cancel x))
    c.plain_response.ensures.response follows)))
    c.respond-done.ensures.done

pub returns-in-None-clause-err : goal.returns-in-None-clause-err
returns-in-None-clause-err g c = stops_on c.respond-done.result (λ d token. after_cancel d token c.args.context.now.at c.args.key c.args.cancel (Some c.args.invite)) c.args.self.now c.args.out.now c.respond-done.new.out
    (λ d token w. cancels c.numbers_never_fall.ensures d token c.args.context.now.at c.args.key c.args.cancel (Some c.args.invite) w) c.respond-done.ensures.err

pub returns-in-Some-clause-done : goal.returns-in-Some-clause-done
returns-in-Some-clause-done g c = on_ok_weaker c.signal_calls.result (λ follows.
    let s = c.args.self.now in
    let out = c.args.out.now in
    follows_so c.asked_by.result (λ d w. call_of_invite c.args.invite (calls_in d w).entries) (λ o d token. after_cancel_of d token c.args.context.now.at c.args.key c.args.cancel c.args.invite o) s out
    (of_calls s c.asked_by.result (first_side (side_by_invite_key c.args.invite)) c.asked_by.ensures) c.signal_calls.new.self c.signal_calls.new.out
    (subst (λ (o : Option (CallNo × Side)). Follows s out c.signal_calls.new.self c.signal_calls.new.out (λ d token. after_cancel_of d token c.args.context.now.at c.args.key c.args.cancel c.args.invite o))
    (sym c.in-Some.is) follows))
    c.signal_calls.ensures.done

pub returns-in-Some-clause-err : goal.returns-in-Some-clause-err
returns-in-Some-clause-err g c = on_err_weaker c.signal_calls.result (λ breaks.
    let s = c.args.self.now in
    let out = c.args.out.now in
    breaks_so c.asked_by.result (λ d w. call_of_invite c.args.invite (calls_in d w).entries) (λ o d token. after_cancel_of d token c.args.context.now.at c.args.key c.args.cancel c.args.invite o) s out
    (of_calls s c.asked_by.result (first_side (side_by_invite_key c.args.invite)) c.asked_by.ensures) c.signal_calls.new.out
    (subst (λ (o : Option (CallNo × Side)). AddsOfferPrefix s out c.signal_calls.new.out (λ d token. after_cancel_of d token c.args.context.now.at c.args.key c.args.cancel c.args.invite o)) (sym c.in-Some.is) breaks))
    c.signal_calls.ensures.err

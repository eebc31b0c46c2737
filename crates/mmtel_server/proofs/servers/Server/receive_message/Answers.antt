use Rattle.std.proofs.Common.{None, refl, subst}
use Rattle.std.proofs.lemmas.Result.{on_err_weaker, on_ok_weaker}
use Rattle.mmtel_compose.specs.ReceivedMessages.{MessageView}
use Rattle.mmtel_run_definitions.specs.Transitions.{after_classified_message, after_message}
use Rattle.mmtel_server.proofs.Grows.{message_grows, stops, stops_on}
use Rattle.mmtel_server.proofs.Messages.{full_done, received_cut, received_done}
use Rattle.mmtel_server.proofs.servers.Server.receive_message.Goals as goal
use Rattle.mmtel_server.specs.Follows.{AddsOfferPrefix, Follows}

pub returns-in-Ok-clause-done : goal.returns-in-Ok-clause-done
returns-in-Ok-clause-done g c = on_ok_weaker c.receive_by_transaction.result (λ follows.
    let m = c.received.inside in
    subst (λ (x : MessageView). Follows c.args.self.now c.args.out.now c.receive_by_transaction.new.self c.receive_by_transaction.new.out (λ d token. after_message d token c.args.context.now.at x))
    c.received.view_is (λ d token before w did short.
    received_done c.numbers_never_fall.ensures c.numbers_are_distinct.ensures.few c.args.self.now c.hear.new.self c.args.out.now c.args.context.now.at m.peer m.source m.trusted m.message
    c.in-Ok.heard_by_transactions c.in-Ok.ensures.done d token before w did short c.receive_by_transaction.new.self c.receive_by_transaction.new.out follows))
    c.receive_by_transaction.ensures.done

pub returns-in-Ok-clause-err : goal.returns-in-Ok-clause-err
returns-in-Ok-clause-err g c = on_err_weaker c.receive_by_transaction.result (λ breaks.
    let m = c.received.inside in
    subst (λ (x : MessageView). AddsOfferPrefix c.args.self.now c.args.out.now c.receive_by_transaction.new.out (λ d token. after_message d token c.args.context.now.at x)) c.received.view_is
    (λ d token before w did short.
    received_cut c.numbers_never_fall.ensures c.numbers_are_distinct.ensures.few c.args.self.now c.hear.new.self c.args.out.now c.args.context.now.at m.peer m.source m.trusted m.message
    c.in-Ok.heard_by_transactions c.in-Ok.ensures.done d token before w did short c.receive_by_transaction.new.out breaks))
    c.receive_by_transaction.ensures.err

pub returns-in-Err-Full-clause-done : goal.returns-in-Err-Full-clause-done
returns-in-Err-Full-clause-done g c = on_ok_weaker c.respond_too_many-done.result (λ follows.
    let m = c.received.inside in
    subst (λ (x : MessageView). Follows c.args.self.now c.args.out.now c.respond_too_many-done.new.self c.respond_too_many-done.new.out (λ d token. after_message d token c.args.context.now.at x)) c.received.view_is
    (full_done c.args.self.now c.hear.new.self c.respond_too_many-done.new.self c.args.out.now c.respond_too_many-done.new.out c.args.context.now.at m.peer m.source m.trusted m.message
    c.in-Err-Full.message c.in-Err-Full.field-0
    c.in-Err-Full.ensures.refused c.in-Err-Full.field-0-is
    (subst (λ (y : MessageView). Follows (record c.args.self.now { transactions = c.hear.new.self }) c.args.out.now c.respond_too_many-done.new.self c.respond_too_many-done.new.out
    (λ d token. after_classified_message d token c.args.context.now.at y None))
    c.received_message-request.ensures follows)))
    c.respond_too_many-done.ensures.done

pub returns-in-Err-Full-clause-err : goal.returns-in-Err-Full-clause-err
returns-in-Err-Full-clause-err g c = stops_on c.respond_too_many-done.result (λ d token. after_message d token c.args.context.now.at c.args.received) c.args.self.now c.args.out.now c.respond_too_many-done.new.out
    (λ d token w. message_grows c.numbers_never_fall.ensures d token c.args.context.now.at c.args.received w) c.respond_too_many-done.ensures.err

pub returns-in-Err-NoMemory-clause-err : goal.returns-in-Err-NoMemory-clause-err
returns-in-Err-NoMemory-clause-err g c = stops (λ d token. after_message d token c.args.context.now.at c.args.received) c.args.self.now c.args.out.now c.args.out.now
    (λ d token w. message_grows c.numbers_never_fall.ensures d token c.args.context.now.at c.args.received w) refl

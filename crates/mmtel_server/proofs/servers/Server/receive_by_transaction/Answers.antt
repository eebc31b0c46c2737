use Rattle.std.proofs.Common.{Some, ap, ◌∙◌, sym, subst}
use Rattle.std.proofs.lemmas.Result.{on_err_weaker, on_ok_weaker}
use Rattle.mmtel_compose.specs.ReceivedMessages.{MessageView, message_view}
use Rattle.mmtel_run_definitions.specs.Transitions.{after_ack, after_cancel, after_classified_message, after_new_request, after_response}
use Rattle.mmtel_transaction.specs.declared.words.Heard.{Heard}
use Rattle.mmtel_server.proofs.Grows.{answers, stops}
use Rattle.mmtel_server.proofs.servers.Server.receive_by_transaction.Goals as goal
use Rattle.mmtel_server.specs.Follows.{AddsOfferPrefix, Follows, IsMessageOf}

pub returns-in-Fresh-clause-done : goal.returns-in-Fresh-clause-done
returns-in-Fresh-clause-done g c = on_ok_weaker c.receive_new_request.result (λ holds message back.
    let same = subst (λ (x : Heard). IsMessageOf message x) c.in-Fresh.is back in
    subst (λ (x : Heard). Follows c.args.self.now c.args.out.now c.receive_new_request.new.self c.receive_new_request.new.out
    (λ d token. after_classified_message d token c.args.context.now.at (message_view c.args.message_source.peer c.args.message_source.source c.args.message_source.trusted message) (Some x))) (sym c.in-Fresh.is)
    (subst (λ (y : MessageView). Follows c.args.self.now c.args.out.now c.receive_new_request.new.self c.receive_new_request.new.out (λ d token. after_new_request d token c.args.context.now.at c.in-Fresh.key y))
    (c.received_message.ensures ∙ ap (message_view c.args.message_source.peer c.args.message_source.source c.args.message_source.trusted) same) holds))
    c.receive_new_request.ensures.done

pub returns-in-Fresh-clause-err : goal.returns-in-Fresh-clause-err
returns-in-Fresh-clause-err g c = on_err_weaker c.receive_new_request.result (λ holds message back.
    let same = subst (λ (x : Heard). IsMessageOf message x) c.in-Fresh.is back in
    subst (λ (x : Heard). AddsOfferPrefix c.args.self.now c.args.out.now c.receive_new_request.new.out
    (λ d token. after_classified_message d token c.args.context.now.at (message_view c.args.message_source.peer c.args.message_source.source c.args.message_source.trusted message) (Some x))) (sym c.in-Fresh.is)
    (subst (λ (y : MessageView). AddsOfferPrefix c.args.self.now c.args.out.now c.receive_new_request.new.out (λ d token. after_new_request d token c.args.context.now.at c.in-Fresh.key y))
    (c.received_message.ensures ∙ ap (message_view c.args.message_source.peer c.args.message_source.source c.args.message_source.trusted) same) holds))
    c.receive_new_request.ensures.err

pub returns-in-Answer-clause-done : goal.returns-in-Answer-clause-done
returns-in-Answer-clause-done g c = on_ok_weaker c.receive_response.result (λ holds message back.
    let same = subst (λ (x : Heard). IsMessageOf message x) c.in-Answer.is back in
    subst (λ (x : Heard). Follows c.args.self.now c.args.out.now c.receive_response.new.self c.receive_response.new.out
    (λ d token. after_classified_message d token c.args.context.now.at (message_view c.args.message_source.peer c.args.message_source.source c.args.message_source.trusted message) (Some x))) (sym c.in-Answer.is)
    (subst (λ (y : MessageView). Follows c.args.self.now c.args.out.now c.receive_response.new.self c.receive_response.new.out (λ d token. after_response d token c.args.context.now.at c.in-Answer.key y))
    (c.received_message-in-Answer.ensures ∙ ap (message_view c.args.message_source.peer c.args.message_source.source c.args.message_source.trusted) same) holds))
    c.receive_response.ensures.done

pub returns-in-Answer-clause-err : goal.returns-in-Answer-clause-err
returns-in-Answer-clause-err g c = on_err_weaker c.receive_response.result (λ holds message back.
    let same = subst (λ (x : Heard). IsMessageOf message x) c.in-Answer.is back in
    subst (λ (x : Heard). AddsOfferPrefix c.args.self.now c.args.out.now c.receive_response.new.out
    (λ d token. after_classified_message d token c.args.context.now.at (message_view c.args.message_source.peer c.args.message_source.source c.args.message_source.trusted message) (Some x))) (sym c.in-Answer.is)
    (subst (λ (y : MessageView). AddsOfferPrefix c.args.self.now c.args.out.now c.receive_response.new.out (λ d token. after_response d token c.args.context.now.at c.in-Answer.key y))
    (c.received_message-in-Answer.ensures ∙ ap (message_view c.args.message_source.peer c.args.message_source.source c.args.message_source.trusted) same) holds))
    c.receive_response.ensures.err

pub returns-in-Cancel-clause-done : goal.returns-in-Cancel-clause-done
returns-in-Cancel-clause-done g c = on_ok_weaker c.receive_cancel.result (λ holds message back.
    let same = subst (λ (x : Heard). IsMessageOf message x) c.in-Cancel.is back in
    subst (λ (x : Heard). Follows c.args.self.now c.args.out.now c.receive_cancel.new.self c.receive_cancel.new.out
    (λ d token. after_classified_message d token c.args.context.now.at (message_view c.args.message_source.peer c.args.message_source.source c.args.message_source.trusted message) (Some x))) (sym c.in-Cancel.is)
    (subst (λ (y : MessageView). Follows c.args.self.now c.args.out.now c.receive_cancel.new.self c.receive_cancel.new.out (λ d token. after_cancel d token c.args.context.now.at c.in-Cancel.key y c.in-Cancel.invite))
    (c.received_message-in-Cancel.ensures ∙ ap (message_view c.args.message_source.peer c.args.message_source.source c.args.message_source.trusted) same) holds))
    c.receive_cancel.ensures.done

pub returns-in-Cancel-clause-err : goal.returns-in-Cancel-clause-err
returns-in-Cancel-clause-err g c = on_err_weaker c.receive_cancel.result (λ holds message back.
    let same = subst (λ (x : Heard). IsMessageOf message x) c.in-Cancel.is back in
    subst (λ (x : Heard). AddsOfferPrefix c.args.self.now c.args.out.now c.receive_cancel.new.out
    (λ d token. after_classified_message d token c.args.context.now.at (message_view c.args.message_source.peer c.args.message_source.source c.args.message_source.trusted message) (Some x))) (sym c.in-Cancel.is)
    (subst (λ (y : MessageView). AddsOfferPrefix c.args.self.now c.args.out.now c.receive_cancel.new.out (λ d token. after_cancel d token c.args.context.now.at c.in-Cancel.key y c.in-Cancel.invite))
    (c.received_message-in-Cancel.ensures ∙ ap (message_view c.args.message_source.peer c.args.message_source.source c.args.message_source.trusted) same) holds))
    c.receive_cancel.ensures.err

pub returns-in-AckOf2xx-clause-done : goal.returns-in-AckOf2xx-clause-done
returns-in-AckOf2xx-clause-done g c = on_ok_weaker c.receive_ack.result (λ holds message back.
    let same = subst (λ (x : Heard). IsMessageOf message x) c.in-AckOf2xx.is back in
    subst (λ (x : Heard). Follows c.args.self.now c.args.out.now c.receive_ack.new.self c.receive_ack.new.out
    (λ d token. after_classified_message d token c.args.context.now.at (message_view c.args.message_source.peer c.args.message_source.source c.args.message_source.trusted message) (Some x))) (sym c.in-AckOf2xx.is)
    (subst (λ (y : MessageView). Follows c.args.self.now c.args.out.now c.receive_ack.new.self c.receive_ack.new.out (λ d token. after_ack d token c.args.context.now.at y))
    (c.received_message-in-AckOf2xx.ensures ∙ ap (message_view c.args.message_source.peer c.args.message_source.source c.args.message_source.trusted) same) holds))
    c.receive_ack.ensures.done

pub returns-in-AckOf2xx-clause-err : goal.returns-in-AckOf2xx-clause-err
returns-in-AckOf2xx-clause-err g c = on_err_weaker c.receive_ack.result (λ holds message back.
    let same = subst (λ (x : Heard). IsMessageOf message x) c.in-AckOf2xx.is back in
    subst (λ (x : Heard). AddsOfferPrefix c.args.self.now c.args.out.now c.receive_ack.new.out
    (λ d token. after_classified_message d token c.args.context.now.at (message_view c.args.message_source.peer c.args.message_source.source c.args.message_source.trusted message) (Some x))) (sym c.in-AckOf2xx.is)
    (subst (λ (y : MessageView). AddsOfferPrefix c.args.self.now c.args.out.now c.receive_ack.new.out (λ d token. after_ack d token c.args.context.now.at y))
    (c.received_message-in-AckOf2xx.ensures ∙ ap (message_view c.args.message_source.peer c.args.message_source.source c.args.message_source.trusted) same) holds))
    c.receive_ack.ensures.err

pub returns-in-Repeat-clause-done : goal.returns-in-Repeat-clause-done
returns-in-Repeat-clause-done g c = on_ok_weaker c.retransmit.result (λ follows message so.
    subst (λ (x : Heard). Follows c.args.self.now c.args.out.now c.retransmit.new.self c.retransmit.new.out
    (λ d token. after_classified_message d token c.args.context.now.at (message_view c.args.message_source.peer c.args.message_source.source c.args.message_source.trusted message) (Some x)))
    (sym c.in-Repeat.is) follows)
    c.retransmit.ensures.done

pub returns-in-Repeat-clause-err : goal.returns-in-Repeat-clause-err
returns-in-Repeat-clause-err g c = on_err_weaker c.retransmit.result
    (λ e message so. stops (λ d token. after_classified_message d token c.args.context.now.at
    (message_view c.args.message_source.peer c.args.message_source.source c.args.message_source.trusted message) (Some c.args.received)) c.args.self.now c.args.out.now c.retransmit.new.out
    (λ d token w. answers c.numbers_never_fall.ensures d token c.args.context.now.at (message_view c.args.message_source.peer c.args.message_source.source c.args.message_source.trusted message)
    (Some c.args.received) w) e) c.retransmit.ensures.err

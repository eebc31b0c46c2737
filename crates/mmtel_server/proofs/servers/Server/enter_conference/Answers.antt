use Rattle.std.proofs.Common.{ap, refl, subst}
use Rattle.std.proofs.lemmas.Result.{on_err_weaker, on_ok_weaker}
use Rattle.mmtel_compose.specs.ReceivedMessages.{MessageView}
use Rattle.mmtel_run_definitions.specs.Transitions.{after_participant_request, after_replaces}
use Rattle.mmtel_server.proofs.Grows.{enters_room, on_err, stops}
use Rattle.mmtel_server.proofs.Participants.{accepted_is, entered_breaks, entered_follows, received_breaks}
use Rattle.mmtel_types.specs.declared.numbers.Peer.{Peer}
use Rattle.mmtel_server.proofs.servers.Server.enter_conference.Goals as goal
use Rattle.mmtel_server.specs.Follows.{AddsOfferPrefix, Follows}

pub returns-in-Err-clause-err : goal.returns-in-Err-clause-err
returns-in-Err-clause-err g c =
    stops (λ d token. after_participant_request d token c.args.context.now.at c.args.key c.args.request c.args.participant.room c.args.participant.number) c.args.self.now c.args.out.now c.args.out.now
    (λ d token w. enters_room c.numbers_never_fall.ensures d token c.args.context.now.at c.args.key c.args.request c.args.participant.room c.args.participant.number w) refl

pub returns-in-Err-step_conferences-clause-err : goal.returns-in-Err-step_conferences-clause-err
returns-in-Err-step_conferences-clause-err g c =
    stops (λ d token. after_participant_request d token c.args.context.now.at c.args.key c.args.request c.args.participant.room c.args.participant.number) c.args.self.now c.args.out.now c.args.out.now
    (λ d token w. enters_room c.numbers_never_fall.ensures d token c.args.context.now.at c.args.key c.args.request c.args.participant.room c.args.participant.number w) refl

pub returns-in_err-emitted-clause-err : goal.returns-in_err-emitted-clause-err
returns-in_err-emitted-clause-err g c = on_err c.from_residual.result _
    (received_breaks c.numbers_never_fall.ensures c.args.context.now.at c.args.key c.args.request c.args.participant.room c.args.participant.number c.args.self.now c.step_conferences.new.self
    c.in-Ok-step_conferences.emits c.items-2.result.now c.args.out.now c.emit_all-emitted.new.out
    c.in-Ok-step_conferences.ensures c.items-2.ensures c.in_err-emitted.ensures.err)

pub returns-clause-done : goal.returns-clause-done
returns-clause-done g c = on_ok_weaker c.replace_if_requested.result (λ follows.
    entered_follows c.numbers_never_fall.ensures c.args.context.now.at c.args.key c.args.request c.args.participant.room c.args.participant.number c.args.self.now c.step_conferences.new.self
    c.in-Ok-step_conferences.emits c.items-2.result.now c.args.out.now c.emit_all-emitted.new.out
    c.in-Ok-step_conferences.ensures c.items-2.ensures c.if_accepted-accepted.result
    (accepted_is c.args.request.parsed c.in-Ok.replaces c.if_accepted-accepted.result c.in-Ok-step_conferences.emits c.items.result.now c.in-Ok.ensures c.if_accepted-accepted.ensures c.items.ensures)
    c.emit_all-emitted.new.self c.in_ok-emitted.ensures.done c.replace_if_requested.new.out c.replace_if_requested.new.self
    (subst (λ (p : Peer). Follows c.emit_all-emitted.new.self c.emit_all-emitted.new.out c.replace_if_requested.new.self c.replace_if_requested.new.out
    (λ d token. after_replaces d token c.args.context.now.at p c.args.participant.room c.args.participant.number c.if_accepted-accepted.result))
    (ap (λ (x : MessageView). x.peer) c.request.view_is) follows)) c.replace_if_requested.ensures.done

pub returns-clause-err : goal.returns-clause-err
returns-clause-err g c = on_err_weaker c.replace_if_requested.result (λ breaks.
    entered_breaks c.numbers_never_fall.ensures c.args.context.now.at c.args.key c.args.request c.args.participant.room c.args.participant.number c.args.self.now c.step_conferences.new.self
    c.in-Ok-step_conferences.emits c.items-2.result.now c.args.out.now c.emit_all-emitted.new.out
    c.in-Ok-step_conferences.ensures c.items-2.ensures c.if_accepted-accepted.result
    (accepted_is c.args.request.parsed c.in-Ok.replaces c.if_accepted-accepted.result c.in-Ok-step_conferences.emits c.items.result.now c.in-Ok.ensures c.if_accepted-accepted.ensures c.items.ensures)
    c.emit_all-emitted.new.self c.in_ok-emitted.ensures.done c.replace_if_requested.new.out
    (subst (λ (p : Peer). AddsOfferPrefix c.emit_all-emitted.new.self c.emit_all-emitted.new.out c.replace_if_requested.new.out
    (λ d token. after_replaces d token c.args.context.now.at p c.args.participant.room c.args.participant.number c.if_accepted-accepted.result))
    (ap (λ (x : MessageView). x.peer) c.request.view_is) breaks)) c.replace_if_requested.ensures.err

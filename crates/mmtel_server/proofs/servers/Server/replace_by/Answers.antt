use Rattle.std.proofs.Common.{Some}
use Rattle.std.proofs.lemmas.Result.{on_err_weaker, on_ok_weaker}
use Rattle.mmtel_run_definitions.specs.Transitions.{after_refer_notify, after_replaces, after_replacing}
use Rattle.mmtel_server.proofs.Grows.{followed, notices, offer_prefix_added, on_err}
use Rattle.mmtel_server.proofs.Participants.{broke_first, replaces_grows}
use Rattle.mmtel_server.proofs.servers.Server.replace_by.Goals as goal

pub returns-in_err-send_refer_notify-clause-err : goal.returns-in_err-send_refer_notify-clause-err
returns-in_err-send_refer_notify-clause-err g c = on_err c.from_residual.result _
    (broke_first (λ d token. after_refer_notify d token c.args.context.now.at c.args.participant.room c.args.participant.number 100)
    (λ d token. after_replaces d token c.args.context.now.at c.args.peer c.args.participant.room c.args.participant.number (Some c.args.replaces.now)) c.args.self.now c.args.out.now c.send_refer_notify.new.out
    (λ d token w. replaces_grows c.numbers_never_fall.ensures d token c.args.context.now.at c.args.peer c.args.participant.room c.args.participant.number c.args.replaces.now
    (after_refer_notify d token c.args.context.now.at c.args.participant.room c.args.participant.number 100 w)) c.in_err-send_refer_notify.ensures.err)

pub returns-clause-done : goal.returns-clause-done
returns-clause-done g c = on_ok_weaker c.replace_dialog.result (λ follows.
    followed (λ d token. after_refer_notify d token c.args.context.now.at c.args.participant.room c.args.participant.number 100)
    (λ d token. after_replacing d token c.args.context.now.at c.args.peer c.args.participant.room c.args.participant.number c.args.replaces.now)
    c.args.self.now c.send_refer_notify.new.self c.replace_dialog.new.self c.args.out.now c.send_refer_notify.new.out c.replace_dialog.new.out
    (λ d token w. replaces_grows c.numbers_never_fall.ensures d token c.args.context.now.at c.args.peer c.args.participant.room c.args.participant.number c.args.replaces.now w)
    c.in_ok-send_refer_notify.ensures.done follows)
    c.replace_dialog.ensures.done

pub returns-clause-err : goal.returns-clause-err
returns-clause-err g c = on_err_weaker c.replace_dialog.result (λ breaks.
    offer_prefix_added (λ d token. after_refer_notify d token c.args.context.now.at c.args.participant.room c.args.participant.number 100)
    (λ d token. after_replacing d token c.args.context.now.at c.args.peer c.args.participant.room c.args.participant.number c.args.replaces.now)
    c.args.self.now c.send_refer_notify.new.self c.args.out.now c.send_refer_notify.new.out c.replace_dialog.new.out
    (λ d token w. notices c.numbers_never_fall.ensures d token c.args.context.now.at c.args.participant.room c.args.participant.number 100 w)
    (λ d token w. replaces_grows c.numbers_never_fall.ensures d token c.args.context.now.at c.args.peer c.args.participant.room c.args.participant.number c.args.replaces.now w)
    c.in_ok-send_refer_notify.ensures.done breaks)
    c.replace_dialog.ensures.err

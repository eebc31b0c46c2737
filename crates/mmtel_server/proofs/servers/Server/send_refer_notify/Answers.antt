use Rattle.std.proofs.Common.{refl}
use Rattle.std.proofs.lemmas.Result.{on_err_weaker, on_ok_weaker}
use Rattle.mmtel_focus.specs.Operations.{Notifies}
use Rattle.mmtel_run_definitions.specs.Transitions.{after_refer_notify, tokens_now}
use Rattle.mmtel_server.proofs.Grows.{notices, on_err, stops}
use Rattle.mmtel_server.proofs.Participants.{housed_breaks, housed_follows}
use Rattle.mmtel_server.proofs.servers.Server.send_refer_notify.Goals as goal

pub returns-in_err-emits-clause-err : goal.returns-in_err-emits-clause-err
returns-in_err-emits-clause-err g c = on_err c.from_residual.result _
    (stops (λ d token. after_refer_notify d token c.args.context.now.at c.args.participant.room c.args.participant.number c.args.code) c.args.self.now c.args.out.now c.args.out.now
    (λ d token w. notices c.numbers_never_fall.ensures d token c.args.context.now.at c.args.participant.room c.args.participant.number c.args.code w) refl)

pub returns-clause-done : goal.returns-clause-done
returns-clause-done g c = on_ok_weaker c.emit_all-done.result (λ follows.
    housed_follows (λ d token w. Notifies c.args.participant.room.0 c.args.participant.number c.args.code (tokens_now token w)) c.args.self.now c.make_refer_notify.new.self c.in_ok-emits.emits
    c.items.result.now c.args.context.now.at c.args.out.now c.emit_all-done.new.out
    c.items.ensures c.in_ok-emits.ensures c.emit_all-done.new.self follows) c.emit_all-done.ensures.done

pub returns-clause-err : goal.returns-clause-err
returns-clause-err g c = on_err_weaker c.emit_all-done.result (λ breaks.
    housed_breaks (λ d token w. Notifies c.args.participant.room.0 c.args.participant.number c.args.code (tokens_now token w)) c.args.self.now c.make_refer_notify.new.self c.in_ok-emits.emits
    c.items.result.now c.args.context.now.at c.args.out.now c.emit_all-done.new.out
    c.items.ensures c.in_ok-emits.ensures breaks) c.emit_all-done.ensures.err

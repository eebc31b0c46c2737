use Rattle.std.proofs.Common.{refl}
use Rattle.std.proofs.lemmas.Result.{on_err_weaker, on_ok_weaker}
use Rattle.mmtel_run_definitions.specs.Transitions.{after_conference_signal, conference_signal_op}
use Rattle.mmtel_server.proofs.Grows.{on_err, seats, stops}
use Rattle.mmtel_server.proofs.Participants.{housed_breaks, housed_follows}
use Rattle.mmtel_server.proofs.servers.Server.signal_conferences.Goals as goal

pub returns-in_err-emits-clause-err : goal.returns-in_err-emits-clause-err
returns-in_err-emits-clause-err g c = on_err c.from_residual.result _
    (stops (λ d token. after_conference_signal d token c.args.context.now.at c.args.signal) c.args.self.now c.args.out.now c.args.out.now
    (λ d token w. seats c.numbers_never_fall.ensures d token c.args.context.now.at c.args.signal w) refl)

pub returns-clause-done : goal.returns-clause-done
returns-clause-done g c = on_ok_weaker c.emit_all-done.result (λ follows.
    housed_follows (λ d token w. conference_signal_op token c.args.context.now.at c.args.signal w) c.args.self.now c.step_conferences.new.self c.in_ok-emits.emits c.items.result.now
    c.args.context.now.at c.args.out.now c.emit_all-done.new.out
    c.items.ensures c.in_ok-emits.ensures c.emit_all-done.new.self follows) c.emit_all-done.ensures.done

pub returns-clause-err : goal.returns-clause-err
returns-clause-err g c = on_err_weaker c.emit_all-done.result (λ breaks.
    housed_breaks (λ d token w. conference_signal_op token c.args.context.now.at c.args.signal w) c.args.self.now c.step_conferences.new.self c.in_ok-emits.emits c.items.result.now
    c.args.context.now.at c.args.out.now c.emit_all-done.new.out
    c.items.ensures c.in_ok-emits.ensures breaks) c.emit_all-done.ensures.err

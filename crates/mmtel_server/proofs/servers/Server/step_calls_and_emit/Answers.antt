use Rattle.std.proofs.Common.{refl}
use Rattle.std.proofs.lemmas.Result.{on_err_weaker, on_ok_weaker}
use Rattle.mmtel_b2bua.specs.Operations.{Receives}
use Rattle.mmtel_run_definitions.specs.Transitions.{after_call_signal, received_now}
use Rattle.mmtel_server.proofs.Operations.{done_breaks, done_follows}
use Rattle.mmtel_server.proofs.Grows.{grows_on_signal, on_err, stops}
use Rattle.mmtel_server.proofs.servers.Server.step_calls_and_emit.Goals as goal
use Rattle.mmtel_server.specs.Follows.{after_call_operation, output_of_signal}

pub returns-in_err-emits-clause-err : goal.returns-in_err-emits-clause-err
returns-in_err-emits-clause-err g c =
    on_err c.from_residual.result _
    (stops (λ d token. after_call_signal d token c.args.context.now.at c.args.signal) c.args.self.now c.args.out.now c.args.out.now
    (λ d token w. grows_on_signal c.numbers_never_fall.ensures d token c.args.context.now.at c.args.signal w) refl)

pub returns-clause-done : goal.returns-clause-done
returns-clause-done g c =
    let at = c.args.context.now.at in
    let x = c.args.signal in
    on_ok_weaker c.emit_all-done.result
    (done_follows c.args.self.now c.step_calls.new.self (λ d token. output_of_signal d token at x) (λ d token w. after_call_operation (Receives (received_now token at x w)) (output_of_signal d token at x w) w)
    c.in_ok-emits.emits c.items.result.now at c.args.out.now c.emit_all-done.new.out c.in_ok-emits.ensures c.items.ensures c.emit_all-done.new.self)
    c.emit_all-done.ensures.done

pub returns-clause-err : goal.returns-clause-err
returns-clause-err g c =
    let at = c.args.context.now.at in
    let x = c.args.signal in
    on_err_weaker c.emit_all-done.result
    (done_breaks c.args.self.now c.step_calls.new.self (λ d token. output_of_signal d token at x) (λ d token w. after_call_operation (Receives (received_now token at x w)) (output_of_signal d token at x w) w)
    c.in_ok-emits.emits c.items.result.now at c.args.out.now c.emit_all-done.new.out c.in_ok-emits.ensures c.items.ensures)
    c.emit_all-done.ensures.err

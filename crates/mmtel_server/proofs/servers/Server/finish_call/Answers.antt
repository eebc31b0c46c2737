use Rattle.std.proofs.Common.{refl}
use Rattle.std.proofs.lemmas.Result.{on_err_weaker, on_ok_weaker}
use Rattle.mmtel_b2bua.specs.Operations.{Finishes}
use Rattle.mmtel_run_definitions.specs.Transitions.{after_call_end, tokens_now}
use Rattle.mmtel_server.proofs.Operations.{done_breaks, done_follows}
use Rattle.mmtel_server.proofs.Grows.{grows_on_call_end, on_err, stops}
use Rattle.mmtel_server.proofs.servers.Server.finish_call.Goals as goal
use Rattle.mmtel_server.specs.Follows.{after_call_operation, output_at_end}

pub returns-in_err-emits-clause-err : goal.returns-in_err-emits-clause-err
returns-in_err-emits-clause-err g c =
    on_err c.from_residual.result _
    (stops (λ d token. after_call_end d token c.args.context.now.at c.args.call) c.args.self.now c.args.out.now c.args.out.now
    (λ d token w. grows_on_call_end c.numbers_never_fall.ensures d token c.args.context.now.at c.args.call w) refl)

pub returns-clause-done : goal.returns-clause-done
returns-clause-done g c =
    let at = c.args.context.now.at in
    let call = c.args.call in
    on_ok_weaker c.emit_all-done.result
    (done_follows c.args.self.now c.end_call.new.self (λ d token. output_at_end d token at call) (λ d token w. after_call_operation (Finishes call.0 at (tokens_now token w)) (output_at_end d token at call w) w)
    c.in_ok-emits.emits c.items.result.now at c.args.out.now c.emit_all-done.new.out c.in_ok-emits.ensures c.items.ensures c.emit_all-done.new.self)
    c.emit_all-done.ensures.done

pub returns-clause-err : goal.returns-clause-err
returns-clause-err g c =
    let at = c.args.context.now.at in
    let call = c.args.call in
    on_err_weaker c.emit_all-done.result
    (done_breaks c.args.self.now c.end_call.new.self (λ d token. output_at_end d token at call) (λ d token w. after_call_operation (Finishes call.0 at (tokens_now token w)) (output_at_end d token at call w) w)
    c.in_ok-emits.emits c.items.result.now at c.args.out.now c.emit_all-done.new.out c.in_ok-emits.ensures c.items.ensures)
    c.emit_all-done.ensures.err

use Rattle.std.proofs.Common.{refl}
use Rattle.std.proofs.lemmas.Result.{on_err_weaker, on_ok_weaker}
use Rattle.mmtel_run_definitions.specs.Transitions.{after_transaction_timer}
use Rattle.mmtel_server.proofs.Timers.{breaks_fired, on_fired}
use Rattle.mmtel_server.proofs.Grows.{on_err, stops}
use Rattle.mmtel_server.proofs.Settling.{fires_in}
use Rattle.mmtel_server.proofs.servers.Server.fire_transaction_timer.Goals as goal

pub returns-in_err-due_action-clause-err : goal.returns-in_err-due_action-clause-err
returns-in_err-due_action-clause-err g c = on_err c.from_residual.result _
    (stops (λ d token. after_transaction_timer d token c.args.now) c.args.self.now c.args.out.now c.args.out.now (λ d token w. fires_in d token c.numbers_never_fall.ensures c.args.now w) refl)

pub returns-clause-done : goal.returns-clause-done
returns-clause-done g c = on_ok_weaker c.perform_due.result (λ rings.
    on_fired c.args.now c.args.self.now c.due.new.self c.in_ok-due_action.due_action c.in_ok-due_action.ensures.done c.args.out.now c.perform_due.new.out c.perform_due.new.self rings) c.perform_due.ensures.done

pub returns-clause-err : goal.returns-clause-err
returns-clause-err g c = on_err_weaker c.perform_due.result (λ rings.
    breaks_fired c.args.now c.args.self.now c.due.new.self c.in_ok-due_action.due_action c.in_ok-due_action.ensures.done c.args.out.now c.perform_due.new.out rings) c.perform_due.ensures.err

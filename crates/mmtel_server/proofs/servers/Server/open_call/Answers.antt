use Rattle.std.proofs.Common.{◌≡◌, false, ap, ◌∙◌, refl, sym, subst}
use Rattle.std.proofs.lemmas.Result.{on_err_weaker, on_ok_weaker}
use Rattle.mmtel_b2bua.specs.Tables.{is_full}
use Rattle.mmtel_b2bua.specs.declared.signals.Signal.{Signal}
use Rattle.mmtel_directory.specs.declared.directories.Directory.{Directory}
use Rattle.mmtel_run_definitions.specs.Calls.{arrival_signal}
use Rattle.mmtel_run_definitions.specs.Transitions.{after_call_signal}
use Rattle.mmtel_server.proofs.Owners.{breaks_so, follows_so}
use Rattle.mmtel_server.proofs.Grows.{grows_on_signal, on_err, stops}
use Rattle.mmtel_server.proofs.servers.Server.open_call.Goals as goal

pub step_calls_and_emit-requires : goal.step_calls_and_emit-requires
step_calls_and_emit-requires g c = subst (λ (x : Signal). is_full x c.args.self.now.calls.table.entries ≡ false) (sym c.in_ok-signal.ensures.signal) c.requires

pub returns-in_err-signal-clause-err : goal.returns-in_err-signal-clause-err
returns-in_err-signal-clause-err g c = on_err c.from_residual.result _
    (stops (λ d token. after_call_signal d token c.args.context.now.at (arrival_signal d.names.accounts c.args.key c.args.invite)) c.args.self.now c.args.out.now c.args.out.now
    (λ d token w. grows_on_signal c.numbers_never_fall.ensures d token c.args.context.now.at (arrival_signal d.names.accounts c.args.key c.args.invite) w) refl)

pub returns-clause-done : goal.returns-clause-done
returns-clause-done g c = on_ok_weaker c.step_calls_and_emit.result (λ follows.
    follows_so c.in_ok-signal.signal (λ d w. arrival_signal d.names.accounts c.args.key c.args.invite) (λ x d token. after_call_signal d token c.args.context.now.at x) c.args.self.now c.args.out.now
    (λ d token w have. c.in_ok-signal.ensures.signal ∙ ap (λ (x : Directory). arrival_signal x.names.accounts c.args.key c.args.invite) have.same_directory)
    c.step_calls_and_emit.new.self c.step_calls_and_emit.new.out follows)
    c.step_calls_and_emit.ensures.done

pub returns-clause-err : goal.returns-clause-err
returns-clause-err g c = on_err_weaker c.step_calls_and_emit.result (λ breaks.
    breaks_so c.in_ok-signal.signal (λ d w. arrival_signal d.names.accounts c.args.key c.args.invite) (λ x d token. after_call_signal d token c.args.context.now.at x) c.args.self.now c.args.out.now
    (λ d token w have. c.in_ok-signal.ensures.signal ∙ ap (λ (x : Directory). arrival_signal x.names.accounts c.args.key c.args.invite) have.same_directory)
    c.step_calls_and_emit.new.out breaks)
    c.step_calls_and_emit.ensures.err

-- requests in flight got their final responses if the step ends the attempt without a 2xx or ends the call, and then the transition is taken
use Rattle.std.proofs.Common.{◌≡◌, Bool, true, false, if◌then◌else◌, OnOk, refl, subst}
use Rattle.mmtel_output.specs.declared.outputs.StepOutput.{StepOutput}
use Rattle.mmtel_precedence.specs.Calls.{SnapshotView}
use Rattle.mmtel_call_services.specs.CallConfig.{CallConfigView, snapshot_of}
use Rattle.mmtel_call.specs.Calls.{Call}
use Rattle.mmtel_call.specs.Closing.{StepResult}
use Rattle.mmtel_call.specs.RelayedTransactions.{output_after_dismissal, without_in_flight}
use Rattle.mmtel_call.specs.Table.{leaves, step, transition}
use Rattle.mmtel_call.specs.declared.signals.Signal.{Signal}
use Rattle.mmtel_call.proofs.calls.Call.step.Goals as goal

by_leaving : (left : Bool) (config : CallConfigView) (now : SnapshotView) (s : Signal) (c : Call) (output : StepOutput) →
    transition config now s (if left then without_in_flight c else c) (if left then output_after_dismissal config c output else output)
    ≡ (if left then transition config now s (without_in_flight c) (output_after_dismissal config c output) else transition config now s c output)
by_leaving true config now s c output = refl
by_leaving false config now s c output = refl

pub returns-in-Ok-clause-call : goal.returns-in-Ok-clause-call
unfolding step
returns-in-Ok-clause-call c =
    subst (λ (s : StepResult). OnOk c.receive_signal.result (c.receive_signal.new.self ≡ s.call))
    (by_leaving (leaves c.args.signal c.args.self.now) c.args.config.now (snapshot_of c.args.snapshot.now) c.args.signal c.args.self.now c.args.output.now)
    (rw (c.new.ensures.setting, c.new.ensures.present, c.in-Ok.ensures.call, c.in-Ok.ensures.output) at c.receive_signal.ensures.call)

pub returns-in-Ok-clause-output : goal.returns-in-Ok-clause-output
unfolding step
returns-in-Ok-clause-output c =
    subst (λ (s : StepResult). OnOk c.receive_signal.result (c.receive_signal.new.output ≡ s.output))
    (by_leaving (leaves c.args.signal c.args.self.now) c.args.config.now (snapshot_of c.args.snapshot.now) c.args.signal c.args.self.now c.args.output.now)
    (rw (c.new.ensures.setting, c.new.ensures.present, c.in-Ok.ensures.call, c.in-Ok.ensures.output) at c.receive_signal.ensures.output)

use Rattle.std.proofs.Common.{◌≡◌, subst, sym}
use Rattle.std.specs.Prelude.{OnOk}
use Rattle.mmtel_compose.specs.ReceivedMessages.{status_of}
use Rattle.mmtel_call_services.specs.CallConfig.{snapshot_of}
use Rattle.mmtel_call.specs.Calls.{Offered}
use Rattle.mmtel_call.specs.Closing.{StepResult}
use Rattle.mmtel_call.proofs.AnyPhase.{response_alike}
use Rattle.mmtel_call.proofs.calls.Call.receive_response_offered.Goals as goal

pub returns-clause-call : goal.returns-clause-call
returns-clause-call c =
    subst (λ (s : StepResult). OnOk c.receive_response.result (c.receive_response.new.self ≡ s.call))
    (sym (response_alike c.args.step.now.config.now (snapshot_of c.args.step.now.snapshot) c.args.offered c.args.key c.args.message.now (status_of c.args.message.now.parsed.start)
    (Offered c.args.offered) c.args.self.now c.args.output.now))
    c.receive_response.ensures.call

pub returns-clause-output : goal.returns-clause-output
returns-clause-output c =
    subst (λ (s : StepResult). OnOk c.receive_response.result (c.receive_response.new.output ≡ s.output))
    (sym (response_alike c.args.step.now.config.now (snapshot_of c.args.step.now.snapshot) c.args.offered c.args.key c.args.message.now (status_of c.args.message.now.parsed.start)
    (Offered c.args.offered) c.args.self.now c.args.output.now))
    c.receive_response.ensures.output

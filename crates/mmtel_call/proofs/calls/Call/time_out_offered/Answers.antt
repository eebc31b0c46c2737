-- the phase before makes no difference
use Rattle.std.proofs.Common.{◌≡◌, OnOk, subst, sym}
use Rattle.mmtel_precedence.specs.Views.{attempt_end_view}
use Rattle.mmtel_call_services.specs.CallConfig.{snapshot_of}
use Rattle.mmtel_call.specs.Calls.{Offered}
use Rattle.mmtel_call.specs.Closing.{StepResult}
use Rattle.mmtel_call.proofs.AnyPhase.{attempt_timeout_alike}
use Rattle.mmtel_call.proofs.calls.Call.time_out_offered.Goals as goal

pub returns-clause-call : goal.returns-clause-call
returns-clause-call c =
    subst (λ (s : StepResult). OnOk c.time_out.result (c.time_out.new.self ≡ s.call))
    (sym (attempt_timeout_alike c.args.step.now.config.now (snapshot_of c.args.step.now.snapshot) c.args.offered (attempt_end_view c.args.end.now) (Offered c.args.offered) c.args.self.now c.args.output.now))
    c.time_out.ensures.call

pub returns-clause-output : goal.returns-clause-output
returns-clause-output c =
    subst (λ (s : StepResult). OnOk c.time_out.result (c.time_out.new.output ≡ s.output))
    (sym (attempt_timeout_alike c.args.step.now.config.now (snapshot_of c.args.step.now.snapshot) c.args.offered (attempt_end_view c.args.end.now) (Offered c.args.offered) c.args.self.now c.args.output.now))
    c.time_out.ensures.output

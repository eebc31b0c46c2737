-- the phase before makes no difference
use Rattle.std.proofs.Common.{◌≡◌, None, OnOk, subst, sym}
use Rattle.mmtel_precedence.specs.Views.{attempt_end_view}
use Rattle.mmtel_call_services.specs.CallConfig.{snapshot_of}
use Rattle.mmtel_call.specs.Calls.{Offered}
use Rattle.mmtel_call.specs.Closing.{StepResult}
use Rattle.mmtel_call.proofs.AnyPhase.{after_attempt_alike}
use Rattle.mmtel_call.proofs.calls.Call.go_on_offered.Goals as goal

pub returns-clause-call : goal.returns-clause-call
returns-clause-call c =
    subst (λ (s : StepResult). OnOk c.go_on_after.result (c.go_on_after.new.self ≡ s.call))
    (sym (after_attempt_alike c.args.step.now.config.now (snapshot_of c.args.step.now.snapshot) c.args.offered (attempt_end_view c.args.end.now) None (Offered c.args.offered) c.args.self.now c.args.output.now))
    c.go_on_after.ensures.call

pub returns-clause-output : goal.returns-clause-output
returns-clause-output c =
    subst (λ (s : StepResult). OnOk c.go_on_after.result (c.go_on_after.new.output ≡ s.output))
    (sym (after_attempt_alike c.args.step.now.config.now (snapshot_of c.args.step.now.snapshot) c.args.offered (attempt_end_view c.args.end.now) None (Offered c.args.offered) c.args.self.now c.args.output.now))
    c.go_on_after.ensures.output

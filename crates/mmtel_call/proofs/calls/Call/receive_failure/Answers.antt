-- the call continues with the target to which the response redirects, and the output after the response was acknowledged
use Rattle.std.proofs.Common.{◌≡◌, ◌∙◌, Option, Some, OnOk, ap, subst}
use Rattle.mmtel_output.specs.Sending.{with_final_ack}
use Rattle.mmtel_output.specs.declared.outputs.StepOutput.{StepOutput}
use Rattle.mmtel_lex.specs.declared.values.Uri.{Uri}
use Rattle.mmtel_precedence.specs.Attempts.{end_by_final}
use Rattle.mmtel_call_services.specs.Decisions.{redirect_of}
use Rattle.mmtel_call_services.specs.CallConfig.{snapshot_of}
use Rattle.mmtel_call.specs.Closing.{StepResult}
use Rattle.mmtel_call.specs.Diverting.{after_attempt}
use Rattle.mmtel_types.specs.declared.addrs.Addr.{Addr}
use Rattle.mmtel_call.proofs.calls.Call.receive_failure.Goals as goal

both : (f : Option Uri → StepOutput → StepResult) (a b : Option Uri) (d e : StepOutput) → a ≡ b → d ≡ e → f a d ≡ f b e
both f a b d e p q = ap (λ (x : Option Uri). f x d) p ∙ ap (λ (y : StepOutput). f b y) q

pub returns-in-Ok-redirect-clause-call : goal.returns-in-Ok-redirect-clause-call
returns-in-Ok-redirect-clause-call c =
    subst (λ (s : StepResult). OnOk c.go_on_redirected.result (c.go_on_redirected.new.self ≡ s.call))
    (both (λ x y. after_attempt c.args.step.now.config.now (snapshot_of c.args.step.now.snapshot) c.args.offered (end_by_final c.args.code x c.args.offered.attempt.rang) (Some c.args.message.now) c.args.self.now y)
    c.in-Ok-redirect.redirect (redirect_of c.args.message.now) c.acknowledge_final-acked.new.self
    (with_final_ack c.args.step.now.config.now.sip c.args.key c.args.offered.attempt.invite c.args.message.now.parsed c.args.output.now)
    c.in-Ok-redirect.ensures.uri (c.in-Ok.ensures.done ∙ ap (λ (a : Addr). with_final_ack a c.args.key c.args.offered.attempt.invite c.args.message.now.parsed c.args.output.now) c.sip.ensures))
    c.go_on_redirected.ensures.call

pub returns-in-Ok-redirect-clause-output : goal.returns-in-Ok-redirect-clause-output
returns-in-Ok-redirect-clause-output c =
    subst (λ (s : StepResult). OnOk c.go_on_redirected.result (c.go_on_redirected.new.output ≡ s.output))
    (both (λ x y. after_attempt c.args.step.now.config.now (snapshot_of c.args.step.now.snapshot) c.args.offered (end_by_final c.args.code x c.args.offered.attempt.rang) (Some c.args.message.now) c.args.self.now y)
    c.in-Ok-redirect.redirect (redirect_of c.args.message.now) c.acknowledge_final-acked.new.self
    (with_final_ack c.args.step.now.config.now.sip c.args.key c.args.offered.attempt.invite c.args.message.now.parsed c.args.output.now)
    c.in-Ok-redirect.ensures.uri (c.in-Ok.ensures.done ∙ ap (λ (a : Addr). with_final_ack a c.args.key c.args.offered.attempt.invite c.args.message.now.parsed c.args.output.now) c.sip.ensures))
    c.go_on_redirected.ensures.output

-- the call continues as it is after its INVITE was abandoned, with the output after that was cancelled
use Rattle.std.proofs.Common.{◌≡◌, ◌∙◌, None, Result, Ok, Err, OnErr, OnOk, ap, option_copied, subst}
use Rattle.mmtel_output.specs.SentInvites.{invite_after_cancel}
use Rattle.mmtel_output.specs.Sending.{with_due_cancel}
use Rattle.mmtel_output.specs.declared.outputs.StepOutput.{StepOutput}
use Rattle.mmtel_output.specs.declared.sent_invites.AbandonedInvite.{AbandonedInvite}
use Rattle.mmtel_precedence.specs.Views.{attempt_end_view}
use Rattle.mmtel_call_services.specs.Decisions.{decision_after}
use Rattle.mmtel_call_services.specs.CallConfig.{snapshot_of}
use Rattle.mmtel_call.specs.Calls.{Call}
use Rattle.mmtel_call.specs.Closing.{StepResult, with_past}
use Rattle.mmtel_call.specs.Diverting.{is_diverted, on_end}
use Rattle.mmtel_call.specs.Ringing.{abandoned_invite, with_abandoned}
use Rattle.mmtel_types.specs.declared.addrs.Addr.{Addr}
use Rattle.mmtel_call.proofs.calls.Call.leave_for_next.Goals as goal

both : (f : Call → StepOutput → StepResult) (a b : Call) (d e : StepOutput) → a ≡ b → d ≡ e → f a d ≡ f b e
both f a b d e p q = ap (λ (x : Call). f x d) p ∙ ap (λ (y : StepOutput). f b y) q

-- whether the INVITE could be kept or not, the phase of the call is unchanged
kept : {T E : Type 0} (r : Result T E) (l : AbandonedInvite) (a b : Call) → OnOk r (a ≡ with_abandoned l b) → OnErr r (a ≡ b) → a.phase ≡ b.phase
kept (Ok x) l a b done refused = ap (λ (c : Call). c.phase) done
kept (Err e) l a b done refused = ap (λ (c : Call). c.phase) refused

pub go_on_from-gone-requires : goal.go_on_from-gone-requires
go_on_from-gone-requires c =
    kept c.leave_attempt-abandoned.result (abandoned_invite (invite_after_cancel c.args.invite)) c.leave_attempt-abandoned.new.self c.args.self.now
    c.leave_attempt-abandoned.ensures.done c.leave_attempt-abandoned.ensures.refused
    ∙ c.requires

pub returns-clause-call : goal.returns-clause-call
returns-clause-call c =
    subst (λ (s : StepResult). OnOk c.go_on_from-gone.result (c.go_on_from-gone.new.self ≡ s.call))
    (both (λ x y. on_end c.args.step.now.config.now (snapshot_of c.args.step.now.snapshot) c.args.caller (option_copied c.args.service) None
    (decision_after x.opening c.args.step.now.snapshot.at (is_diverted x) (option_copied c.args.service) (attempt_end_view c.args.end.now)) (with_past c.args.callee.leg.meter x) y)
    c.leave_attempt-abandoned.new.self (with_abandoned (abandoned_invite (invite_after_cancel c.args.invite)) c.args.self.now) c.cancel-cancelled.new.self
    (with_due_cancel c.args.step.now.config.now.sip c.args.invite c.args.output.now)
    c.in_ok-abandoned.ensures.done (c.in_ok-cancelled.ensures.done ∙ ap (λ (a : Addr). with_due_cancel a c.args.invite c.args.output.now) c.sip.ensures))
    c.go_on_from-gone.ensures.call

pub returns-clause-output : goal.returns-clause-output
returns-clause-output c =
    subst (λ (s : StepResult). OnOk c.go_on_from-gone.result (c.go_on_from-gone.new.output ≡ s.output))
    (both (λ x y. on_end c.args.step.now.config.now (snapshot_of c.args.step.now.snapshot) c.args.caller (option_copied c.args.service) None
    (decision_after x.opening c.args.step.now.snapshot.at (is_diverted x) (option_copied c.args.service) (attempt_end_view c.args.end.now)) (with_past c.args.callee.leg.meter x) y)
    c.leave_attempt-abandoned.new.self (with_abandoned (abandoned_invite (invite_after_cancel c.args.invite)) c.args.self.now) c.cancel-cancelled.new.self
    (with_due_cancel c.args.step.now.config.now.sip c.args.invite c.args.output.now)
    c.in_ok-abandoned.ensures.done (c.in_ok-cancelled.ensures.done ∙ ap (λ (a : Addr). with_due_cancel a c.args.invite c.args.output.now) c.sip.ensures))
    c.go_on_from-gone.ensures.output

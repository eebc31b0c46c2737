-- The number of diversions that are left never rises.
use Rattle.std.proofs.Common.{◌≡◌, ℕ, zero, suc, ◌≤◌, refl, arith}
use Rattle.std.specs.Prelude.{Option, Some, None}
use Rattle.mmtel_output.specs.declared.outputs.StepOutput.{StepOutput}
use Rattle.mmtel_leg.specs.Legs.{Leg}
use Rattle.mmtel_precedence.specs.Calls.{SnapshotView}
use Rattle.mmtel_precedence.specs.Services.{DueDiversionView}
use Rattle.mmtel_precedence.specs.NextSteps.{NextStepView, StepDivert, StepOffer, StepRefuse}
use Rattle.mmtel_precedence.specs.Verdicts.{too_many}
use Rattle.mmtel_served_user.specs.declared.targets.Target.{Target}
use Rattle.mmtel_types.specs.declared.causes.Cause.{Cause}
use Rattle.mmtel_call_services.specs.Decisions.{decision_at, diversion_target, peer_for, service_at}
use Rattle.mmtel_call_services.specs.CallConfig.{CallConfigView}
use Rattle.mmtel_call_services.specs.declared.openings.Service.{Service}
use Rattle.mmtel_call.specs.Closing.{StepResult}
use Rattle.mmtel_call.specs.Diverting.{at_target, call_after_diversion, call_refusal, diversion_refusal, diversion_step}
use Rattle.mmtel_call.specs.Diverting.{diversion_unless_refused, divert, is_diverted, on_next_step, with_notification_of, with_unoffered_meter}
use Rattle.mmtel_call.specs.declared.calls.Call.{Call}

-- at most this many are left after the step
abbrev pub Leaves : ℕ → StepResult → Type 0
Leaves left s = s.call.diversions.remaining ≤ left

-- whatever the result of a diversion is that is due where this many are left
abbrev DivertLeaves : ℕ → CallConfigView → SnapshotView → Leg → Type 0
DivertLeaves left config now caller =
    (service : Option Service) (due : DueDiversionView) (c : Call) (output : StepOutput) → c.diversions.remaining ≡ left → Leaves left (divert left config now caller service due c output)

next-step-leaves : (left : ℕ) (config : CallConfigView) (now : SnapshotView) (caller : Leg) → DivertLeaves left config now caller →
    (service : Option Service) (cause : Option ℕ) (target : Target) (turn : NextStepView) (c : Call) (output : StepOutput) → c.diversions.remaining ≡ left →
    Leaves left (on_next_step (divert left config now caller) config now.at caller service cause target turn c output)
next-step-leaves left config now caller later service cause target (StepOffer peer waiting) c output e = omega arith
next-step-leaves left config now caller later service cause target (StepDivert due) c output e = later service due (with_unoffered_meter now.at service c) output e
next-step-leaves left config now caller later service cause target (StepRefuse why) c output e = omega arith

unless-leaves : (left : ℕ) (refusal : Option Cause) (onward : Call → StepOutput → StepResult) (config : CallConfigView) (at : ℕ) (caller : Leg) (c : Call) (output : StepOutput) → c.diversions.remaining ≤ left →
    Leaves left (onward c output) → Leaves left (diversion_unless_refused refusal onward config at caller c output)
unless-leaves left (Some why) onward config at caller c output e leaves = e
unless-leaves left None onward config at caller c output e leaves = leaves

pub target-leaves : (left : ℕ) (config : CallConfigView) (now : SnapshotView) (caller : Leg) → DivertLeaves left config now caller →
    (cause : Option ℕ) (target : Target) (c : Call) (output : StepOutput) → c.diversions.remaining ≡ left → Leaves left (at_target (divert left config now caller) config now caller cause target c output)
target-leaves left config now caller later cause target c output e =
    next-step-leaves left config now caller later (service_at config now c.opening cause target) cause target
    (decision_at config now c.opening (is_diverted c) cause target (service_at config now c.opening cause target) (peer_for config c.opening target)) c output e

pub divert-leaves : (left : ℕ) (config : CallConfigView) (now : SnapshotView) (caller : Leg) → DivertLeaves left config now caller
unfolding divert
divert-leaves zero config now caller service due c output e =
    unless-leaves 0 (diversion_refusal 0 config now.at service due c) (call_refusal config now.at caller (too_many due.cause)) config now.at caller c output (omega arith) (omega arith)
divert-leaves (suc left) config now caller service due c output e =
    let target = diversion_target config due in
    let next = call_after_diversion target now.at left service due c in
    let inner : Leaves left (at_target (divert left config now caller) config now caller (Some due.cause) target next (with_notification_of config due next output)) =
    target-leaves left config now caller (divert-leaves left config now caller) (Some due.cause) target next (with_notification_of config due next output) refl in
    let onward = diversion_step (at_target (divert left config now caller) config now caller (Some due.cause) target) config target now.at left service due in
    let below : c.diversions.remaining ≤ suc left = omega arith in
    unless-leaves (suc left) (diversion_refusal (suc left) config now.at service due c) onward config now.at caller c output below (omega arith)

-- The result of a diversion that is due: by the cause that refuses it, if there is one.
use Rattle.std.proofs.Common.{◌≡◌, ◌+◌, ◌-◌, ◌≤◌, ◌<◌, ℕ, zero, suc, Bool, true, false, ap, arith, sym, ◌∙◌}
use Rattle.std.proofs.lemmas.Bool.Decides.{nat_tests}
use Rattle.std.specs.Prelude.{if◌then◌else◌, min, nat_lt, Option, Some, None}
use Rattle.mmtel_output.specs.declared.outputs.StepOutput.{StepOutput}
use Rattle.mmtel_leg.specs.Legs.{Leg}
use Rattle.mmtel_lex.specs.declared.values.Uri.{Uri}
use Rattle.mmtel_precedence.specs.Calls.{SnapshotView}
use Rattle.mmtel_precedence.specs.Services.{DueDiversionView, bars_outgoing, bound_of}
use Rattle.mmtel_precedence.specs.Verdicts.{refusal_at_bound, refusal_before_diversion, too_many}
use Rattle.mmtel_sheet_values.specs.declared.values.Sheet.{Sheet}
use Rattle.mmtel_served_user.specs.Targets.{new_target}
use Rattle.mmtel_served_user.specs.declared.targets.Target.{Target}
use Rattle.mmtel_types.specs.declared.causes.Cause.{Cause}
use Rattle.mmtel_types.specs.declared.causes.Cause.TheVariants.{OutgoingBarred}
use Rattle.mmtel_call_services.specs.Decisions.{diversion_target, service_sheet, target_facts}
use Rattle.mmtel_call_services.specs.CallConfig.{CallConfigView}
use Rattle.mmtel_call_services.specs.declared.openings.Opening.{Opening}
use Rattle.mmtel_call.specs.Calls.{Call, Service}
use Rattle.mmtel_call.specs.Closing.{StepResult}
use Rattle.mmtel_call.specs.Diverting.{at_target, call_after_diversion, call_refusal, diversion_refusal, diversion_step, diversion_unless_refused, divert, with_notification_of}

-- ---- where none is left the bound refuses it

none-within : (count : ℕ) (own : Option ℕ) → nat_lt (count + 0) (bound_of (count + 0) own) ≡ false
none-within count None = grind (arith, nat_tests)
none-within count (Some own) = let least : min (count + 0) own ≤ count + 0 = omega arith in grind (arith, nat_tests, least)

bound-refuses : (count cause : ℕ) (own : Option ℕ) → refusal_at_bound count 0 (bound_of (count + 0) own) cause ≡ Some (too_many cause)
bound-refuses count cause own = ap (λ b. if b then None else Some (too_many cause)) (none-within count own)

none-left : (config : CallConfigView) (o : Opening) (at : ℕ) (uri : Uri) (sheet : Option Sheet) (count : ℕ) (due : DueDiversionView) →
    refusal_before_diversion (target_facts config o at uri) sheet count 0 (count + 0) due ≡ None → ⊥
none-left config o at uri None count due e = let same : Some (too_many due.cause) ≡ None = sym (bound-refuses count due.cause due.bound) ∙ e in cc
none-left config o at uri (Some sheet) count due e = go (bars_outgoing (target_facts config o at uri) sheet) e
  where
    go : (b : Bool) → (if b then Some OutgoingBarred else refusal_at_bound count 0 (bound_of (count + 0) due.bound) due.cause) ≡ None → ⊥
    go true same = cc
    go false same = let is : Some (too_many due.cause) ≡ None = sym (bound-refuses count due.cause due.bound) ∙ same in cc

-- where nothing refuses it, at least one more is left
pub one-left : (left : ℕ) (config : CallConfigView) (at : ℕ) (service : Option Service) (due : DueDiversionView) (c : Call) → diversion_refusal left config at service due c ≡ None → left ≡ suc (left - 1)
one-left zero config at service due c passed = absurd (none-left config c.opening at (new_target config.home due.forward.target) (service_sheet service) c.diversions.count due passed)
one-left (suc left) config at service due c passed = omega (arith)

pub some-left : (left : ℕ) (config : CallConfigView) (at : ℕ) (service : Option Service) (due : DueDiversionView) (c : Call) → diversion_refusal left config at service due c ≡ None → 0 < left
some-left left config at service due c passed = omega (arith, one-left left config at service due c passed)

-- ---- the result

-- it is made and the call reaches its target, where this many are left afterwards
abbrev step_by : (later : ℕ) → CallConfigView → SnapshotView → Leg → Option Service → DueDiversionView → Call → StepOutput → StepResult
step_by later config now caller service due =
    diversion_step (at_target (divert later config now caller) config now caller (Some due.cause) (diversion_target config due)) config (diversion_target config due) now.at later service due

-- this cause refuses it
pub divert-refused : (left : ℕ) (config : CallConfigView) (now : SnapshotView) (caller : Leg) (service : Option Service) (due : DueDiversionView) (c : Call) (output : StepOutput) (cause : Cause) →
    diversion_refusal left config now.at service due c ≡ Some cause → divert left config now caller service due c output ≡ call_refusal config now.at caller cause c output
unfolding divert
divert-refused zero config now caller service due c output cause is =
    ap (λ refusal. diversion_unless_refused refusal (call_refusal config now.at caller (too_many due.cause)) config now.at caller c output) is
divert-refused (suc left) config now caller service due c output cause is =
    ap (λ refusal. diversion_unless_refused refusal (step_by left config now caller service due) config now.at caller c output) is

-- it is made
divert-made : (left later : ℕ) (config : CallConfigView) (now : SnapshotView) (caller : Leg) (service : Option Service) (due : DueDiversionView) (c : Call) (output : StepOutput) →
    left ≡ suc later → diversion_refusal left config now.at service due c ≡ None → divert left config now caller service due c output ≡ step_by later config now caller service due c output
unfolding divert
divert-made left later config now caller service due c output some passed =
    ap (λ n. divert n config now caller service due c output) some
    ∙ ap (λ refusal. diversion_unless_refused refusal (step_by later config now caller service due) config now.at caller c output) (ap (λ n. diversion_refusal n config now.at service due c) (sym some) ∙ passed)

-- the call, as it is after the diversion was made, reaches its target
pub divert-step : (left : ℕ) (config : CallConfigView) (now : SnapshotView) (caller : Leg) (service : Option Service) (due : DueDiversionView) (c : Call) (output : StepOutput) (target : Target)
    (c2 : Call) (output2 : StepOutput) →
    diversion_refusal left config now.at service due c ≡ None → target ≡ diversion_target config due → c2 ≡ call_after_diversion target now.at (left - 1) service due c →
    output2 ≡ with_notification_of config due c2 output →
    at_target (divert c2.diversions.remaining config now caller) config now caller (Some due.cause) target c2 output2 ≡ divert left config now caller service due c output
divert-step left config now caller service due c output target c2 output2 passed its_target its_call its_output =
    ap (λ (y : StepOutput). at_target (divert c2.diversions.remaining config now caller) config now caller (Some due.cause) target c2 y) its_output
    ∙ ap (λ (x : Call). at_target (divert x.diversions.remaining config now caller) config now caller (Some due.cause) target x (with_notification_of config due x output)) its_call
    ∙ ap (λ (t : Target). diversion_step (at_target (divert (left - 1) config now caller) config now caller (Some due.cause) t) config t now.at (left - 1) service due c output) its_target
    ∙ sym (divert-made left (left - 1) config now caller service due c output (one-left left config now.at service due c passed) passed)

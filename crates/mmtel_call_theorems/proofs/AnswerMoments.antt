-- The moment of the answer.
use Rattle.std.proofs.Common.{◌≡◌, ℕ, zero, suc, Bool, true, false, List, [], ◌∷◌, ◌++◌, refl, ap, sym, ◌∙◌}
use Rattle.std.proofs.lemmas.List.{append-nil}
use Rattle.std.specs.Prelude.{Option, Some, None, if◌then◌else◌}
use Rattle.mmtel_compose.specs.ReceivedMessages.{MessageView, status_of}
use Rattle.mmtel_output.specs.declared.outputs.StepOutput.{StepOutput}
use Rattle.mmtel_leg.specs.Legs.{Leg}
use Rattle.mmtel_precedence.specs.Calls.{Answer, AttemptEndView, Cancel, Deflection, EndedAttempt, NoReply, NotReachable, Other, SnapshotView, Unacknowledged, UserBusy}
use Rattle.mmtel_precedence.specs.Services.{DueDiversionView}
use Rattle.mmtel_precedence.specs.NextSteps.{EndAnswered, EndDivert, EndRefuse, NextStepView, StepAfterAttemptView, StepDivert, StepOffer, StepRefuse}
use Rattle.mmtel_precedence.specs.Verdicts.{too_many}
use Rattle.mmtel_served_user.specs.declared.targets.Target.{Target}
use Rattle.mmtel_types.specs.declared.causes.Cause.{Cause}
use Rattle.mmtel_call_services.specs.Decisions.{decision_after, decision_at, diversion_target, is_status, peer_for, relayed_status, service_at}
use Rattle.mmtel_call_services.specs.Opening.{initial_target, opening_refusal}
use Rattle.mmtel_call_services.specs.CallConfig.{CallConfigView}
use Rattle.mmtel_call_services.specs.declared.openings.Service.{Service}
use Rattle.mmtel_call.specs.Closing.{StepResult, call_end, with_past}
use Rattle.mmtel_call.specs.Diverting.{after_attempt, at_target, call_after_diversion, call_refusal, diversion_refusal, diversion_step, diversion_unless_refused}
use Rattle.mmtel_call.specs.Diverting.{divert, is_diverted, on_end, on_next_step, relayed_refusal, with_notification_of, with_unoffered_meter}
use Rattle.mmtel_call.specs.Opening.{call_after_opening, caller_of, new_call, unless_refused}
use Rattle.mmtel_call.specs.Sending.{with_relay_to_caller, with_status_to_caller}
use Rattle.mmtel_call.specs.declared.calls.Call.{Call}
use Rattle.mmtel_call.specs.declared.calls.Phase.{Phase}
use Rattle.mmtel_call.specs.declared.calls.Phase.TheVariants.{Detached, Established, Offered, Over}
use Rattle.mmtel_call.specs.declared.calls.OfferedAttempt.{OfferedAttempt}
use Rattle.mmtel_call_theorems.specs.Endings.{answer_moment, answer_moment_of, end_in, ending_at, ending_by, endings_after, last_or}
use Rattle.mmtel_call_theorems.specs.CallTrace.{TraceStart, TraceStep, call_after, first_step, next_step, opening_in}
use Rattle.mmtel_call_theorems.proofs.Continuation as answering
use Rattle.mmtel_call_theorems.proofs.AttemptOutcomes as faring
use Rattle.mmtel_call_theorems.proofs.DiversionBoundSteps.{stays-detached}
use Rattle.mmtel_call_theorems.proofs.OutcomesOfSteps.{ends_by}

-- it was answered as before
abbrev Keeps : Option ℕ → StepResult → Type 0
Keeps answered s = s.call.answered ≡ answered

abbrev DivertKeeps : ℕ → CallConfigView → SnapshotView → Leg → Type 0
DivertKeeps left config now caller = (service : Option Service) (due : DueDiversionView) (c : Call) (output : StepOutput) → Keeps c.answered (divert left config now caller service due c output)

next-step-keeps : (left : ℕ) (config : CallConfigView) (now : SnapshotView) (caller : Leg) → DivertKeeps left config now caller →
    (service : Option Service) (cause : Option ℕ) (target : Target) (turn : NextStepView) (c : Call) (output : StepOutput) →
    Keeps c.answered (on_next_step (divert left config now caller) config now.at caller service cause target turn c output)
next-step-keeps left config now caller later service cause target (StepOffer peer waiting) c output = refl
next-step-keeps left config now caller later service cause target (StepDivert due) c output = later service due (with_unoffered_meter now.at service c) output
next-step-keeps left config now caller later service cause target (StepRefuse why) c output = refl

unless-keeps : (answered : Option ℕ) (refusal : Option Cause) (onward : Call → StepOutput → StepResult) (config : CallConfigView) (at : ℕ) (caller : Leg) (c : Call) (output : StepOutput) →
    c.answered ≡ answered → Keeps answered (onward c output) →
    Keeps answered (diversion_unless_refused refusal onward config at caller c output)
unless-keeps answered (Some why) onward config at caller c output e keeps = e
unless-keeps answered None onward config at caller c output e keeps = keeps

target-keeps : (left : ℕ) (config : CallConfigView) (now : SnapshotView) (caller : Leg) → DivertKeeps left config now caller → (cause : Option ℕ) (target : Target) (c : Call) (output : StepOutput) →
    Keeps c.answered (at_target (divert left config now caller) config now caller cause target c output)
target-keeps left config now caller later cause target c output =
    next-step-keeps left config now caller later (service_at config now c.opening cause target) cause target
    (decision_at config now c.opening (is_diverted c) cause target (service_at config now c.opening cause target) (peer_for config c.opening target)) c output

divert-keeps : (left : ℕ) (config : CallConfigView) (now : SnapshotView) (caller : Leg) → DivertKeeps left config now caller
unfolding divert
divert-keeps zero config now caller service due c output =
    unless-keeps c.answered (diversion_refusal 0 config now.at service due c) (call_refusal config now.at caller (too_many due.cause)) config now.at caller c output refl refl
divert-keeps (suc left) config now caller service due c output =
    let target = diversion_target config due in
    let next = call_after_diversion target now.at left service due c in
    let onward = diversion_step (at_target (divert left config now caller) config now caller (Some due.cause) target) config target now.at left service due in
    unless-keeps c.answered (diversion_refusal (suc left) config now.at service due c) onward config now.at caller c output refl
    (target-keeps left config now caller (divert-keeps left config now caller) (Some due.cause) target next (with_notification_of config due next output))

refused-keeps : (config : CallConfigView) (at : ℕ) (caller : Leg) (service : Option Service) (m : Option MessageView) (cause : Cause) (c : Call) (output : StepOutput) →
    Keeps c.answered (relayed_refusal config at caller service m cause c output)
refused-keeps config at caller service None cause c output = refl
refused-keeps config at caller service (Some m) cause c output = go (is_status (status_of m.parsed.start) (relayed_status cause))
  where
    go : (b : Bool) → Keeps c.answered (if b then call_end at cause caller.meter None c (with_relay_to_caller config c service m output) else call_refusal config at caller cause c output)
    go true = refl
    go false = refl

after-keeps : (config : CallConfigView) (now : SnapshotView) (caller : Leg) (service : Option Service) (m : Option MessageView) (after : StepAfterAttemptView) (c : Call) (output : StepOutput) →
    Keeps c.answered (on_end config now caller service m after c output)
after-keeps config now caller service m EndAnswered c output = refl
after-keeps config now caller service m (EndDivert due) c output = divert-keeps c.diversions.remaining config now caller service due c output
after-keeps config now caller service m (EndRefuse cause) c output = refused-keeps config now.at caller service m cause c output

on-keeps : (config : CallConfigView) (now : SnapshotView) (x : OfferedAttempt) (how : AttemptEndView) (m : Option MessageView) (c : Call) (output : StepOutput) →
    Keeps c.answered (after_attempt config now x how m c output)
on-keeps config now x how m c output = after-keeps config now x.caller x.attempt.service m (decision_after c.opening now.at (is_diverted c) x.attempt.service how) (with_past x.callee.leg.meter c) output

-- ---- one more ending

last-or-none : (one : Option ℕ) → last_or one None ≡ one
last-or-none None = refl
last-or-none (Some at) = refl

last-or-or : (one two three : Option ℕ) → last_or (last_or one two) three ≡ last_or one (last_or two three)
last-or-or None two three = refl
last-or-or (Some at) two three = refl

answer-more : (ends : List EndedAttempt) (e : EndedAttempt) → answer_moment (ends ++ e ∷ []) ≡ last_or (answer_moment_of e.how e.at) (answer_moment ends)
answer-more [] e = sym (last-or-none (answer_moment_of e.how e.at))
answer-more (x ∷ ends) e = ap (λ l. last_or l (answer_moment_of x.how x.at)) (answer-more ends e) ∙ last-or-or (answer_moment_of e.how e.at) (answer_moment ends) (answer_moment_of x.how x.at)

failed-answer : (how : AttemptEndView) (at : ℕ) → (how ≡ Answer → ⊥) → answer_moment_of how at ≡ None
failed-answer Answer at h = absurd (h refl)
failed-answer Cancel at h = refl
failed-answer Unacknowledged at h = refl
failed-answer (UserBusy code) at h = refl
failed-answer (NotReachable code) at h = refl
failed-answer NoReply at h = refl
failed-answer (Deflection target rang) at h = refl
failed-answer (Other code) at h = refl

-- a call that is abandoned has none
given-answer : (by_caller : Bool) (at : ℕ) → answer_moment_of (faring.given_how by_caller) at ≡ None
given-answer true at = refl
given-answer false at = refl

-- ---- one step: what was answered before, and what ends now

abbrev Adds : Option ℕ → List EndedAttempt → List EndedAttempt → StepResult → Type 0
Adds before ends now s = answer_moment ends ≡ before → s.call.answered ≡ answer_moment (ends ++ now)

adds-nothing : (c : Call) (ends now : List EndedAttempt) (s : StepResult) → now ≡ [] → s.call.answered ≡ c.answered → Adds c.answered ends now s
adds-nothing c ends now s none same told = same ∙ sym told ∙ ap answer_moment (sym (append-nil ends)) ∙ ap (λ l. answer_moment (ends ++ l)) (sym none)

attempt-step-adds :
    (P : Type 0) (config : CallConfigView) (now : SnapshotView) (x : OfferedAttempt) (c : Call) (before : StepOutput) (end : Option AttemptEndView) (s : StepResult) (ends : List EndedAttempt) →
    faring.AttemptStep P config now x c before end s → Adds c.answered ends (ends_by now.at end) s
attempt-step-adds P config now x c before end s ends (faring.Rings e y r) told = adds-nothing c ends (ends_by now.at end) s (ap (ends_by now.at) e) r.same.answered told
attempt-step-adds P config now x c before end s ends (faring.Answers e y stage r) told = r.answered ∙ sym (answer-more ends (ending_at now.at Answer)) ∙ ap (λ end. answer_moment (ends ++ ends_by now.at end)) (sym e)
attempt-step-adds P config now x c before end s ends (faring.GivesUp by_caller e y d output r) told =
    let how = faring.given_how by_caller in
    ap (λ (s : StepResult). s.call.answered) r.is ∙ r.same.answered ∙ sym told
    ∙ ap (λ one. last_or one (answer_moment ends)) (sym (given-answer by_caller now.at)) ∙ sym (answer-more ends (ending_at now.at how)) ∙ ap (λ end. answer_moment (ends ++ ends_by now.at end)) (sym e)
attempt-step-adds P config now x c before end s ends (faring.GoesOn how e m d output r) told =
    ap (λ (s : StepResult). s.call.answered) r.is ∙ on-keeps config now x how m d output ∙ r.same.answered ∙ sym told
    ∙ ap (λ one. last_or one (answer_moment ends)) (sym (failed-answer how now.at r.unanswered)) ∙ sym (answer-more ends (ending_at now.at how)) ∙ ap (λ end. answer_moment (ends ++ ends_by now.at end)) (sym e)

goes-keeps : (at : ℕ) (x : Rattle.mmtel_call.specs.declared.calls.EstablishedLegs.EstablishedLegs) (c : Call) (rows : List Rattle.mmtel_charging.specs.declared.rows.Row.Row) (s : StepResult) →
    answering.ContinuesOrEnds at x c rows s → s.call.answered ≡ c.answered
goes-keeps at x c rows s (answering.Continues y stage r) = r.same.answered
goes-keeps at x c rows s (answering.Ends y d output r) = ap (λ (s : StepResult). s.call.answered) r.is ∙ r.same.answered

in-phase-adds : (phase : Phase) (s : TraceStart) (x : TraceStep) (c : Call) (ends : List EndedAttempt) → Adds c.answered ends (ending_by x (record c { phase = phase })) (next_step s x (record c { phase = phase }))
in-phase-adds (Offered trial) s x c ends =
    attempt-step-adds (faring.IsOwn c x.signal) s.config x.now trial (faring.offered trial c) x.output (end_in (Offered trial) (faring.offered trial c) x.signal)
    (next_step s x (faring.offered trial c)) ends (faring.attempt-step s.config x.now trial x.signal c x.output)
in-phase-adds (Established pair stage) s x c ends =
    let new = next_step s x (record c { phase = Established pair stage }) in
    adds-nothing c ends [] new refl (goes-keeps x.now.at pair c x.output.rows new (answering.goes s.config x.now pair stage x.signal c x.output))
in-phase-adds (Detached detached) s x c ends = adds-nothing c ends [] (next_step s x (record c { phase = Detached detached })) refl (stays-detached s.config x.now detached x.signal c x.output).same.answered
in-phase-adds (Over cause) s x c ends = adds-nothing c ends [] (next_step s x (record c { phase = Over cause })) refl (answering.stays-over s.config x.now cause x.signal c x.output).same.answered

-- ---- every trace

begins-keeps : (refusal : Option Cause) (config : CallConfigView) (now : SnapshotView) (c : Call) (output : StepOutput) → Keeps c.answered (unless_refused refusal config now (caller_of now.at c) c output)
begins-keeps None config now c output = target-keeps c.diversions.remaining config now (caller_of now.at c) (divert-keeps c.diversions.remaining config now (caller_of now.at c)) None (initial_target c.opening) c output
begins-keeps (Some cause) config now c output = refl

opens-keeps : (s : TraceStart) → (first_step s).call.answered ≡ None
unfolding call_after_opening
opens-keeps s = begins-keeps (opening_refusal s.config s.now.at (opening_in s)) s.config s.now (new_call s.config (opening_in s))
    (with_status_to_caller s.config (new_call s.config (opening_in s)) 100 (Rattle.mmtel_output.specs.Outputs.after_draw s.output))

pub answer-observed : (s : TraceStart) (received : List TraceStep) → (call_after s received).answered ≡ answer_moment (endings_after s received)
unfolding call_after endings_after
answer-observed s [] = opens-keeps s
answer-observed s (x ∷ earlier) = in-phase-adds (call_after s earlier).phase s x (call_after s earlier) (endings_after s earlier) (sym (answer-observed s earlier))

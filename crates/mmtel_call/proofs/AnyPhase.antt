-- How a call continues does not depend on its phase before: that is overwritten, whatever the call continues with.
use Rattle.std.proofs.Common.{◌≡◌, ℕ, zero, suc, Bool, true, false, Option, Some, None, nat_lt, if◌then◌else◌, ◌&&◌, not, ap, refl}
use Rattle.mmtel_compose.specs.ReceivedMessages.{MessageView, status_of}
use Rattle.mmtel_output.specs.declared.outputs.StepOutput.{StepOutput}
use Rattle.mmtel_output.specs.Sending.{with_final_ack}
use Rattle.mmtel_leg.specs.Legs.{Leg}
use Rattle.mmtel_precedence.specs.Attempts.{end_by_final, rings}
use Rattle.mmtel_precedence.specs.Calls.{AttemptEndView, NotReachable, SnapshotView}
use Rattle.mmtel_precedence.specs.Services.{DueDiversionView}
use Rattle.mmtel_precedence.specs.NextSteps.{EndAnswered, EndDivert, EndRefuse, NextStepView, StepAfterAttemptView, StepDivert, StepOffer, StepRefuse}
use Rattle.mmtel_precedence.specs.Verdicts.{too_many}
use Rattle.mmtel_reliable.specs.Acks.{after_relay}
use Rattle.mmtel_served_user.specs.declared.targets.Target.{Target}
use Rattle.mmtel_transaction.specs.declared.words.TKey.{TKey}
use Rattle.mmtel_types.specs.declared.causes.Cause.{Cause}
use Rattle.mmtel_call_services.specs.Decisions.{decision_after, decision_at, diversion_target, is_status, no_reply_time_of, peer_for, redirect_of, relayed_status, service_at, service_sheet}
use Rattle.mmtel_call_services.specs.Reliable.{reliable_number}
use Rattle.mmtel_call_services.specs.CallConfig.{CallConfigView}
use Rattle.mmtel_call.specs.Calls.{Attempt, Call, Offered, OfferedAttempt, Phase, Service}
use Rattle.mmtel_call.specs.Closing.{StepResult, call_end, step_result, with_past}
use Rattle.mmtel_call.specs.Diverting.{after_attempt, at_target, call_after_diversion, call_refusal, diversion_refusal, diversion_step}
use Rattle.mmtel_call.specs.Diverting.{diversion_unless_refused, divert, is_diverted, on_end, on_next_step, with_notification_of, with_unoffered_meter}
use Rattle.mmtel_call.specs.Reliable.{own_rseq_for, with_prack_timer, with_reliable_response}
use Rattle.mmtel_call.specs.Ringing.{attempt_after_provisional, call_without_attempt, on_answer, on_attempt_timeout, on_failure, on_numbered_provisional}
use Rattle.mmtel_call.specs.Ringing.{on_plain_provisional, on_provisional, on_provisional_by, on_response, on_timeout, on_trying, with_attempt_cancel, with_no_reply_timer_in}
use Rattle.mmtel_call.specs.Sending.{with_relay_to_caller}

-- ---- definitions

-- the final response that was received, or one of the server's own
abbrev refused_if : Bool → CallConfigView → (at : ℕ) → Leg → Option Service → MessageView → Cause → Call → StepOutput → StepResult
refused_if same config at caller service m cause c output =
    if same then call_end at cause caller.meter None c (with_relay_to_caller config c service m output) else call_refusal config at caller cause c output

-- a response, by its kind
abbrev on_response_if : (trying provisional success : Bool) → CallConfigView → SnapshotView → OfferedAttempt → TKey → MessageView → ℕ → Call → StepOutput → StepResult
on_response_if trying provisional success config now x key m code c output =
    if trying then on_trying key x c output
    else if provisional then on_provisional config now.at x key m code c output
    else if success then on_answer config now.at x key m c output
    else on_failure config now x key m code c output

-- what is done with a call does not depend on its phase
abbrev IsAlike : (Call → StepOutput → StepResult) → Phase → Call → StepOutput → Type 0
IsAlike f p c output = f (record c { phase = p }) output ≡ f c output

-- ---- at a target

next_step_alike : (on : Option Service → DueDiversionView → Call → StepOutput → StepResult) (p : Phase) (output : StepOutput) →
    ((service : Option Service) (due : DueDiversionView) (c : Call) → IsAlike (on service due) p c output) →
    (config : CallConfigView) (at : ℕ) (caller : Leg) (service : Option Service) (cause : Option ℕ) (target : Target) (turn : NextStepView) (c : Call) →
    IsAlike (on_next_step on config at caller service cause target turn) p c output
next_step_alike on p output alike config at caller service cause target (StepOffer peer waiting) c = refl
next_step_alike on p output alike config at caller service cause target (StepDivert due) c = alike service due (with_unoffered_meter at service c)
next_step_alike on p output alike config at caller service cause target (StepRefuse why) c = refl

target_alike : (on : Option Service → DueDiversionView → Call → StepOutput → StepResult) (p : Phase) (output : StepOutput) →
    ((service : Option Service) (due : DueDiversionView) (c : Call) → IsAlike (on service due) p c output) →
    (config : CallConfigView) (now : SnapshotView) (caller : Leg) (cause : Option ℕ) (target : Target) (c : Call) → IsAlike (at_target on config now caller cause target) p c output
target_alike on p output alike config now caller cause target c =
    next_step_alike on p output alike config now.at caller (service_at config now c.opening cause target) cause target
    (decision_at config now c.opening (is_diverted c) cause target (service_at config now c.opening cause target) (peer_for config c.opening target)) c

unless_alike : (refusal : Option Cause) (going : Call → StepOutput → StepResult) (config : CallConfigView) (at : ℕ) (caller : Leg) (p : Phase) (c : Call) (output : StepOutput) →
    IsAlike going p c output → IsAlike (diversion_unless_refused refusal going config at caller) p c output
unless_alike (Some cause) going config at caller p c output alike = refl
unless_alike None going config at caller p c output alike = alike

divert_alike : (left : ℕ) (config : CallConfigView) (now : SnapshotView) (caller : Leg) (service : Option Service) (due : DueDiversionView) (p : Phase) (c : Call) (output : StepOutput) →
    IsAlike (divert left config now caller service due) p c output
unfolding divert
divert_alike zero config now caller service due p c output =
    unless_alike (diversion_refusal 0 config now.at service due c) (call_refusal config now.at caller (too_many due.cause)) config now.at caller p c output refl
divert_alike (suc left) config now caller service due p c output =
    let target : Target = diversion_target config due in
    let going : Call → StepOutput → StepResult = diversion_step (at_target (divert left config now caller) config now caller (Some due.cause) target) config target now.at left service due in
    unless_alike (diversion_refusal (suc left) config now.at service due c) going config now.at caller p c output
    (target_alike (divert left config now caller) p (with_notification_of config due (call_after_diversion target now.at left service due c) output)
    (λ s d e. divert_alike left config now caller s d p e (with_notification_of config due (call_after_diversion target now.at left service due c) output))
    config now caller (Some due.cause) target (call_after_diversion target now.at left service due c))

-- ---- after an attempt

refused_alike : (same : Bool) (config : CallConfigView) (at : ℕ) (caller : Leg) (service : Option Service) (m : MessageView) (cause : Cause) (p : Phase) (c : Call) (output : StepOutput) →
    IsAlike (refused_if same config at caller service m cause) p c output
refused_alike true config at caller service m cause p c output = refl
refused_alike false config at caller service m cause p c output = refl

end_alike : (how : StepAfterAttemptView) (config : CallConfigView) (now : SnapshotView) (caller : Leg) (service : Option Service) (m : Option MessageView) (p : Phase) (c : Call) (output : StepOutput) →
    IsAlike (on_end config now caller service m how) p c output
end_alike EndAnswered config now caller service m p c output = refl
end_alike (EndDivert due) config now caller service m p c output = divert_alike c.diversions.remaining config now caller service due p c output
end_alike (EndRefuse cause) config now caller service None p c output = refl
end_alike (EndRefuse cause) config now caller service (Some m) p c output = refused_alike (is_status (status_of m.parsed.start) (relayed_status cause)) config now.at caller service m cause p c output

-- an attempt ended in this way
pub after_attempt_alike : (config : CallConfigView) (now : SnapshotView) (x : OfferedAttempt) (how : AttemptEndView) (m : Option MessageView) (p : Phase) (c : Call) (output : StepOutput) →
    after_attempt config now x how m (record c { phase = p }) output ≡ after_attempt config now x how m c output
after_attempt_alike config now x how m p c output =
    end_alike (decision_after c.opening now.at (is_diverted c) x.attempt.service how) config now x.caller x.attempt.service m p (with_past x.callee.leg.meter c) output

pub attempt_timeout_alike : (config : CallConfigView) (now : SnapshotView) (x : OfferedAttempt) (how : AttemptEndView) (p : Phase) (c : Call) (output : StepOutput) →
    on_attempt_timeout config now x how (record c { phase = p }) output ≡ on_attempt_timeout config now x how c output
attempt_timeout_alike config now x how p c output = after_attempt_alike config now x how None p (call_without_attempt x c) (with_attempt_cancel config x output)

timeout_if_alike : (rang : Bool) (config : CallConfigView) (now : SnapshotView) (x : OfferedAttempt) (p : Phase) (c : Call) (output : StepOutput) → rang ≡ false →
    (if rang then step_result (record c { phase = p }) output else after_attempt config now x (NotReachable 408) None (record c { phase = p }) output)
    ≡ after_attempt config now x (NotReachable 408) None c output
timeout_if_alike true config now x p c output rang = absurd (cc)
timeout_if_alike false config now x p c output rang = after_attempt_alike config now x (NotReachable 408) None p c output

-- the timeout of a target that did not ring
pub timeout_alike : (config : CallConfigView) (now : SnapshotView) (x : OfferedAttempt) (p : Phase) (c : Call) (output : StepOutput) → x.attempt.rang ≡ false →
    on_timeout config now x (record c { phase = p }) output ≡ after_attempt config now x (NotReachable 408) None c output
timeout_alike config now x p c output rang = timeout_if_alike x.attempt.rang config now x p c output rang

timer_alike : (due : Bool) (time : Option ℕ) (at : ℕ) (attempt : Attempt) (p : Phase) (c : Call) (output : StepOutput) →
    (if due then with_no_reply_timer_in time at attempt (record c { phase = p }) output else output) ≡ (if due then with_no_reply_timer_in time at attempt c output else output)
timer_alike true None at attempt p c output = refl
timer_alike true (Some time) at attempt p c output = refl
timer_alike false time at attempt p c output = refl

plainly_alike : (config : CallConfigView) (at : ℕ) (x : OfferedAttempt) (key : TKey) (m : MessageView) (code : ℕ) (p : Phase) (c : Call) (output : StepOutput) →
    IsAlike (on_plain_provisional config at x key m code) p c output
plainly_alike config at x key m code p c output =
    ap (step_result (record c { phase = Offered (attempt_after_provisional x key m code) }))
    (timer_alike (rings code && not x.attempt.rang) (no_reply_time_of (service_sheet x.attempt.service)) at x.attempt p c (with_relay_to_caller config c x.attempt.service m output))

numbered_alike : (own : Option ℕ) (rseq : ℕ) (config : CallConfigView) (at : ℕ) (x : OfferedAttempt) (key : TKey) (m : MessageView) (code : ℕ) (p : Phase) (c : Call) (output : StepOutput) →
    IsAlike (on_numbered_provisional own rseq config at x key m code) p c output
numbered_alike None rseq config at x key m code p c output = refl
numbered_alike (Some own) rseq config at x key m code p c output =
    ap (λ (d : StepOutput). step_result (record c { acks = after_relay rseq c.acks; phase = Offered (attempt_after_provisional x key m code) }) (with_prack_timer own at c d))
    (timer_alike (rings code && not x.attempt.rang) (no_reply_time_of (service_sheet x.attempt.service)) at x.attempt p c (with_reliable_response config c x.attempt.service own m output))

by_number_alike : (number : Option ℕ) (config : CallConfigView) (at : ℕ) (x : OfferedAttempt) (key : TKey) (m : MessageView) (code : ℕ) (p : Phase) (c : Call) (output : StepOutput) →
    IsAlike (on_provisional_by number config at x key m code) p c output
by_number_alike None config at x key m code p c output = plainly_alike config at x key m code p c output
by_number_alike (Some rseq) config at x key m code p c output = numbered_alike (own_rseq_for rseq x m c) rseq config at x key m code p c output

provisional_alike : (config : CallConfigView) (at : ℕ) (x : OfferedAttempt) (key : TKey) (m : MessageView) (code : ℕ) (p : Phase) (c : Call) (output : StepOutput) →
    IsAlike (on_provisional config at x key m code) p c output
provisional_alike config at x key m code p c output = by_number_alike (reliable_number config c.opening m) config at x key m code p c output

responses_alike :
    (trying provisional success : Bool) (config : CallConfigView) (now : SnapshotView) (x : OfferedAttempt) (key : TKey) (m : MessageView) (code : ℕ) (p : Phase) (c : Call) (output : StepOutput) →
    IsAlike (on_response_if trying provisional success config now x key m code) p c output
responses_alike true provisional success config now x key m code p c output = refl
responses_alike false true success config now x key m code p c output = provisional_alike config now.at x key m code p c output
responses_alike false false true config now x key m code p c output = refl
responses_alike false false false config now x key m code p c output =
    after_attempt_alike config now x (end_by_final code (redirect_of m) x.attempt.rang) (Some m) p c (with_final_ack config.sip key x.attempt.invite m.parsed output)

-- any response
pub response_alike : (config : CallConfigView) (now : SnapshotView) (x : OfferedAttempt) (key : TKey) (m : MessageView) (code : ℕ) (p : Phase) (c : Call) (output : StepOutput) →
    on_response config now x key m code (record c { phase = p }) output ≡ on_response config now x key m code c output
response_alike config now x key m code p c output = responses_alike (nat_lt code 101) (nat_lt code 200) (nat_lt code 300) config now x key m code p c output

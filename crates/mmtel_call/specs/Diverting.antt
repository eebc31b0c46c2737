-- How a call continues: it reaches one target after another until it is offered to one, or refused (TS 24.604 §4.5.2.6, RFC 7044 §7).
use Rattle.std.specs.Prelude.{ℕ, zero, suc, nat_lt, Bool, List, if◌then◌else◌, Option, Some, None}
use Rattle.mmtel_compose.specs.ReceivedMessages.{MessageView, status_of as status_in}
use Rattle.mmtel_charging.specs.declared.rows.Kind.TheVariants.{Diversion, Terminating}
use Rattle.mmtel_output.specs.declared.outputs.StepOutput.{StepOutput}
use Rattle.mmtel_leg.specs.Dialogues.{request_uri}
use Rattle.mmtel_leg.specs.Legs.{Leg}
use Rattle.mmtel_lex.specs.Grammar.{uri_text}
use Rattle.mmtel_precedence.specs.Calls.{AttemptEndView, SnapshotView}
use Rattle.mmtel_precedence.specs.Services.{DueDiversionView}
use Rattle.mmtel_precedence.specs.NextSteps.{EndAnswered, EndDivert, EndRefuse, NextStepView, StepAfterAttemptView, StepDivert, StepOffer, StepRefuse}
use Rattle.mmtel_precedence.specs.Verdicts.{too_many}
use Rattle.mmtel_served_user.specs.declared.targets.Target.{Target}
use Rattle.mmtel_types.specs.Causes.{status_of}
use Rattle.mmtel_types.specs.declared.causes.Cause.{Cause}
use Rattle.mmtel_types.specs.declared.causes.Cause.TheVariants as causes
use Rattle.mmtel_types.specs.declared.numbers.Peer.{Peer}
use Rattle.mmtel_call_services.specs.Decisions.{decision_after, decision_at, destination_of, diversion_target}
use Rattle.mmtel_call_services.specs.Decisions.{is_status, peer_for, refusal_of_diversion, relayed_status, service_at}
use Rattle.mmtel_call_services.specs.Diversions.{after_diversion}
use Rattle.mmtel_call_services.specs.CallConfig.{CallConfigView}
use Rattle.mmtel_call.specs.Calls.{Call, DiversionsView, OfferedAttempt, Service}
use Rattle.mmtel_call.specs.Closing.{StepResult, call_end, meter_for, with_past}
use Rattle.mmtel_call.specs.AttemptStarts.{attempt_start}
use Rattle.mmtel_call.specs.Sending.{with_diversion_notification, with_relay_to_caller, with_status_to_caller}

-- ---- the final response to the caller

-- a final response of the server's own
abbrev pub call_refusal : CallConfigView → (at : ℕ) → Leg → Cause → Call → StepOutput → StepResult
call_refusal config at caller cause c output = call_end at cause caller.meter None c (with_status_to_caller config c (status_of cause) output)

-- the final response that was received, if the cause relays it, otherwise one of the server's own
abbrev pub relayed_refusal : CallConfigView → (at : ℕ) → Leg → Option Service → Option MessageView → Cause → Call → StepOutput → StepResult
relayed_refusal config at caller service None cause c output = call_refusal config at caller cause c output
relayed_refusal config at caller service (Some m) cause c output =
    if is_status (status_in m.parsed.start) (relayed_status cause) then call_end at cause caller.meter None c (with_relay_to_caller config c service m output)
    else call_refusal config at caller cause c output

-- ---- a diversion

-- the diversions of the call after one more, to this URI, after which this many are left
abbrev pub diversions_after : (uri : List ℕ) → (left : ℕ) → DueDiversionView → Call → DiversionsView
diversions_after uri left due c = after_diversion (request_uri c.opening.invite.parsed.start) uri left due c.diversions

-- the call after a diversion by the served account
abbrev pub call_after_diversion : Target → (at left : ℕ) → Option Service → DueDiversionView → Call → Call
call_after_diversion target at left service due c = with_past (meter_for Diversion c at service) (record c { diversions = diversions_after (uri_text target.uri) left due c })

-- the caller is notified of it, if the forward requires that
abbrev pub with_notification_of : CallConfigView → DueDiversionView → Call → StepOutput → StepOutput
with_notification_of config due c output = if due.forward.notify_caller then with_diversion_notification config c output else output

-- the cause that refuses it, if any, where the configured bound leaves this many
abbrev pub diversion_refusal : (left : ℕ) → CallConfigView → (at : ℕ) → Option Service → DueDiversionView → Call → Option Cause
diversion_refusal left config at service due c = refusal_of_diversion config c.opening at c.diversions.count left service due

-- it is made, unless a cause refuses it
abbrev pub diversion_unless_refused : Option Cause → (made : Call → StepOutput → StepResult) → CallConfigView → (at : ℕ) → Leg → Call → StepOutput → StepResult
diversion_unless_refused None made config at caller c output = made c output
diversion_unless_refused (Some cause) made config at caller c output = call_refusal config at caller cause c output

-- ---- at a target

-- the call was diverted before: elsewhere before it came here, or by this server
abbrev pub is_diverted : Call → Bool
is_diverted c = nat_lt 0 c.diversions.count

-- the meter of an account that the call reached without being offered to it
abbrev pub with_unoffered_meter : (at : ℕ) → Option Service → Call → Call
with_unoffered_meter at service c = with_past (meter_for Terminating c at service) c

-- by what was decided; `divert` is what a diversion leads to
abbrev pub on_next_step : (divert : Option Service → DueDiversionView → Call → StepOutput → StepResult) → CallConfigView → (at : ℕ) → Leg →
    Option Service → (cause : Option ℕ) → Target → NextStepView →
    Call → StepOutput → StepResult
on_next_step divert config at caller service cause target (StepOffer peer waiting) c output =
    attempt_start config at caller service waiting (destination_of c.opening peer cause target) c output
on_next_step divert config at caller service cause target (StepDivert due) c output = divert service due (with_unoffered_meter at service c) output
on_next_step divert config at caller service cause target (StepRefuse why) c output = call_refusal config at caller why (with_unoffered_meter at service c) output

-- where this account is served there, and this peer is the next hop
abbrev pub at_served_target : (divert : Option Service → DueDiversionView → Call → StepOutput → StepResult) → CallConfigView →
    SnapshotView → Leg → Option Service → Option Peer → (cause : Option ℕ) →
    Target → Call → StepOutput → StepResult
at_served_target divert config now caller service peer cause target c output =
    on_next_step divert config now.at caller service cause target (decision_at config now c.opening (is_diverted c) cause target service peer) c output

abbrev pub at_target : (divert : Option Service → DueDiversionView → Call → StepOutput → StepResult) → CallConfigView → SnapshotView → Leg →
    (cause : Option ℕ) → Target → Call → StepOutput → StepResult
at_target divert config now caller cause target c output =
    at_served_target divert config now caller (service_at config now c.opening cause target) (peer_for config c.opening target) cause target c output

-- a diversion is made, after which this many are left, and the caller is notified of it; `onward` is what is done at the new target
abbrev pub diversion_step : (onward : Call → StepOutput → StepResult) → CallConfigView → Target → (at left : ℕ) → Option Service → DueDiversionView → Call → StepOutput → StepResult
diversion_step onward config target at left service due c output = onward (call_after_diversion target at left service due c)
    (with_notification_of config due (call_after_diversion target at left service due c) output)

-- a diversion that is due, where the configured bound leaves this many: it is made, unless a cause refuses it, and the call reaches the next target; where none is left, the bound
-- refuses it
unfoldable pub divert : (left : ℕ) → CallConfigView → SnapshotView → Leg → Option Service → DueDiversionView → Call → StepOutput → StepResult
divert zero config now caller service due c output =
    diversion_unless_refused (diversion_refusal 0 config now.at service due c) (call_refusal config now.at caller (too_many due.cause)) config now.at caller c output
divert (suc left) config now caller service due c output =
    diversion_unless_refused (diversion_refusal (suc left) config now.at service due c)
    (diversion_step (at_target (divert left config now caller) config now caller (Some due.cause) (diversion_target config due)) config
    (diversion_target config due) now.at left service due)
    config now.at caller c output

-- the call reaches a target
abbrev pub reach : CallConfigView → SnapshotView → Leg → (cause : Option ℕ) → Target → Call → StepOutput → StepResult
reach config now caller cause target c output = at_target (divert c.diversions.remaining config now caller) config now caller cause target c output

-- ---- after an attempt

-- by what was decided; a final response that was received may be relayed; after an answer there is no further target
abbrev pub on_end : CallConfigView → SnapshotView → Leg → Option Service → Option MessageView → StepAfterAttemptView → Call → StepOutput → StepResult
on_end config now caller service m EndAnswered c output = call_end now.at causes.Ended caller.meter None c output
on_end config now caller service m (EndDivert due) c output = divert c.diversions.remaining config now caller service due c output
on_end config now caller service m (EndRefuse cause) c output = relayed_refusal config now.at caller service m cause c output

-- the attempt ended in this way, and its meter is added to the past ones
abbrev pub after_attempt : CallConfigView → SnapshotView → OfferedAttempt → AttemptEndView → Option MessageView → Call → StepOutput → StepResult
after_attempt config now x how m c output =
    on_end config now x.caller x.attempt.service m (decision_after c.opening now.at (is_diverted c) x.attempt.service how) (with_past x.callee.leg.meter c) output

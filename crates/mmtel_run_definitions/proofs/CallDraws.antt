-- The output of calls has tokens of the same text, and the count of drawn numbers never decreases.
use Rattle.std.proofs.Common.{◌≡◌, ℕ, zero, suc, ◌≤◌, ◌<◌, ◌^◌, List, [], ◌∷◌, refl, ◌∙◌, Bool, true, false, Option, Some, None, Result, Ok, Err, arith, codes}
use Rattle.std.specs.Prelude.{◌==◌, ◌&&◌, filter, nat_lt, not, position, slice_get, if◌then◌else◌}
use Rattle.mmtel_compose.specs.ReceivedMessages.{MessageView, status_of}
use Rattle.mmtel_b2bua.specs.Entries.{busy_beside, has_received_key, has_sent_branch, is_numbered}
use Rattle.mmtel_b2bua.specs.Operations.{table_after}
use Rattle.mmtel_b2bua.specs.Detaching.{finish_step, place_of, step_of_finish, step_of_finish_at, step_of_finish_in}
use Rattle.mmtel_b2bua.specs.Tables.{busy_with, call_step, invites_by, opening_step, snapshot_at, step_in, step_of_entry_at, step_of_receiver, step_of_signal}
use Rattle.mmtel_b2bua.specs.declared.entries.Entry.{Entry}
use Rattle.mmtel_b2bua.specs.declared.entries.InviteKey.{InviteKey}
use Rattle.mmtel_b2bua.specs.declared.signals.Signal as table
use Rattle.mmtel_b2bua.specs.declared.signals.Signal.TheVariants as of_table
use Rattle.mmtel_call_services.specs.Decisions.{decision_after, decision_at, diversion_target, is_status, no_reply_time_of, peer_for, relayed_status, service_at, service_sheet}
use Rattle.mmtel_output.specs.ResponseMatching.{awaited_request_branch, timed_out_branch}
use Rattle.mmtel_call_services.specs.Opening.{initial_target, opening_of, opening_refusal}
use Rattle.mmtel_call_services.specs.Reliable.{reliable_number}
use Rattle.mmtel_call_services.specs.Requests.{is_same_side}
use Rattle.mmtel_call_services.specs.CallConfig.{CallConfigView}
use Rattle.mmtel_call_services.specs.declared.openings.Arrival.{Arrival}
use Rattle.mmtel_call_services.specs.declared.openings.Service.{Service}
use Rattle.mmtel_call.specs.Answered.{acknowledges, after_ack_across, after_departure}
use Rattle.mmtel_call.specs.Closing.{StepResult, call_end, step_result, with_past}
use Rattle.mmtel_call.specs.Diverting.{after_attempt, at_target, call_after_diversion, call_refusal, diversion_refusal, diversion_step, diversion_unless_refused}
use Rattle.mmtel_call.specs.Diverting.{divert, is_diverted, on_end, on_next_step, relayed_refusal, with_notification_of, with_unoffered_meter}
use Rattle.mmtel_call.specs.RelayedTransactions.{on_accepted_in_flight as agreed_in_flight, on_response_in_flight, on_response_relayed}
use Rattle.mmtel_call.specs.RelayedTransactions.{output_after_dismissal, with_all_dismissals, with_dismissal, with_dismissals, without_in_flight}
use Rattle.mmtel_call.specs.RelayedTransactions.{is_in_flight, is_updating, on_final_relayed, on_timeout_in_flight, on_timeout_relayed}
use Rattle.mmtel_call.specs.RelayedTransactions.{updating_side, with_response_back, with_settled, with_settled_in, without_transaction}
use Rattle.mmtel_call.specs.OtherRequests.{as_abandoned, is_answered_invite, is_fork, is_success, on_forked_response, on_other_response, on_other_response_at}
use Rattle.mmtel_call.specs.OtherRequests.{on_response_abandoned, on_response_answered, on_response_answered_at, with_retransmitted_ack}
use Rattle.mmtel_call.specs.OtherRequests.{is_stable, on_other_timeout, on_other_timeout_at, on_retransmitted_success}
use Rattle.mmtel_call.specs.Detaching.{call_finish, finish_of_phase}
use Rattle.mmtel_call.specs.Opening.{call_after_opening, caller_of, new_call, unless_refused}
use Rattle.mmtel_call.specs.Reliable.{named_rseq, on_named_prack, on_rack, on_refused_prack, own_rseq_for, rack_in, with_reliable_response}
use Rattle.mmtel_call.specs.Reinvites.{ends_dialog, on_accepted_reinvite, on_cancel_across, on_provisional_across, on_response_across}
use Rattle.mmtel_call.specs.Requests.{is_bye, is_invite, is_prack, is_update, with_refused_request, with_unlisted_response}
use Rattle.mmtel_call.specs.Ringing.{attempt_after_request as attempt_received, call_without_attempt, end_before_answer, on_answer, on_caller_cancel}
use Rattle.mmtel_call.specs.Ringing.{on_cancel, on_due, on_failure, on_valid_request, with_attempt_cancel, with_no_reply_timer, with_no_reply_timer_in}
use Rattle.mmtel_call.specs.Ringing.{offered_request_check, on_attempt_timeout, on_numbered_provisional, on_other, on_prack_of, on_provisional, on_provisional_by, on_request_if, on_response, on_timeout}
use Rattle.mmtel_call.specs.Ringing.{on_trying}
use Rattle.mmtel_call.specs.Sending.{with_relay_to_caller, with_status_to, with_status_to_caller}
use Rattle.mmtel_call.specs.Stages.{after_bye_at, after_timer_at, has_departed, is_due_at, on_ack_at, on_bye, on_cancel_at, on_invite, on_request_at_if, on_response_at, on_timeout_at, on_valid_request_at}
use Rattle.mmtel_call.specs.Table.{ack_in, cancel_in, due_in, is_current, leaves, on_response_to, on_timeout_of, request_in, response_in, step, timeout_in, transition}
use Rattle.mmtel_call.specs.Updates.{accepts_updates, on_early_retry, on_early_update, on_stable_update, on_update, on_update_at, unless_updating}
use Rattle.mmtel_call.specs.declared.calls.Attempt.{Attempt}
use Rattle.mmtel_call.specs.declared.calls.Call.{Call}
use Rattle.mmtel_call.specs.declared.calls.RelayedTransaction.{RelayedTransaction}
use Rattle.mmtel_call.specs.declared.calls.RelayedKind.{RelayedKind}
use Rattle.mmtel_call.specs.declared.calls.RelayedKind.TheVariants.{Prack, Update}
use Rattle.mmtel_call.specs.declared.calls.EstablishedLegs.{EstablishedLegs}
use Rattle.mmtel_call.specs.declared.calls.Phase.{Phase}
use Rattle.mmtel_call.specs.declared.calls.Phase.TheVariants.{Detached, Established, Offered, Over}
use Rattle.mmtel_call.specs.declared.calls.Reinvite.{Reinvite}
use Rattle.mmtel_call.specs.declared.calls.Stage.{Stage}
use Rattle.mmtel_call.specs.declared.calls.Stage.TheVariants.{Answered, Departing, Reinviting, Stable}
use Rattle.mmtel_call.specs.declared.calls.AnsweredInvite.{AnsweredInvite}
use Rattle.mmtel_call.specs.declared.calls.OfferedAttempt.{OfferedAttempt}
use Rattle.mmtel_call.specs.declared.signals.Signal.{Signal}
use Rattle.mmtel_call.specs.declared.signals.Signal.TheVariants as signal
use Rattle.mmtel_output.specs.Outputs.{after_draw, empty_output, token}
use Rattle.mmtel_output.specs.SentInvites.{is_cancellable, with_key, with_provisional}
use Rattle.mmtel_output.specs.AbandonedInvites.{after_due_cancel, after_provisional, is_of_branch, on_response as abandoned_response, on_success_in, with_invite}
use Rattle.mmtel_output.specs.Sending.{with_cancel, with_due_cancel, with_final_ack}
use Rattle.mmtel_output.specs.declared.outputs.StepOutput.{StepOutput}
use Rattle.mmtel_output.specs.declared.sent_invites.SentInvite.{SentInvite}
use Rattle.mmtel_output.specs.declared.sent_invites.AbandonedInvite.{AbandonedInvite}
use Rattle.mmtel_leg.specs.Legs.{Leg}
use Rattle.mmtel_leg.specs.Remotes.{remote_of}
use Rattle.mmtel_leg.specs.declared.dialogues.Dialogue.{Dialogue}
use Rattle.mmtel_leg.specs.declared.dialogues.DialogueFault.{DialogueFault}
use Rattle.mmtel_leg.specs.declared.dialogues.DialogueFault.TheVariants.{OldCSeq, Pending, Unfinished}
use Rattle.mmtel_leg.specs.declared.remotes.Remote.{Remote}
use Rattle.mmtel_message.specs.Faults.{is_method}
use Rattle.mmtel_precedence.specs.Attempts.{end_by_time, rings}
use Rattle.mmtel_precedence.specs.Calls.{AttemptEndView, NoReply, NotReachable, SnapshotView}
use Rattle.mmtel_precedence.specs.Services.{DueDiversionView}
use Rattle.mmtel_precedence.specs.NextSteps.{EndAnswered, EndDivert, EndRefuse, NextStepView, StepAfterAttemptView, StepDivert, StepOffer, StepRefuse}
use Rattle.mmtel_precedence.specs.Verdicts.{too_many}
use Rattle.mmtel_reliable.specs.Acks.{has_own}
use Rattle.mmtel_reliable.specs.declared.racks.Rack.{Rack}
use Rattle.mmtel_sheet_values.specs.View.{SheetsInForce}
use Rattle.mmtel_served_user.specs.declared.targets.Target.{Target}
use Rattle.mmtel_transaction.specs.declared.words.DueWord.{DueWord}
use Rattle.mmtel_transaction.specs.declared.words.DueWord.TheVariants as due
use Rattle.mmtel_transaction.specs.declared.words.TKey.{TKey}
use Rattle.mmtel_trust.specs.ParsedMessage.{ParsedMessage}
use Rattle.mmtel_types.specs.declared.addrs.Addr.{Addr}
use Rattle.mmtel_types.specs.Causes.{status_of as status_of_cause}
use Rattle.mmtel_types.specs.declared.causes.Cause.{Cause}
use Rattle.mmtel_types.specs.declared.causes.Cause.TheVariants as causes
use Rattle.mmtel_types.specs.declared.numbers.Account.{Account}
use Rattle.mmtel_types.specs.declared.sides.Side.{Side}
use Rattle.mmtel_types.specs.declared.sides.Side.TheVariants.{Caller, Callee}
use Rattle.mmtel_run_definitions.specs.ShortRuns.{CallsDrawOn, CallsEndOn, DrawsOn}

-- from one output to a later one
abbrev pub On : StepOutput → StepOutput → Type 0
On d e = DrawsOn d.tokens e.tokens

-- nothing is drawn; so many numbers are drawn
pub none : (d : StepOutput) → On d d
none d = record { same = refl; on = λ less. omega arith }

pub once : (d : StepOutput) → On d (after_draw d)
once d = record { same = refl; on = λ less. omega (arith, less) }

pub then_on : (c d e : StepOutput) → On c d → On d e → On c e
then_on c d e a b = record {
  same = b.same ∙ a.same;
  on = λ less.
      let later : d.tokens.drawn ≤ e.tokens.drawn = b.on less in
      let small : d.tokens.drawn < 2 ^ 60 = omega (arith, later, less) in
      let first : c.tokens.drawn ≤ d.tokens.drawn = a.on small in
      omega (arith, first, later);
}

pub twice : (d : StepOutput) → On d (after_draw (after_draw d))
twice d = then_on d (after_draw d) (after_draw (after_draw d)) (once d) (once (after_draw d))

pub thrice : (d : StepOutput) → On d (after_draw (after_draw (after_draw d)))
thrice d = then_on d (after_draw d) (after_draw (after_draw (after_draw d))) (once d) (twice (after_draw d))

pub either : (b : Bool) (d e f : StepOutput) → On d e → On d f → On d (if b then e else f)
either true d e f x y = x
either false d e f x y = y

either_step : (b : Bool) (d : StepOutput) (s t : StepResult) → On d s.output → On d t.output → On d (if b then s else t).output
either_step true d s t x y = x
either_step false d s t x y = y

-- ---- what is sent where it is due

pub with_due_cancel-on : (sip : Addr) (i : SentInvite) (d : StepOutput) → On d (with_due_cancel sip i d)
with_due_cancel-on sip i d = either (is_cancellable i) d (with_cancel sip i d) d (none d) (none d)

attempt-on : (config : CallConfigView) (x : OfferedAttempt) (d : StepOutput) → On d (with_attempt_cancel config x d)
attempt-on config x d = with_due_cancel-on config.sip x.attempt.invite d

with_unlisted_response-on : (b c : Bool) (d e f g : StepOutput) → On d e → On d f → On d g → On d (if b then e else if c then f else g)
with_unlisted_response-on true c d e f g x y z = x
with_unlisted_response-on false true d e f g x y z = y
with_unlisted_response-on false false d e f g x y z = z

with_refused_request-on : (config : CallConfigView) (c : Call) (key : TKey) (m : MessageView) (fault : DialogueFault) (d : StepOutput) → On d (with_refused_request config c key m fault d)
with_refused_request-on config c key m (OldCSeq last) d = none d
with_refused_request-on config c key m Pending d = none d
with_refused_request-on config c key m Unfinished d = none d

in_order-on : (config : CallConfigView) (c : Call) (key : TKey) (m : MessageView) (d : StepOutput) → On d (with_unlisted_response config c key m d)
in_order-on config c key m d = with_unlisted_response-on (is_method (codes "OPTIONS") m.parsed.start) (is_method (codes "REFER") m.parsed.start) d _ _ _ (none d) (none d) (none d)

-- ---- the route

notified-on : (b : Bool) (d e : StepOutput) → On d e → On d (if b then e else d)
notified-on b d e x = either b d e d x (none d)

abbrev DivertsOn : (left : ℕ) → CallConfigView → SnapshotView → Leg → Type 0
DivertsOn left config now caller = (service : Option Service) (due : DueDiversionView) (c : Call) (d : StepOutput) → On d (divert left config now caller service due c d).output

turn-on : (left : ℕ) (config : CallConfigView) (now : SnapshotView) (caller : Leg) → DivertsOn left config now caller →
    (service : Option Service) (cause : Option ℕ) (target : Target) (turn : NextStepView) (c : Call) (d : StepOutput) →
    On d (on_next_step (divert left config now caller) config now.at caller service cause target turn c d).output
turn-on left config now caller later service cause target (StepOffer peer waiting) c d = thrice d
turn-on left config now caller later service cause target (StepDivert due) c d = later service due (with_unoffered_meter now.at service c) d
turn-on left config now caller later service cause target (StepRefuse why) c d = none d

target-on : (left : ℕ) (config : CallConfigView) (now : SnapshotView) (caller : Leg) → DivertsOn left config now caller →
    (cause : Option ℕ) (target : Target) (c : Call) (d : StepOutput) → On d (at_target (divert left config now caller) config now caller cause target c d).output
target-on left config now caller later cause target c d =
    turn-on left config now caller later (service_at config now c.opening cause target) cause target
    (decision_at config now c.opening (is_diverted c) cause target (service_at config now c.opening cause target) (peer_for config c.opening target)) c d

unless-on : (refusal : Option Cause) (onward : Call → StepOutput → StepResult) (config : CallConfigView) (at : ℕ) (caller : Leg) (c : Call) (d : StepOutput) → On d (onward c d).output →
    On d (diversion_unless_refused refusal onward config at caller c d).output
unless-on (Some cause) onward config at caller c d on = none d
unless-on None onward config at caller c d on = on

divert-on : (left : ℕ) (config : CallConfigView) (now : SnapshotView) (caller : Leg) → DivertsOn left config now caller
unfolding divert
divert-on zero config now caller service due c d =
    unless-on (diversion_refusal 0 config now.at service due c) (call_refusal config now.at caller (too_many due.cause)) config now.at caller c d (none d)
divert-on (suc left) config now caller service due c d =
    let target = diversion_target config due in
    let next = call_after_diversion target now.at left service due c in
    let told : On d (with_notification_of config due next d) = notified-on due.forward.notify_caller d _ (none d) in
    let inner : On (with_notification_of config due next d) (at_target (divert left config now caller) config now caller (Some due.cause) target next (with_notification_of config due next d)).output =
    target-on left config now caller (divert-on left config now caller) (Some due.cause) target next (with_notification_of config due next d) in
    let onward : Call → StepOutput → StepResult = diversion_step (at_target (divert left config now caller) config now caller (Some due.cause) target) config target now.at left service due in
    unless-on (diversion_refusal (suc left) config now.at service due c) onward config now.at caller c d
    (then_on d (with_notification_of config due next d) (at_target (divert left config now caller) config now caller (Some due.cause) target next (with_notification_of config due next d)).output told inner)

call_refusal-on : (config : CallConfigView) (at : ℕ) (caller : Leg) (service : Option Service) (m : Option MessageView) (cause : Cause) (c : Call) (d : StepOutput) →
    On d (relayed_refusal config at caller service m cause c d).output
call_refusal-on config at caller service None cause c d = none d
call_refusal-on config at caller service (Some m) cause c d =
    either_step (is_status (status_of m.parsed.start) (relayed_status cause)) d (call_end at cause caller.meter None c (with_relay_to_caller config c service m d))
    (call_refusal config at caller cause c d) (none d) (none d)

end-on : (config : CallConfigView) (now : SnapshotView) (caller : Leg) (service : Option Service) (m : Option MessageView) (end : StepAfterAttemptView) (c : Call) (d : StepOutput) →
    On d (on_end config now caller service m end c d).output
end-on config now caller service m EndAnswered c d = none d
end-on config now caller service m (EndDivert due) c d = divert-on c.diversions.remaining config now caller service due c d
end-on config now caller service m (EndRefuse cause) c d = call_refusal-on config now.at caller service m cause c d

goes-on : (config : CallConfigView) (now : SnapshotView) (x : OfferedAttempt) (how : AttemptEndView) (m : Option MessageView) (c : Call) (d : StepOutput) → On d (after_attempt config now x how m c d).output
goes-on config now x how m c d = end-on config now x.caller x.attempt.service m (decision_after c.opening now.at (is_diverted c) x.attempt.service how) (with_past x.callee.leg.meter c) d

-- ---- while it is offered

with_no_reply_timer_in-on : (time : Option ℕ) (at : ℕ) (attempt : Attempt) (c : Call) (d : StepOutput) → On d (with_no_reply_timer_in time at attempt c d)
with_no_reply_timer_in-on None at attempt c d = none d
with_no_reply_timer_in-on (Some time) at attempt c d = none d

with_no_reply_timer-on : (code at : ℕ) (attempt : Attempt) (c : Call) (d : StepOutput) → On d (with_no_reply_timer code at attempt c d)
with_no_reply_timer-on code at attempt c d = either (rings code && not attempt.rang) d (with_no_reply_timer_in (no_reply_time_of (service_sheet attempt.service)) at attempt c d) d
    (with_no_reply_timer_in-on (no_reply_time_of (service_sheet attempt.service)) at attempt c d) (none d)

reliably-on : (o : Option ℕ) (rseq : ℕ) (config : CallConfigView) (at : ℕ) (x : OfferedAttempt) (key : TKey) (m : MessageView) (code : ℕ) (c : Call) (d : StepOutput) →
    On d (on_numbered_provisional o rseq config at x key m code c d).output
reliably-on None rseq config at x key m code c d = none d
reliably-on (Some own) rseq config at x key m code c d = with_no_reply_timer-on code at x.attempt c (with_reliable_response config c x.attempt.service own m d)

on_provisional_by-on : (o : Option ℕ) (config : CallConfigView) (at : ℕ) (x : OfferedAttempt) (key : TKey) (m : MessageView) (code : ℕ) (c : Call) (d : StepOutput) →
    On d (on_provisional_by o config at x key m code c d).output
on_provisional_by-on None config at x key m code c d = with_no_reply_timer-on code at x.attempt c (with_relay_to_caller config c x.attempt.service m d)
on_provisional_by-on (Some rseq) config at x key m code c d = reliably-on (own_rseq_for rseq x m c) rseq config at x key m code c d

on_provisional-on : (config : CallConfigView) (at : ℕ) (x : OfferedAttempt) (key : TKey) (m : MessageView) (code : ℕ) (c : Call) (d : StepOutput) → On d (on_provisional config at x key m code c d).output
on_provisional-on config at x key m code c d = on_provisional_by-on (reliable_number config c.opening m) config at x key m code c d

response-on : (config : CallConfigView) (now : SnapshotView) (x : OfferedAttempt) (key : TKey) (m : MessageView) (code : ℕ) (c : Call) (d : StepOutput) → On d (on_response config now x key m code c d).output
response-on config now x key m code c d =
    either_step (nat_lt code 101) d (on_trying key x c d) _ (none d)
    (either_step (nat_lt code 200) d (on_provisional config now.at x key m code c d) _ (on_provisional-on config now.at x key m code c d)
    (either_step (nat_lt code 300) d (on_answer config now.at x key m c d) (on_failure config now x key m code c d) (none d)
    (goes-on config now x _ (Some m) c (with_final_ack config.sip key x.attempt.invite m.parsed d))))

on_timeout-on : (config : CallConfigView) (now : SnapshotView) (x : OfferedAttempt) (c : Call) (d : StepOutput) → On d (on_timeout config now x c d).output
on_timeout-on config now x c d = either_step x.attempt.rang d (step_result c d) (after_attempt config now x (NotReachable 408) None c d) (none d) (goes-on config now x (NotReachable 408) None c d)

timed-on : (config : CallConfigView) (now : SnapshotView) (x : OfferedAttempt) (how : AttemptEndView) (c : Call) (d : StepOutput) → On d (on_attempt_timeout config now x how c d).output
timed-on config now x how c d =
    then_on d (with_attempt_cancel config x d) (on_attempt_timeout config now x how c d).output (attempt-on config x d) (goes-on config now x how None (call_without_attempt x c) (with_attempt_cancel config x d))

end_before_answer-on : (cause : Cause) (config : CallConfigView) (at : ℕ) (x : OfferedAttempt) (c : Call) (d : StepOutput) → On d (end_before_answer cause config at x c d).output
end_before_answer-on cause config at x c d = attempt-on config x (with_status_to_caller config c (status_of_cause cause) d)

on_caller_cancel-on : (config : CallConfigView) (at : ℕ) (x : OfferedAttempt) (c : Call) (d : StepOutput) → On d (on_caller_cancel config at x c d).output
on_caller_cancel-on config at x c d = end_before_answer-on causes.Cancelled config at x c d

due-on : (what : DueWord) (config : CallConfigView) (now : SnapshotView) (x : OfferedAttempt) (c : Call) (d : StepOutput) → On d (on_due config now x what c d).output
due-on (due.NoReply number) config now x c d = either_step (number == x.attempt.number) d (on_attempt_timeout config now x NoReply c d) (step_result c d) (timed-on config now x NoReply c d) (none d)
due-on (due.NoPrack own) config now x c d =
    either_step (has_own own c.acks.waiting) d (end_before_answer causes.Unacknowledged config now.at x c d) (step_result c d) (end_before_answer-on causes.Unacknowledged config now.at x c d) (none d)
due-on (due.Cap number) config now x c d =
    either_step (number == x.attempt.number) d (on_attempt_timeout config now x (end_by_time x.attempt.rang) c d) (step_result c d) (timed-on config now x (end_by_time x.attempt.rang) c d) (none d)
due-on (due.NoAck number) config now x c d = none d
due-on (due.Expired number) config now x c d = none d

cancel-on : (config : CallConfigView) (at : ℕ) (x : OfferedAttempt) (key : TKey) (m : MessageView) (invite : TKey) (c : Call) (d : StepOutput) → On d (on_cancel config at x key m invite c d).output
cancel-on config at x key m invite c d =
    either_step (invite.0 == c.opening.key.0) d (on_caller_cancel config at x c (with_status_to config c key m 200 d)) (step_result c (with_status_to config c key m 200 d))
    (on_caller_cancel-on config at x c (with_status_to config c key m 200 d)) (none d)

-- the response that awaits its PRACK is no longer retransmitted
with_settled-on : (config : CallConfigView) (own : Option ℕ) (c : Call) (d : StepOutput) → On d (with_settled config own c d)
with_settled-on config own c d = either config.reliable d _ d (none d) (none d)

-- a PRACK
on_named_prack-on : (config : CallConfigView) (x : OfferedAttempt) (key : TKey) (m : MessageView) (rack : Rack) (o : Option ℕ) (c : Call) (d : StepOutput) → On d (on_named_prack config x key m rack o c d).output
on_named_prack-on config x key m rack None c d = none d
on_named_prack-on config x key m rack (Some answer) c d =
    then_on d (with_settled config (Some rack.answer) c d) (on_named_prack config x key m rack (Some answer) c d).output (with_settled-on config (Some rack.answer) c d) (once (with_settled config (Some rack.answer) c d))

rack-on : (config : CallConfigView) (x : OfferedAttempt) (key : TKey) (m : MessageView) (o : Option Rack) (c : Call) (d : StepOutput) → On d (on_rack config x key m o c d).output
rack-on config x key m None c d = none d
rack-on config x key m (Some rack) c d = on_named_prack-on config x key m rack (named_rseq x c rack) c d

prack_of-on : (side : Side) (config : CallConfigView) (x : OfferedAttempt) (key : TKey) (m : MessageView) (c : Call) (d : StepOutput) → On d (on_prack_of side config x key m c d).output
prack_of-on Caller config x key m c d = rack-on config x key m (rack_in m) c d
prack_of-on Callee config x key m c d = none d

-- an UPDATE, which goes to the other side if none is in flight
updating_side-on : (o : Option Side) (across : Call → StepOutput → StepResult) (config : CallConfigView) (side : Side) (key : TKey) (m : MessageView) (c : Call) (d : StepOutput) →
    On d (across c d).output → On d (unless_updating o across config side key m c d).output
updating_side-on None across config side key m c d on = on
updating_side-on (Some other) across config side key m c d on = either_step (is_same_side other side) d _ _ (none d) (none d)

update-on : (config : CallConfigView) (x : OfferedAttempt) (side : Side) (key : TKey) (m : MessageView) (c : Call) (d : StepOutput) → On d (on_update config x side key m c d).output
update-on config x side key m c d =
    either_step (accepts_updates x) d (unless_updating (updating_side c.relayed) (on_early_update config x side key m) config side key m c d) (on_early_retry config key m c d)
    (updating_side-on (updating_side c.relayed) (on_early_update config x side key m) config side key m c d (once d)) (none d)

update_at-on : (stage : Stage) (config : CallConfigView) (x : EstablishedLegs) (side : Side) (key : TKey) (m : MessageView) (c : Call) (d : StepOutput) → On d (on_update_at stage config x side key m c d).output
update_at-on (Answered waiting success) config x side key m c d = none d
update_at-on (Departing waiting success) config x side key m c d = none d
update_at-on Stable config x side key m c d = updating_side-on (updating_side c.relayed) (on_stable_update config x side key m) config side key m c d (once d)
update_at-on (Reinviting asking q) config x side key m c d = none d

other_offered-on : (config : CallConfigView) (x : OfferedAttempt) (side : Side) (key : TKey) (m : MessageView) (c : Call) (d : StepOutput) → On d (on_other config x side key m c d).output
other_offered-on config x side key m c d =
    either_step (is_prack m) d (on_prack_of side config x key m c d) _ (prack_of-on side config x key m c d)
    (either_step (is_update m) d (on_update config x side key m c d) (step_result c (with_unlisted_response config c key m d)) (update-on config x side key m c d) (in_order-on config c key m d))

step_of_receiver-on : (config : CallConfigView) (at : ℕ) (x : OfferedAttempt) (side : Side) (key : TKey) (m : MessageView) (c : Call) (d : StepOutput) → On d (on_valid_request config at x side key m c d).output
step_of_receiver-on config at x Caller key m c d =
    either_step (is_bye m) d (on_caller_cancel config at x c (with_status_to config c key m 200 d)) (on_other config x Caller key m c d) (on_caller_cancel-on config at x c (with_status_to config c key m 200 d))
    (other_offered-on config x Caller key m c d)
step_of_receiver-on config at x Callee key m c d = other_offered-on config x Callee key m c d

request_if-on : (r : Result (Unit {0}) DialogueFault) (config : CallConfigView) (at : ℕ) (x : OfferedAttempt) (side : Side) (key : TKey) (m : MessageView) (c : Call) (d : StepOutput) →
    On d (on_request_if r config at x side key m c d).output
request_if-on (Ok received) config at x side key m c d = step_of_receiver-on config at (attempt_received side m x) side key m (record c { phase = Offered (attempt_received side m x) }) d
request_if-on (Err fault) config at x side key m c d = with_refused_request-on config c key m fault d

-- ---- once it is answered

invite-on : (stage : Stage) (config : CallConfigView) (x : EstablishedLegs) (side : Side) (key : TKey) (m : MessageView) (c : Call) (d : StepOutput) → On d (on_invite stage config x side key m c d).output
invite-on (Answered waiting success) config x side key m c d = none d
invite-on (Departing waiting success) config x side key m c d = none d
invite-on Stable config x side key m c d = once d
invite-on (Reinviting asking q) config x side key m c d = none d

call_without_attempt-on : (stage : Stage) (config : CallConfigView) (at : ℕ) (x : EstablishedLegs) (side : Side) (m : MessageView) (c : Call) (d : StepOutput) → On d (after_bye_at stage config at x side m c d).output
call_without_attempt-on (Answered waiting success) config at x side m c d = either_step (is_same_side waiting side) d _ _ (twice d) (none d)
call_without_attempt-on (Departing waiting success) config at x side m c d = none d
call_without_attempt-on Stable config at x side m c d = once d
call_without_attempt-on (Reinviting asking q) config at x side m c d = once d

bye-on : (stage : Stage) (config : CallConfigView) (at : ℕ) (x : EstablishedLegs) (side : Side) (key : TKey) (m : MessageView) (c : Call) (d : StepOutput) → On d (on_bye stage config at x side key m c d).output
bye-on stage config at x side key m c d =
    either_step (has_departed stage side) d (step_result c (with_status_to config c key m 481 d)) (after_bye_at stage config at x side m c (with_status_to config c key m 200 d)) (none d)
    (call_without_attempt-on stage config at x side m c (with_status_to config c key m 200 d))

step_of_receiver_at-on : (stage : Stage) (config : CallConfigView) (at : ℕ) (x : EstablishedLegs) (side : Side) (key : TKey) (m : MessageView) (c : Call) (d : StepOutput) →
    On d (on_valid_request_at stage config at x side key m c d).output
step_of_receiver_at-on stage config at x side key m c d =
    either_step (is_invite m) d (on_invite stage config x side key m c d) _ (invite-on stage config x side key m c d)
    (either_step (is_bye m) d (on_bye stage config at x side key m c d) _ (bye-on stage config at x side key m c d)
    (either_step (is_update m) d (on_update_at stage config x side key m c d) _ (update_at-on stage config x side key m c d)
    (either_step (is_prack m) d (on_refused_prack config key m c d) (step_result c (with_unlisted_response config c key m d)) (none d) (in_order-on config c key m d))))

request_at_if-on : (r : Result (Unit {0}) DialogueFault) (stage : Stage) (config : CallConfigView) (at : ℕ) (x : EstablishedLegs) (side : Side) (key : TKey) (m : MessageView) (c : Call) (d : StepOutput) →
    On d (on_request_at_if r stage config at x side key m c d).output
request_at_if-on (Ok received) stage config at x side key m c d = step_of_receiver_at-on stage config at _ side key m _ d
request_at_if-on (Err fault) stage config at x side key m c d = with_refused_request-on config c key m fault d

ack_at-on : (stage : Stage) (config : CallConfigView) (at : ℕ) (x : EstablishedLegs) (side : Side) (m : MessageView) (c : Call) (d : StepOutput) → On d (on_ack_at stage config at x side m c d).output
ack_at-on (Answered waiting success) config at x side m c d = either_step (acknowledges waiting success side m) d (after_ack_across config x side success m c d) (step_result c d) (once d) (none d)
ack_at-on (Departing waiting success) config at x side m c d = either_step (acknowledges waiting success side m) d (after_departure config at x side c d) (step_result c d) (once d) (none d)
ack_at-on Stable config at x side m c d = none d
ack_at-on (Reinviting asking q) config at x side m c d = none d

cancel_at-on : (stage : Stage) (config : CallConfigView) (x : EstablishedLegs) (invite : TKey) (c : Call) (d : StepOutput) → On d (on_cancel_at stage config x invite c d).output
cancel_at-on (Answered waiting success) config x invite c d = none d
cancel_at-on (Departing waiting success) config x invite c d = none d
cancel_at-on Stable config x invite c d = none d
cancel_at-on (Reinviting asking q) config x invite c d = either_step (invite.0 == q.key.0) d (on_cancel_across config x asking q c d) (step_result c d) (with_due_cancel-on config.sip q.invite d) (none d)

across-on : (config : CallConfigView) (at : ℕ) (x : EstablishedLegs) (side : Side) (q : Reinvite) (key : TKey) (m : MessageView) (code : ℕ) (c : Call) (d : StepOutput) →
    On d (on_response_across config at x side q key m code c d).output
across-on config at x side q key m code c d =
    either_step (nat_lt code 200) d (on_provisional_across config x side q key c d) _
    (notified-on q.cancel_due d (with_due_cancel config.sip (with_provisional key q.invite) d) (with_due_cancel-on config.sip (with_provisional key q.invite) d))
    (either_step (nat_lt code 300) d (on_accepted_reinvite config at x side q key m c d) _ (none d)
    (either_step (ends_dialog code) d _ _ (twice d) (none d)))

response_at-on : (stage : Stage) (config : CallConfigView) (at : ℕ) (x : EstablishedLegs) (key : TKey) (m : MessageView) (c : Call) (d : StepOutput) → On d (on_response_at stage config at x key m c d).output
response_at-on (Answered waiting success) config at x key m c d = none d
response_at-on (Departing waiting success) config at x key m c d = none d
response_at-on Stable config at x key m c d = none d
response_at-on (Reinviting asking q) config at x key m c d = across-on config at x asking q key m (status_of m.parsed.start) c d

silence_at-on : (stage : Stage) (config : CallConfigView) (at : ℕ) (x : EstablishedLegs) (c : Call) (d : StepOutput) → On d (on_timeout_at stage config at x c d).output
silence_at-on (Answered waiting success) config at x c d = none d
silence_at-on (Departing waiting success) config at x c d = none d
silence_at-on Stable config at x c d = none d
silence_at-on (Reinviting asking q) config at x c d = twice d

rung-on : (stage : Stage) (config : CallConfigView) (at : ℕ) (x : EstablishedLegs) (c : Call) (d : StepOutput) → On d (after_timer_at stage config at x c d).output
rung-on (Answered waiting success) config at x c d = thrice d
rung-on (Departing waiting success) config at x c d = once d
rung-on Stable config at x c d = twice d
rung-on (Reinviting asking q) config at x c d = twice d

-- ---- other INVITEs

success-on : (sip : Addr) (l : AbandonedInvite) (remote : Remote) (o : Option Dialogue) (d : StepOutput) → On d (on_success_in sip l remote o d).output
success-on sip l remote (Some x) d = once d
success-on sip l remote None d = twice d

late-on : (b : Bool) (sip : Addr) (l : AbandonedInvite) (d : StepOutput) → l.invite.cancelled ≡ b → On d (after_due_cancel sip l d).output
late-on true sip l d e = rw e (none d)
late-on false sip l d e = rw e (none d)

abandoned_by : (b c : Bool) (d : StepOutput) (r s t : Rattle.mmtel_output.specs.AbandonedInvites.AfterResponse) → On d r.output → On d s.output → On d t.output → On d (if b then r else if c then s else t).output
abandoned_by true c d r s t x y z = x
abandoned_by false true d r s t x y z = y
abandoned_by false false d r s t x y z = z

pub abandoned-on : (sip : Addr) (key : TKey) (m : ParsedMessage) (l : AbandonedInvite) (d : StepOutput) → On d (abandoned_response sip key m l d).output
abandoned-on sip key m l d =
    abandoned_by (nat_lt (status_of m.start) 200) (nat_lt (status_of m.start) 300) d _ _ _
    (late-on l.invite.cancelled sip (after_provisional key m l) d refl)
    (success-on sip (with_invite l (with_key key l.invite)) (remote_of Callee m.lines) _ d)
    (none d)

on_response_abandoned-on : (config : CallConfigView) (key : TKey) (m : MessageView) (at : ℕ) (o : Option AbandonedInvite) (c : Call) (d : StepOutput) → On d (on_response_abandoned config key m at o c d).output
on_response_abandoned-on config key m at None c d = none d
on_response_abandoned-on config key m at (Some l) c d = abandoned-on config.sip key m.parsed l d

again-on : (t : AnsweredInvite) (o : Option (List ℕ)) (d : StepOutput) → On d (with_retransmitted_ack t o d)
again-on t None d = none d
again-on t (Some text) d = none d

step_of_signal-on : (config : CallConfigView) (key : TKey) (m : MessageView) (at : ℕ) (o : Option AnsweredInvite) (c : Call) (d : StepOutput) → On d (on_response_answered config key m at o c d).output
step_of_signal-on config key m at None c d = none d
step_of_signal-on config key m at (Some t) c d =
    either_step (not (is_success (status_of m.parsed.start))) d (step_result c d) _ (none d)
    (either_step (is_fork t m) d (on_forked_response config key m at t c d) (on_retransmitted_success t c d) (abandoned-on config.sip key m.parsed (as_abandoned t) d)
    (notified-on (is_stable c.phase) d (with_retransmitted_ack t t.invite.ack d) (again-on t t.invite.ack d)))

-- what is in flight
on_accepted_reinvite-on : (kind : RelayedKind) (config : CallConfigView) (at : ℕ) (side : Side) (request response : MessageView) (c : Call) (d : StepOutput) →
    On d (agreed_in_flight kind config at side request response c d).output
on_accepted_reinvite-on Prack config at side request response c d = none d
on_accepted_reinvite-on Update config at side request response c d = none d

final-on : (config : CallConfigView) (at : ℕ) (flight : RelayedTransaction) (m : MessageView) (code : ℕ) (c : Call) (d : StepOutput) → On d (on_final_relayed config at flight m code c d).output
final-on config at flight m code c d =
    let back : StepOutput = with_response_back config flight m c d in
    either_step (is_success code) d (agreed_in_flight flight.kind config at flight.side flight.exchange.request m c back) (step_result c back)
    (on_accepted_reinvite-on flight.kind config at flight.side flight.exchange.request m c back) (none d)

flight-on : (config : CallConfigView) (at : ℕ) (m : MessageView) (code place : ℕ) (o : Option RelayedTransaction) (c : Call) (d : StepOutput) → On d (on_response_relayed config at m code place o c d).output
flight-on config at m code place None c d = none d
flight-on config at m code place (Some flight) c d =
    either_step (nat_lt code 200) d (step_result c d) (on_final_relayed config at flight m code (without_transaction place c) d) (none d) (final-on config at flight m code (without_transaction place c) d)

flying-on : (config : CallConfigView) (at : ℕ) (m : MessageView) (o : Option ℕ) (c : Call) (d : StepOutput) → On d (on_response_in_flight config at m o c d).output
flying-on config at m None c d = none d
flying-on config at m (Some place) c d = flight-on config at m (status_of m.parsed.start) place (slice_get c.relayed place) c d

step_of_signal_at-on : (config : CallConfigView) (at : ℕ) (key : TKey) (m : MessageView) (branch : List ℕ) (o : Option ℕ) (c : Call) (d : StepOutput) → On d (on_response_answered_at config at key m branch o c d).output
step_of_signal_at-on config at key m branch None c d = flying-on config at m (position (is_in_flight branch) c.relayed) c d
step_of_signal_at-on config at key m branch (Some place) c d = step_of_signal-on config key m place (slice_get c.answered_invites place) c d

on_other_response_at-on : (config : CallConfigView) (at : ℕ) (key : TKey) (m : MessageView) (branch : List ℕ) (o : Option ℕ) (c : Call) (d : StepOutput) → On d (on_other_response_at config at key m branch o c d).output
on_other_response_at-on config at key m branch None c d = step_of_signal_at-on config at key m branch (position (is_answered_invite branch) c.answered_invites) c d
on_other_response_at-on config at key m branch (Some place) c d = on_response_abandoned-on config key m place (slice_get c.abandoned place) c d

other-on : (config : CallConfigView) (at : ℕ) (key : TKey) (m : MessageView) (branch : List ℕ) (c : Call) (d : StepOutput) → On d (on_other_response config at key m branch c d).output
unfolding on_other_response
other-on config at key m branch c d = on_other_response_at-on config at key m branch (position (is_of_branch branch) c.abandoned) c d

on_timeout_relayed-on : (config : CallConfigView) (place : ℕ) (o : Option RelayedTransaction) (c : Call) (d : StepOutput) → On d (on_timeout_relayed config place o c d).output
on_timeout_relayed-on config place None c d = none d
on_timeout_relayed-on config place (Some flight) c d = none d

silent_flying-on : (config : CallConfigView) (o : Option ℕ) (c : Call) (d : StepOutput) → On d (on_timeout_in_flight config o c d).output
silent_flying-on config None c d = none d
silent_flying-on config (Some place) c d = on_timeout_relayed-on config place (slice_get c.relayed place) c d

silent_at-on : (config : CallConfigView) (branch : List ℕ) (o : Option ℕ) (c : Call) (d : StepOutput) → On d (on_other_timeout_at config branch o c d).output
silent_at-on config branch None c d = silent_flying-on config (position (is_in_flight branch) c.relayed) c d
silent_at-on config branch (Some place) c d = none d

silent-on : (config : CallConfigView) (branch : List ℕ) (c : Call) (d : StepOutput) → On d (on_other_timeout config branch c d).output
silent-on config branch c d = silent_at-on config branch (position (is_of_branch branch) c.abandoned) c d

-- ---- the final responses to what is in flight

each-on : (config : CallConfigView) (c : Call) (flights : List RelayedTransaction) (d : StepOutput) → On d (with_dismissals config c flights d)
each-on config c [] d = none d
each-on config c (flight ∷ flights) d = each-on config c flights (with_dismissal config c flight d)

all-on : (config : CallConfigView) (c : Call) (d : StepOutput) → On d (with_all_dismissals config c d)
all-on config c d =
    let pracks : List RelayedTransaction = filter (λ flight. not (is_updating flight)) c.relayed in
    then_on d (with_dismissals config c pracks d) (with_all_dismissals config c d) (each-on config c pracks d) (each-on config c (filter is_updating c.relayed) (with_dismissals config c pracks d))

with_settled_in-on : (p : Phase) (config : CallConfigView) (c : Call) (d : StepOutput) → On d (with_settled_in p config c d)
with_settled_in-on (Offered x) config c d = with_settled-on config None c d
with_settled_in-on (Established x stage) config c d = none d
with_settled_in-on (Detached detached) config c d = none d
with_settled_in-on (Over cause) config c d = none d

output_after_dismissal-on : (config : CallConfigView) (c : Call) (d : StepOutput) → On d (output_after_dismissal config c d)
output_after_dismissal-on config c d = then_on d (with_all_dismissals config c d) (output_after_dismissal config c d) (all-on config c d) (with_settled_in-on c.phase config c (with_all_dismissals config c d))

-- ---- by phase

response_in-on : (p : Phase) (config : CallConfigView) (now : SnapshotView) (key : TKey) (m : MessageView) (c : Call) (d : StepOutput) → On d (response_in p config now key m c d).output
response_in-on (Offered x) config now key m c d = response-on config now x key m (status_of m.parsed.start) c d
response_in-on (Established x stage) config now key m c d = response_at-on stage config now.at x key m c d
response_in-on (Detached detached) config now key m c d = none d
response_in-on (Over cause) config now key m c d = none d

timeout_in-on : (p : Phase) (config : CallConfigView) (now : SnapshotView) (c : Call) (d : StepOutput) → On d (timeout_in p config now c d).output
timeout_in-on (Offered x) config now c d = on_timeout-on config now x c d
timeout_in-on (Established x stage) config now c d = silence_at-on stage config now.at x c d
timeout_in-on (Detached detached) config now c d = none d
timeout_in-on (Over cause) config now c d = none d

request_in-on : (p : Phase) (config : CallConfigView) (at : ℕ) (side : Side) (key : TKey) (m : MessageView) (c : Call) (d : StepOutput) → On d (request_in p config at side key m c d).output
request_in-on (Offered x) config at side key m c d = request_if-on (offered_request_check x side m) config at x side key m c d
request_in-on (Established x stage) config at side key m c d = request_at_if-on _ stage config at x side key m c d
request_in-on (Detached detached) config at side key m c d = none d
request_in-on (Over cause) config at side key m c d = none d

ack_in-on : (p : Phase) (config : CallConfigView) (at : ℕ) (side : Side) (m : MessageView) (c : Call) (d : StepOutput) → On d (ack_in p config at side m c d).output
ack_in-on (Offered x) config at side m c d = none d
ack_in-on (Established x stage) config at side m c d = ack_at-on stage config at x side m c d
ack_in-on (Detached detached) config at side m c d = none d
ack_in-on (Over cause) config at side m c d = none d

cancel_in-on : (p : Phase) (config : CallConfigView) (at : ℕ) (key : TKey) (m : MessageView) (invite : TKey) (c : Call) (d : StepOutput) → On d (cancel_in p config at key m invite c d).output
cancel_in-on (Offered x) config at key m invite c d = cancel-on config at x key m invite c d
cancel_in-on (Established x stage) config at key m invite c d = cancel_at-on stage config x invite c (with_status_to config c key m 200 d)
cancel_in-on (Detached detached) config at key m invite c d = none d
cancel_in-on (Over cause) config at key m invite c d = none d

due_in-on : (p : Phase) (config : CallConfigView) (now : SnapshotView) (what : DueWord) (c : Call) (d : StepOutput) → On d (due_in p config now what c d).output
due_in-on (Offered x) config now what c d = due-on what config now x c d
due_in-on (Established x stage) config now what c d = either_step (is_due_at stage c.successes what) d (after_timer_at stage config now.at x c d) (step_result c d) (rung-on stage config now.at x c d) (none d)
due_in-on (Detached detached) config now what c d = none d
due_in-on (Over cause) config now what c d = none d

on_response_to-on : (o : Option (List ℕ)) (config : CallConfigView) (now : SnapshotView) (key : TKey) (m : MessageView) (c : Call) (d : StepOutput) → On d (on_response_to o config now key m c d).output
on_response_to-on None config now key m c d = none d
on_response_to-on (Some branch) config now key m c d =
    either_step (is_current branch c) d (response_in c.phase config now key m c d) (on_other_response config now.at key m branch c d) (response_in-on c.phase config now key m c d)
    (other-on config now.at key m branch c d)

on_timeout_of-on : (o : Option (List ℕ)) (config : CallConfigView) (now : SnapshotView) (c : Call) (d : StepOutput) → On d (on_timeout_of o config now c d).output
on_timeout_of-on None config now c d = none d
on_timeout_of-on (Some branch) config now c d =
    either_step (is_current branch c) d (timeout_in c.phase config now c d) (on_other_timeout config branch c d) (timeout_in-on c.phase config now c d) (silent-on config branch c d)

transition-on : (config : CallConfigView) (now : SnapshotView) (x : Signal) (c : Call) (d : StepOutput) → On d (transition config now x c d).output
unfolding transition
transition-on config now (signal.Request side key request) c d = request_in-on c.phase config now.at side key request c d
transition-on config now (signal.Ack side ack) c d = ack_in-on c.phase config now.at side ack c d
transition-on config now (signal.Cancel key cancel invite) c d = cancel_in-on c.phase config now.at key cancel invite c d
transition-on config now (signal.Answer key response) c d = on_response_to-on (awaited_request_branch response) config now key response c d
transition-on config now (signal.Silent branch method) c d = on_timeout_of-on (timed_out_branch branch method) config now c d
transition-on config now (signal.Due what) c d = due_in-on c.phase config now what c d
transition-on config now (signal.Ended key) c d = none d

step-on : (config : CallConfigView) (now : SnapshotView) (x : Signal) (c : Call) (d : StepOutput) → On d (step config now x c d).output
unfolding step
step-on config now x c d =
    either_step (leaves x c) d (transition config now x (without_in_flight c) (output_after_dismissal config c d)) (transition config now x c d)
    (then_on d (output_after_dismissal config c d) (transition config now x (without_in_flight c) (output_after_dismissal config c d)).output (output_after_dismissal-on config c d)
    (transition-on config now x (without_in_flight c) (output_after_dismissal config c d))) (transition-on config now x c d)

-- ---- how it opens

unless_refused-on : (o : Option Cause) (config : CallConfigView) (now : SnapshotView) (caller : Leg) (c : Call) (d : StepOutput) → On d (unless_refused o config now caller c d).output
unless_refused-on None config now caller c d = target-on c.diversions.remaining config now caller (divert-on c.diversions.remaining config now caller) None (initial_target c.opening) c d
unless_refused-on (Some cause) config now caller c d = none d

call_after_opening-on : (config : CallConfigView) (now : SnapshotView) (a : Arrival) (d : StepOutput) → On d (call_after_opening config now a d).output
unfolding call_after_opening
call_after_opening-on config now a d =
    let c = new_call config (opening_of config now (token d) a) in
    then_on d (with_status_to_caller config c 100 (after_draw d)) (call_after_opening config now a d).output (once d)
    (unless_refused-on (opening_refusal config now.at c.opening) config now (caller_of now.at c) c (with_status_to_caller config c 100 (after_draw d)))

-- ---- the table

module _ (config : CallConfigView) (at : ℕ) (view : SheetsInForce) where
  call_step-on : (busy : List Account) (x : Signal) (d : StepOutput) (e : Entry) → On d (call_step config at view busy x d e).output
  unfolding call_step
  call_step-on busy x d e = step-on config (snapshot_at at view busy) x e.call d

  opening_step-on : (busy : List Account) (a : Arrival) (d : StepOutput) → On d (opening_step config at view busy a d).output
  unfolding opening_step
  opening_step-on busy a d = call_after_opening-on config (snapshot_at at view busy) a d

  at-on : (x : Signal) (invites : List InviteKey) (place : ℕ) (o : Option Entry) (es : List Entry) (d : StepOutput) → On d (step_of_entry_at config at view x invites place o es d).output
  at-on x invites place None es d = none d
  at-on x invites place (Some e) es d = call_step-on (busy_beside e.call.opening.number.0 es) x d e

  in-on : (x : Signal) (invites : List InviteKey) (o : Option ℕ) (es : List Entry) (d : StepOutput) → On d (step_in config at view x invites o es d).output
  in-on x invites None es d = none d
  in-on x invites (Some place) es d = at-on x invites place (slice_get es place) es d

  step_of_signal_by-on : (number : ℕ) (x : table.Signal) (es : List Entry) (d : StepOutput) → On d (step_of_signal config at view number x es d).output
  unfolding step_of_signal
  step_of_signal_by-on number (of_table.Arrived key invite served registration identities) es d =
      let a : Arrival = record { number = record { 0 = number }; key = key; invite = invite; served = served; registration = registration; identities = identities } in
      opening_step-on (busy_with a es) a d
  step_of_signal_by-on number (of_table.Request call side key request) es d = in-on (signal.Request side key request) (invites_by side key request) (position (is_numbered call.0) es) es d
  step_of_signal_by-on number (of_table.Ack call side ack) es d = in-on (signal.Ack side ack) [] (position (is_numbered call.0) es) es d
  step_of_signal_by-on number (of_table.Cancel call key cancel invite) es d = in-on (signal.Cancel key cancel invite) [] (position (is_numbered call.0) es) es d
  step_of_signal_by-on number (of_table.Answer key response) es d = in-on (signal.Answer key response) [] (position (has_sent_branch (awaited_request_branch response)) es) es d
  step_of_signal_by-on number (of_table.Silent branch method) es d = in-on (signal.Silent branch method) [] (position (has_sent_branch (timed_out_branch branch method)) es) es d
  step_of_signal_by-on number (of_table.Due call what) es d = in-on (signal.Due what) [] (position (is_numbered call.0) es) es d
  step_of_signal_by-on number (of_table.Over key) es d = in-on (signal.Ended key) [] (position (has_received_key key) es) es d

-- ---- a call ends without its leg

finish_of_phase-on : (p : Phase) (config : CallConfigView) (at : ℕ) (c : Call) (d : StepOutput) → On d (finish_of_phase p config at c d).output
finish_of_phase-on (Offered x) config at c d = none d
finish_of_phase-on (Established x stage) config at c d = none d
finish_of_phase-on (Detached detached) config at c d =
    then_on d (output_after_dismissal config c d) (finish_of_phase (Detached detached) config at c d).output (output_after_dismissal-on config c d) (once (output_after_dismissal config c d))
finish_of_phase-on (Over cause) config at c d = none d

finish_step-on : (config : CallConfigView) (at : ℕ) (d : StepOutput) (e : Entry) → On d (finish_step config at d e).output
unfolding finish_step call_finish
finish_step-on config at d e = finish_of_phase-on e.call.phase config at e.call d

step_of_finish_at-on : (config : CallConfigView) (at place : ℕ) (o : Option Entry) (es : List Entry) (d : StepOutput) → On d (step_of_finish_at config at place o es d).output
step_of_finish_at-on config at place None es d = none d
step_of_finish_at-on config at place (Some e) es d = finish_step-on config at d e

step_of_finish_in-on : (config : CallConfigView) (at : ℕ) (o : Option ℕ) (es : List Entry) (d : StepOutput) → On d (step_of_finish_in config at o es d).output
step_of_finish_in-on config at None es d = none d
step_of_finish_in-on config at (Some place) es d = step_of_finish_at-on config at place (slice_get es place) es d

step_of_finish-on : (config : CallConfigView) (at number : ℕ) (es : List Entry) (d : StepOutput) → On d (step_of_finish config at number es d).output
unfolding step_of_finish
step_of_finish-on config at number es d = step_of_finish_in-on config at (place_of number es) es d

pub end_on : CallsEndOn
end_on config ops number at tokens = step_of_finish-on config at number (table_after config ops).entries (empty_output tokens)

pub draw_on : CallsDrawOn
draw_on config ops x = step_of_signal_by-on config x.at x.view _ x.signal (table_after config ops).entries (empty_output x.tokens)

-- A call that is offered to a target and not answered: its transition on each signal (RFC 3261 §9, §13.2.2, §13.3.1, TS 24.604 §4.5.2.6).
use Rattle.std.specs.Prelude.{ℕ, ◌+◌, ◌==◌, ◌&&◌, ◌||◌, not, nat_lt, Bool, true, false, if◌then◌else◌, Option, Some, None, [], ◌∷◌, ◌++◌, length, Result, Ok, Err}
pub use Rattle.mmtel_compose.specs.ReceivedMessages.{to_tag_of}
use Rattle.mmtel_compose.specs.ReceivedMessages.{MessageView}
use Rattle.mmtel_output.specs.Outputs.{with_emit}
use Rattle.mmtel_output.specs.SentInvites.{invite_after_cancel, with_early, with_provisional}
use Rattle.mmtel_output.specs.Sending.{with_due_cancel, with_final_ack}
use Rattle.mmtel_output.specs.declared.outputs.StepOutput.{StepOutput}
use Rattle.mmtel_output.specs.declared.sent_invites.SentInvite.{SentInvite}
use Rattle.mmtel_output.specs.declared.sent_invites.AbandonedInvite.{AbandonedInvite}
use Rattle.mmtel_leg.specs.Dialogues.{with_remote}
use Rattle.mmtel_leg.specs.Legs.{with_dialogue}
use Rattle.mmtel_leg.specs.Remotes.{remote_of}
use Rattle.mmtel_leg.specs.declared.dialogues.DialogueFault.{DialogueFault}
use Rattle.mmtel_leg.specs.declared.dialogues.InFlight.TheVariants as in_flight
use Rattle.mmtel_leg.specs.declared.remotes.Remote.{Remote}
use Rattle.mmtel_precedence.specs.Attempts.{end_by_final, end_by_time, rings}
use Rattle.mmtel_precedence.specs.Calls.{AttemptEndView, NoReply, NotReachable, SnapshotView}
use Rattle.mmtel_reliable.specs.Acks.{after_relay, has_own}
use Rattle.mmtel_transaction.specs.declared.words.DueWord.{DueWord}
use Rattle.mmtel_transaction.specs.declared.words.DueWord.TheVariants as due
use Rattle.mmtel_transaction.specs.declared.words.Emit.TheVariants as emit
use Rattle.mmtel_transaction.specs.declared.words.TKey.{TKey}
use Rattle.mmtel_types.specs.Causes.{status_of}
use Rattle.mmtel_types.specs.declared.causes.Cause.{Cause}
use Rattle.mmtel_types.specs.declared.causes.Cause.TheVariants as causes
use Rattle.mmtel_types.specs.declared.sides.Side.{Side}
use Rattle.mmtel_types.specs.declared.sides.Side.TheVariants.{Caller, Callee}
use Rattle.mmtel_call_services.specs.Decisions.{no_reply_time_of, redirect_of, service_sheet}
use Rattle.mmtel_call_services.specs.Reliable.{reliable_number}
use Rattle.mmtel_call_services.specs.Requests.{number_of}
use Rattle.mmtel_call_services.specs.CallConfig.{CallConfigView}
pub use Rattle.mmtel_call.specs.Awaiting.{ack_time, expiries, expiry_in, next_success, session_timer, with_ack_timer, with_expiry_timer}
use Rattle.mmtel_call.specs.Calls.{Answered, AnsweredInvite, Attempt, AttemptLegView, Call, Established, EstablishedLegs, Offered, OfferedAttempt, Success}
use Rattle.mmtel_call.specs.Closing.{StepResult, offered_call_end, step_result}
use Rattle.mmtel_call.specs.Diverting.{after_attempt}
use Rattle.mmtel_call.specs.Reliable.{on_prack, on_refused_prack, own_rseq_for, with_prack_timer, with_reliable_response}
use Rattle.mmtel_call.specs.Requests.{is_bye, is_prack, is_update, leg_after_receiving, request_check, with_refused_request, with_unlisted_response}
use Rattle.mmtel_call.specs.Sending.{with_relay_to_caller, with_status_to, with_status_to_caller}
use Rattle.mmtel_call.specs.Updates.{on_update}

-- ---- an attempt that is abandoned

abbrev pub abandoned_invite : SentInvite → AbandonedInvite
abandoned_invite i = record { invite = i; in_dialog = false }

abbrev pub with_abandoned : AbandonedInvite → Call → Call
with_abandoned l c = record c { abandoned = c.abandoned ++ l ∷ [] }

-- its INVITE is cancelled, if a provisional response permits that (§9.1), and is abandoned
abbrev pub call_without_attempt : OfferedAttempt → Call → Call
call_without_attempt x c = with_abandoned (abandoned_invite (invite_after_cancel x.attempt.invite)) c

abbrev pub with_attempt_cancel : CallConfigView → OfferedAttempt → StepOutput → StepOutput
with_attempt_cancel config x output = with_due_cancel config.sip x.attempt.invite output

-- ---- provisional responses

-- the remote side of the early dialog, by the first response with a tag, which establishes that dialog (§12.1.2)
abbrev pub early_remote_of : AttemptLegView → MessageView → Option Remote
early_remote_of callee m = if callee.is_early || length (to_tag_of m) == 0 then None else Some (remote_of Callee m.parsed.lines)

abbrev pub leg_with_remote : Option Remote → AttemptLegView → AttemptLegView
leg_with_remote None callee = callee
leg_with_remote (Some remote) callee = record { leg = with_dialogue callee.leg (with_remote callee.leg.dialogue remote); is_early = true }

abbrev pub callee_after : AttemptLegView → MessageView → AttemptLegView
callee_after callee m = leg_with_remote (early_remote_of callee m) callee

-- the response was received in this client transaction
abbrev pub attempt_with_provisional : TKey → Attempt → Attempt
attempt_with_provisional key attempt = record attempt { invite = with_provisional key attempt.invite }

-- its INVITE keeps the remote side of the early dialog, which a later 2xx may confirm
abbrev pub attempt_with_early : Option Remote → Attempt → Attempt
attempt_with_early early attempt = record attempt { invite = with_early early attempt.invite }

abbrev pub attempt_after_ringing : ℕ → Attempt → Attempt
attempt_after_ringing code attempt = record attempt { rang = attempt.rang || rings code }

-- 100: nothing
abbrev pub on_trying : TKey → OfferedAttempt → Call → StepOutput → StepResult
on_trying key x c output = step_result (record c { phase = Offered (record x { attempt = attempt_with_provisional key x.attempt }) }) output

abbrev pub with_no_reply_timer_in : Option ℕ → (at : ℕ) → Attempt → Call → StepOutput → StepOutput
with_no_reply_timer_in None at attempt c output = output
with_no_reply_timer_in (Some time) at attempt c output = with_emit (emit.Arm c.opening.number (due.NoReply attempt.number) (at + time)) output

abbrev pub with_no_reply_timer : ℕ → (at : ℕ) → Attempt → Call → StepOutput → StepOutput
with_no_reply_timer code at attempt c output = if rings code && not attempt.rang
    then with_no_reply_timer_in (no_reply_time_of (service_sheet attempt.service)) at attempt c output else output

abbrev pub attempt_after_provisional : OfferedAttempt → TKey → MessageView → ℕ → OfferedAttempt
attempt_after_provisional x key m code =
    record x { callee = callee_after x.callee m; attempt = attempt_after_ringing code (attempt_with_early (early_remote_of x.callee m) (attempt_with_provisional key x.attempt)) }

-- 101 to 199: it is relayed to the caller
abbrev pub on_plain_provisional : CallConfigView → (at : ℕ) → OfferedAttempt → TKey → MessageView → ℕ → Call → StepOutput → StepResult
on_plain_provisional config at x key m code c output = record {
  call = record c { phase = Offered (attempt_after_provisional x key m code) };
  output = with_no_reply_timer code at x.attempt c (with_relay_to_caller config c x.attempt.service m output);
}

-- a reliable response: the same under an own number, and it waits for its PRACK. One that gets no number is not relayed, and is treated as a 100 (RFC 3262 §4)
abbrev pub on_numbered_provisional : Option ℕ → (rseq : ℕ) → CallConfigView → (at : ℕ) → OfferedAttempt → TKey → MessageView → ℕ → Call → StepOutput → StepResult
on_numbered_provisional None rseq config at x key m code c output = on_trying key x c output
on_numbered_provisional (Some own) rseq config at x key m code c output = record {
  call = record c { acks = after_relay rseq c.acks; phase = Offered (attempt_after_provisional x key m code) };
  output = with_prack_timer own at c (with_no_reply_timer code at x.attempt c (with_reliable_response config c x.attempt.service own m output));
}

abbrev pub on_provisional_by : Option ℕ → CallConfigView → (at : ℕ) → OfferedAttempt → TKey → MessageView → ℕ → Call → StepOutput → StepResult
on_provisional_by None config at x key m code c output = on_plain_provisional config at x key m code c output
on_provisional_by (Some rseq) config at x key m code c output = on_numbered_provisional (own_rseq_for rseq x m c) rseq config at x key m code c output

abbrev pub on_provisional : CallConfigView → (at : ℕ) → OfferedAttempt → TKey → MessageView → ℕ → Call → StepOutput → StepResult
on_provisional config at x key m code c output = on_provisional_by (reliable_number config c.opening m) config at x key m code c output

-- ---- 2xx

-- the INVITE after this 2xx
abbrev pub new_answered_invite : TKey → MessageView → (within : Bool) → SentInvite → AnsweredInvite
new_answered_invite key m within i = record { invite = with_provisional key i; tag = to_tag_of m; in_dialog = within }

-- what waits for the ACK of this INVITE; its 2xx relays that of the INVITE to the other side
abbrev pub success_of : Call → MessageView → SentInvite → Success
success_of c m i = record { number = next_success c; cseq = number_of m; branch = i.branch }

-- its dialog is confirmed (§13.2.2.4)
abbrev pub established_legs_of : OfferedAttempt → MessageView → EstablishedLegs
established_legs_of x m = record {
  caller = x.caller;
  callee = with_dialogue x.callee.leg (with_remote x.callee.leg.dialogue (remote_of Callee m.parsed.lines));
  service = x.attempt.service;
}

-- it is relayed to the caller, whose ACK is due
abbrev pub on_answer : CallConfigView → (at : ℕ) → OfferedAttempt → TKey → MessageView → Call → StepOutput → StepResult
on_answer config at x key m c output = record {
  call = record c {
    answered = Some at;
    successes = next_success c;
    answered_invites = c.answered_invites ++ new_answered_invite key m false x.attempt.invite ∷ [];
    phase = Established (established_legs_of x m) (Answered Caller (success_of c c.opening.invite x.attempt.invite));
  };
  output = with_expiry_timer config at m c (with_ack_timer at c (with_relay_to_caller config c x.attempt.service m output));
}

-- ---- a final response from 300, a timeout, the deadlines of the attempt

-- ACK to the target, and the call continues
abbrev pub on_failure : CallConfigView → SnapshotView → OfferedAttempt → TKey → MessageView → ℕ → Call → StepOutput → StepResult
on_failure config now x key m code c output =
    after_attempt config now x (end_by_final code (redirect_of m) x.attempt.rang) (Some m) c (with_final_ack config.sip key x.attempt.invite m.parsed output)

abbrev pub on_response : CallConfigView → SnapshotView → OfferedAttempt → TKey → MessageView → ℕ → Call → StepOutput → StepResult
on_response config now x key m code c output =
    if nat_lt code 101 then on_trying key x c output
    else if nat_lt code 200 then on_provisional config now.at x key m code c output
    else if nat_lt code 300 then on_answer config now.at x key m c output
    else on_failure config now x key m code c output

-- no response at all: the target is unreachable; if it rang before, the timeout has no effect
abbrev pub on_timeout : CallConfigView → SnapshotView → OfferedAttempt → Call → StepOutput → StepResult
on_timeout config now x c output = if x.attempt.rang then step_result c output else after_attempt config now x (NotReachable 408) None c output

-- CANCEL to the target, and the call continues
abbrev pub on_attempt_timeout : CallConfigView → SnapshotView → OfferedAttempt → AttemptEndView → Call → StepOutput → StepResult
on_attempt_timeout config now x how c output = after_attempt config now x how None (call_without_attempt x c) (with_attempt_cancel config x output)

-- ---- the call ends before it was answered

-- the final response for this cause to the caller, and CANCEL to the target
abbrev pub end_before_answer : Cause → CallConfigView → (at : ℕ) → OfferedAttempt → Call → StepOutput → StepResult
end_before_answer cause config at x c output = offered_call_end at cause x (call_without_attempt x c)
    (with_attempt_cancel config x (with_status_to_caller config c (status_of cause) output))

-- only a deadline of this attempt, or of a reliable response that waits for its PRACK, has an effect
abbrev pub on_due : CallConfigView → SnapshotView → OfferedAttempt → DueWord → Call → StepOutput → StepResult
on_due config now x (due.NoReply number) c output = if number == x.attempt.number then on_attempt_timeout config now x NoReply c output else step_result c output
on_due config now x (due.NoPrack own) c output = if has_own own c.acks.waiting then end_before_answer causes.Unacknowledged config now.at x c output else step_result c output
on_due config now x (due.Cap number) c output = if number == x.attempt.number then on_attempt_timeout config now x (end_by_time x.attempt.rang) c output else step_result c output
on_due config now x (due.NoAck number) c output = step_result c output
on_due config now x (due.Expired number) c output = step_result c output

-- ---- the caller abandons the call (§9.2, §15.1.2)

-- 487 to its INVITE, and CANCEL to the target
abbrev pub on_caller_cancel : CallConfigView → (at : ℕ) → OfferedAttempt → Call → StepOutput → StepResult
on_caller_cancel config at x c output = end_before_answer causes.Cancelled config at x c output

-- CANCEL of the INVITE that opened the call; a CANCEL of another INVITE, which has its final response, only gets its 200
abbrev pub on_cancel : CallConfigView → (at : ℕ) → OfferedAttempt → TKey → MessageView → (invite : TKey) → Call → StepOutput → StepResult
on_cancel config at x key m invite c output =
    if invite.0 == c.opening.key.0 then on_caller_cancel config at x c (with_status_to config c key m 200 output) else step_result c (with_status_to config c key m 200 output)

-- PRACK and UPDATE of a side, and requests for which there is no transition
abbrev pub on_prack_of : Side → CallConfigView → OfferedAttempt → TKey → MessageView → Call → StepOutput → StepResult
on_prack_of Caller config x key m c output = on_prack config x key m c output
on_prack_of Callee config x key m c output = on_refused_prack config key m c output

abbrev pub on_other : CallConfigView → OfferedAttempt → Side → TKey → MessageView → Call → StepOutput → StepResult
on_other config x side key m c output =
    if is_prack m then on_prack_of side config x key m c output
    else if is_update m then on_update config x side key m c output
    else step_result c (with_unlisted_response config c key m output)

-- a BYE of the caller has the effect of its CANCEL; one of the target, which has no dialog to end, is refused
abbrev pub on_valid_request : CallConfigView → (at : ℕ) → OfferedAttempt → Side → TKey → MessageView → Call → StepOutput → StepResult
on_valid_request config at x Caller key m c output =
    if is_bye m then on_caller_cancel config at x c (with_status_to config c key m 200 output) else on_other config x Caller key m c output
on_valid_request config at x Callee key m c output = on_other config x Callee key m c output

-- ---- requests

abbrev pub attempt_after_request : Side → MessageView → OfferedAttempt → OfferedAttempt
attempt_after_request Caller m x = record x { caller = leg_after_receiving x.caller m }
attempt_after_request Callee m x = record x { callee = record x.callee { leg = leg_after_receiving x.callee.leg m } }

abbrev pub on_request_if : Result (Unit {0}) DialogueFault → CallConfigView → (at : ℕ) → OfferedAttempt → Side → TKey → MessageView → Call → StepOutput → StepResult
on_request_if (Ok received) config at x side key m c output = on_valid_request config at (attempt_after_request side m x) side key m
    (record c { phase = Offered (attempt_after_request side m x) }) output
on_request_if (Err fault) config at x side key m c output = step_result c (with_refused_request config c key m fault output)

-- an INVITE of the caller is received before the one that opened the call has its final response, one of the target while the server's own is in flight
abbrev pub offered_request_check : OfferedAttempt → Side → MessageView → Result (Unit {0}) DialogueFault
offered_request_check x Caller m = request_check x.caller m in_flight.Theirs
offered_request_check x Callee m = request_check x.callee.leg m in_flight.Own

abbrev pub on_request : CallConfigView → (at : ℕ) → OfferedAttempt → Side → TKey → MessageView → Call → StepOutput → StepResult
on_request config at x side key m c output = on_request_if (offered_request_check x side m) config at x side key m c output

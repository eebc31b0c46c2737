-- A call that is offered remains clean, and sends what is clean.
use Rattle.std.proofs.Common.{List, ◌==◌, ◌+◌, Bool, true, false, not, ◌&&◌, ◌||◌, ℕ, [], ◌∷◌, length, Option, Some, None, nat_lt, Result, Ok, Err}
use Rattle.std.specs.Prelude.{IfSome, if◌then◌else◌}
use Rattle.mmtel_compose.specs.ReceivedMessages.{MessageView}
use Rattle.mmtel_output.specs.SentInvites.{invite_after_cancel}
use Rattle.mmtel_output.specs.Sending.{with_final_ack}
use Rattle.mmtel_output.specs.declared.outputs.StepOutput.{StepOutput}
use Rattle.mmtel_output.specs.declared.sent_invites.AbandonedInvite.{AbandonedInvite}
use Rattle.mmtel_leg.specs.Remotes.{remote_of}
use Rattle.mmtel_leg.specs.declared.dialogues.DialogueFault.{DialogueFault}
use Rattle.mmtel_leg.specs.declared.remotes.Remote.{Remote}
use Rattle.mmtel_precedence.specs.Attempts.{end_by_final, end_by_time, rings}
use Rattle.mmtel_precedence.specs.Calls.{AttemptEndView, NoReply, NotReachable, SnapshotView}
use Rattle.mmtel_reliable.specs.Acks.{has_own}
use Rattle.mmtel_transaction.specs.declared.words.DueWord.{DueWord}
use Rattle.mmtel_transaction.specs.declared.words.DueWord.TheVariants as due
use Rattle.mmtel_transaction.specs.declared.words.Emit.TheVariants as emit
use Rattle.mmtel_transaction.specs.declared.words.TKey.{TKey}
use Rattle.mmtel_types.specs.Causes.{status_of}
use Rattle.mmtel_types.specs.declared.causes.Cause.{Cause}
use Rattle.mmtel_types.specs.declared.causes.Cause.TheVariants as causes
use Rattle.mmtel_types.specs.declared.sides.Side.{Side}
use Rattle.mmtel_types.specs.declared.sides.Side.TheVariants.{Caller, Callee}
use Rattle.mmtel_call_services.specs.Decisions.{no_reply_time_of, redirect_of, service_sheet}
use Rattle.mmtel_call_services.specs.Reliable.{reliable_number}
use Rattle.mmtel_call_services.specs.CallConfig.{CallConfigView}
use Rattle.mmtel_call.specs.declared.calls.Attempt.{Attempt}
use Rattle.mmtel_call.specs.declared.calls.Call.{Call}
use Rattle.mmtel_call.specs.declared.calls.Phase.TheVariants.{Offered}
use Rattle.mmtel_call.specs.declared.calls.OfferedAttempt.{OfferedAttempt}
use Rattle.mmtel_call.specs.AttemptLeg.{AttemptLegView}
use Rattle.mmtel_call.specs.Closing.{step_result}
use Rattle.mmtel_call.specs.Diverting.{after_attempt}
use Rattle.mmtel_call.specs.Requests.{is_bye, with_refused_request}
use Rattle.mmtel_call.specs.Reliable.{own_rseq_for, prack_time, with_reliable_response}
use Rattle.mmtel_call.specs.Ringing.{abandoned_invite, attempt_after_provisional, attempt_after_request, call_without_attempt, callee_after, early_remote_of, end_before_answer}
use Rattle.mmtel_call.specs.Ringing.{leg_with_remote, new_answered_invite, offered_request_check, on_answer, on_attempt_timeout, on_caller_cancel, on_cancel, on_due, on_failure}
use Rattle.mmtel_call.specs.Ringing.{on_numbered_provisional, on_other, on_plain_provisional, on_provisional, on_provisional_by, on_request, on_request_if, on_response, on_timeout}
use Rattle.mmtel_call.specs.Ringing.{on_trying, on_valid_request, to_tag_of, with_abandoned, with_ack_timer, with_attempt_cancel, with_no_reply_timer, with_no_reply_timer_in}
use Rattle.mmtel_call.specs.Sending.{with_relay_to_caller, with_status_to, with_status_to_caller}
use Rattle.mmtel_call_theorems.specs.NoInjection.Acks.{ReceivedAck}
use Rattle.mmtel_call_theorems.specs.NoInjection.Emits.{OutputHasNoInjection}
use Rattle.mmtel_call_theorems.proofs.NoInjection.Deciding.{EndHasNoInjection, final_no_injection}
use Rattle.mmtel_call_theorems.proofs.NoInjection.RelayedRequests.{awaiting_no_injection, expiry_no_injection, on_other_no_injection, reliably_no_injection}
use Rattle.mmtel_call_theorems.proofs.NoInjection.Diversions.{IsGood, goes_on_no_injection}
use Rattle.mmtel_call_theorems.proofs.NoInjection.ReceivedMessages.{ParsedMessageHasNoInjection, redirect_no_injection}
use Rattle.mmtel_call_theorems.proofs.NoInjection.CallState.{AbandonedHasNoInjection, AnsweredHasNoInjection, CallHasNoInjection, LegDialogHasNoInjection, OfferedHasNoInjection}
use Rattle.mmtel_call_theorems.proofs.NoInjection.CallState.{StepHasNoInjection, early_no_injection, if_step, once_no_injection, onward_no_injection, over_no_injection}
use Rattle.mmtel_call_theorems.proofs.NoInjection.CallState.{refused_request_no_injection, relayed_to_caller_no_injection, replied_to_no_injection, status_to_caller_no_injection}
use Rattle.mmtel_call_theorems.proofs.NoInjection.Sending.{RemoteHasNoInjection, cancelled_no_injection, each_append, emit_no_injection, final_acked_no_injection, if_output, met_no_injection, remote_no_injection}

-- ---- an attempt that is abandoned

pub with_abandoned_kept : (acks : List ReceivedAck) (l : AbandonedInvite) (c : Call) → AbandonedHasNoInjection acks l → CallHasNoInjection acks c → CallHasNoInjection acks (with_abandoned l c)
with_abandoned_kept acks l c is k =
    record {
      opening_in = k.opening_in;
      history_in = k.history_in;
      abandoned_in = each_append (AbandonedHasNoInjection acks) c.abandoned (l ∷ []) k.abandoned_in (is, tt);
      answered_in = k.answered_in;
      in_flight_in = k.in_flight_in;
    }

left_kept : (acks : List ReceivedAck) (x : OfferedAttempt) (c : Call) → OfferedHasNoInjection acks x → CallHasNoInjection acks c → CallHasNoInjection acks (call_without_attempt x c)
left_kept acks x c t k = with_abandoned_kept acks (abandoned_invite (invite_after_cancel x.attempt.invite)) c (once_no_injection acks x.attempt.invite t.sent_in) k

cancelled_attempt_no_injection : (acks : List ReceivedAck) (config : CallConfigView) (x : OfferedAttempt) (output : StepOutput) → OfferedHasNoInjection acks x → OutputHasNoInjection acks output →
    OutputHasNoInjection acks (with_attempt_cancel config x output)
cancelled_attempt_no_injection acks config x output t had = cancelled_no_injection acks config.sip x.attempt.invite output t.sent_in had

-- ---- provisional responses

tried_no_injection : (acks : List ReceivedAck) (key : TKey) (x : OfferedAttempt) (c : Call) (output : StepOutput) → OfferedHasNoInjection acks x → CallHasNoInjection acks c →
    OutputHasNoInjection acks output → StepHasNoInjection acks (on_trying key x c output)
tried_no_injection acks key x c output t k had = record { kept = k; phase = record { caller_in = t.caller_in; callee_in = t.callee_in; service_in = t.service_in; sent_in = t.sent_in }; output = had }

abbrev CalleeHasNoInjection : AttemptLegView → Type 0
CalleeHasNoInjection callee = LegDialogHasNoInjection callee.leg.dialogue

leg_with_remote_no_injection : (o : Option Remote) (callee : AttemptLegView) → IfSome o RemoteHasNoInjection → CalleeHasNoInjection callee → CalleeHasNoInjection (leg_with_remote o callee)
leg_with_remote_no_injection None callee e is = is
leg_with_remote_no_injection (Some remote) callee e is = (met_no_injection callee.leg.dialogue remote is.0 e, is.1)

early_remote_no_injection : (callee : AttemptLegView) (m : MessageView) → ParsedMessageHasNoInjection m.parsed → IfSome (early_remote_of callee m) RemoteHasNoInjection
early_remote_no_injection callee m received = by (callee.is_early || length (to_tag_of m) == 0)
  where
    by : (t : Bool) → IfSome (if t then None else Some (remote_of Callee m.parsed.lines)) RemoteHasNoInjection
    by true = tt
    by false = remote_no_injection Callee m.parsed.lines received.lines_in

callee_after_no_injection : (callee : AttemptLegView) (m : MessageView) → ParsedMessageHasNoInjection m.parsed → CalleeHasNoInjection callee → CalleeHasNoInjection (callee_after callee m)
callee_after_no_injection callee m received is = leg_with_remote_no_injection (early_remote_of callee m) callee (early_remote_no_injection callee m received) is

armed_in_no_injection : (acks : List ReceivedAck) (time : Option ℕ) (at : ℕ) (attempt : Attempt) (c : Call) (output : StepOutput) → OutputHasNoInjection acks output →
    OutputHasNoInjection acks (with_no_reply_timer_in time at attempt c output)
armed_in_no_injection acks None at attempt c output had = had
armed_in_no_injection acks (Some time) at attempt c output had = emit_no_injection acks (emit.Arm c.opening.number (due.NoReply attempt.number) (at + time)) output tt had

armed_no_injection : (acks : List ReceivedAck) (code at : ℕ) (attempt : Attempt) (c : Call) (output : StepOutput) → OutputHasNoInjection acks output →
    OutputHasNoInjection acks (with_no_reply_timer code at attempt c output)
armed_no_injection acks code at attempt c output had =
    if_output acks (rings code && not attempt.rang) (with_no_reply_timer_in (no_reply_time_of (service_sheet attempt.service)) at attempt c output) output
    (armed_in_no_injection acks (no_reply_time_of (service_sheet attempt.service)) at attempt c output had) had

proceeded_no_injection : (acks : List ReceivedAck) (x : OfferedAttempt) (key : TKey) (m : MessageView) (code : ℕ) → ParsedMessageHasNoInjection m.parsed → OfferedHasNoInjection acks x →
    OfferedHasNoInjection acks (attempt_after_provisional x key m code)
proceeded_no_injection acks x key m code is t = record {
  caller_in = t.caller_in;
  callee_in = callee_after_no_injection x.callee m is t.callee_in;
  service_in = t.service_in;
  sent_in = early_no_injection acks (early_remote_of x.callee m) x.attempt.invite (early_remote_no_injection x.callee m is) t.sent_in;
}

plainly_no_injection : (acks : List ReceivedAck) (config : CallConfigView) (at : ℕ) (x : OfferedAttempt) (key : TKey) (m : MessageView) (code : ℕ) (c : Call) (output : StepOutput) →
    ParsedMessageHasNoInjection m.parsed → OfferedHasNoInjection acks x → CallHasNoInjection acks c → OutputHasNoInjection acks output → StepHasNoInjection acks (on_plain_provisional config at x key m code c output)
plainly_no_injection acks config at x key m code c output is t k had = record {
  kept = k;
  phase = proceeded_no_injection acks x key m code is t;
  output = armed_no_injection acks code at x.attempt c (with_relay_to_caller config c x.attempt.service m output) (relayed_to_caller_no_injection acks config c x.attempt.service m output k is had);
}

relayed_if_no_injection : (acks : List ReceivedAck) (o : Option ℕ) (rseq : ℕ) (config : CallConfigView) (at : ℕ) (x : OfferedAttempt) (key : TKey) (m : MessageView) (code : ℕ) (c : Call) (output : StepOutput) →
    ParsedMessageHasNoInjection m.parsed → OfferedHasNoInjection acks x → CallHasNoInjection acks c → OutputHasNoInjection acks output →
    StepHasNoInjection acks (on_numbered_provisional o rseq config at x key m code c output)
relayed_if_no_injection acks None rseq config at x key m code c output is t k had = tried_no_injection acks key x c output t k had
relayed_if_no_injection acks (Some own) rseq config at x key m code c output is t k had =
    let told : StepOutput = with_reliable_response config c x.attempt.service own m output in
    record {
      kept = k;
      phase = proceeded_no_injection acks x key m code is t;
      output = emit_no_injection acks (emit.Arm c.opening.number (due.NoPrack own) (at + prack_time)) (with_no_reply_timer code at x.attempt c told) tt
          (armed_no_injection acks code at x.attempt c told (reliably_no_injection acks config c x.attempt.service own m output k is had));
    }

proceeding_by_no_injection : (acks : List ReceivedAck) (o : Option ℕ) (config : CallConfigView) (at : ℕ) (x : OfferedAttempt) (key : TKey) (m : MessageView) (code : ℕ) (c : Call) (output : StepOutput) →
    ParsedMessageHasNoInjection m.parsed → OfferedHasNoInjection acks x → CallHasNoInjection acks c → OutputHasNoInjection acks output → StepHasNoInjection acks (on_provisional_by o config at x key m code c output)
proceeding_by_no_injection acks None config at x key m code c output is t k had = plainly_no_injection acks config at x key m code c output is t k had
proceeding_by_no_injection acks (Some rseq) config at x key m code c output is t k had = relayed_if_no_injection acks (own_rseq_for rseq x m c) rseq config at x key m code c output is t k had

proceeding_no_injection : (acks : List ReceivedAck) (config : CallConfigView) (at : ℕ) (x : OfferedAttempt) (key : TKey) (m : MessageView) (code : ℕ) (c : Call) (output : StepOutput) →
    ParsedMessageHasNoInjection m.parsed → OfferedHasNoInjection acks x → CallHasNoInjection acks c → OutputHasNoInjection acks output → StepHasNoInjection acks (on_provisional config at x key m code c output)
proceeding_no_injection acks config at x key m code c output is t k had = proceeding_by_no_injection acks (reliable_number config c.opening m) config at x key m code c output is t k had

-- ---- 2xx

answered_no_injection_transition : (acks : List ReceivedAck) (config : CallConfigView) (at : ℕ) (x : OfferedAttempt) (key : TKey) (m : MessageView) (c : Call) (output : StepOutput) →
    ParsedMessageHasNoInjection m.parsed → OfferedHasNoInjection acks x → CallHasNoInjection acks c → OutputHasNoInjection acks output → StepHasNoInjection acks (on_answer config at x key m c output)
answered_no_injection_transition acks config at x key m c output is t k had = record {
  kept = record {
    opening_in = k.opening_in;
    history_in = k.history_in;
    abandoned_in = k.abandoned_in;
    answered_in = each_append (AnsweredHasNoInjection acks) c.answered_invites (new_answered_invite key m false x.attempt.invite ∷ []) k.answered_in (t.sent_in, tt);
    in_flight_in = k.in_flight_in;
  };
  phase = record {
    legs_in = record {
      caller_in = t.caller_in;
      callee_in = (met_no_injection x.callee.leg.dialogue (remote_of Callee m.parsed.lines) t.callee_in.0 (remote_no_injection Callee m.parsed.lines is.lines_in), t.callee_in.1);
    };
    stage_in = tt;
  };
  output =
      let given : StepOutput = with_relay_to_caller config c x.attempt.service m output in
      expiry_no_injection acks config at m c (with_ack_timer at c given) (awaiting_no_injection acks at c given (relayed_to_caller_no_injection acks config c x.attempt.service m output k is had));
}

-- ---- a final response from 300, a timeout, the deadlines of the attempt

failed_no_injection : (acks : List ReceivedAck) (config : CallConfigView) (now : SnapshotView) (x : OfferedAttempt) (key : TKey) (m : MessageView) (code : ℕ) (c : Call) (output : StepOutput) →
    IsGood config now → ParsedMessageHasNoInjection m.parsed → OfferedHasNoInjection acks x → CallHasNoInjection acks c → OutputHasNoInjection acks output →
    StepHasNoInjection acks (on_failure config now x key m code c output)
failed_no_injection acks config now x key m code c output good is t k had =
    goes_on_no_injection acks config now x (end_by_final code (redirect_of m) x.attempt.rang) (Some m) c (with_final_ack config.sip key x.attempt.invite m.parsed output) good t
    (final_no_injection code (redirect_of m) x.attempt.rang (redirect_no_injection m.parsed.redirect)) is k (final_acked_no_injection acks config.sip key x.attempt.invite m.parsed output t.sent_in is had)

pub response_transition : (acks : List ReceivedAck) (config : CallConfigView) (now : SnapshotView) (x : OfferedAttempt) (key : TKey) (m : MessageView) (code : ℕ) (c : Call) (output : StepOutput) →
    IsGood config now → ParsedMessageHasNoInjection m.parsed → OfferedHasNoInjection acks x → CallHasNoInjection acks c → OutputHasNoInjection acks output →
    StepHasNoInjection acks (on_response config now x key m code c output)
response_transition acks config now x key m code c output good is t k had =
    if_step acks (nat_lt code 101) (on_trying key x c output)
    (if nat_lt code 200 then on_provisional config now.at x key m code c output else if nat_lt code 300 then on_answer config now.at x key m c output else on_failure config now x key m code c output)
    (tried_no_injection acks key x c output t k had)
    (if_step acks (nat_lt code 200) (on_provisional config now.at x key m code c output) (if nat_lt code 300 then on_answer config now.at x key m c output else on_failure config now x key m code c output)
    (proceeding_no_injection acks config now.at x key m code c output is t k had)
    (if_step acks (nat_lt code 300) (on_answer config now.at x key m c output) (on_failure config now x key m code c output)
    (answered_no_injection_transition acks config now.at x key m c output is t k had)
    (failed_no_injection acks config now x key m code c output good is t k had)))

abbrev offered_call : OfferedAttempt → Call → Call
offered_call x c = record c { phase = Offered x }

pub timeout_transition : (acks : List ReceivedAck) (config : CallConfigView) (now : SnapshotView) (x : OfferedAttempt) (c : Call) (output : StepOutput) → IsGood config now →
    OfferedHasNoInjection acks x → CallHasNoInjection acks c → OutputHasNoInjection acks output → StepHasNoInjection acks (on_timeout config now x (offered_call x c) output)
timeout_transition acks config now x c output good t k had =
    if_step acks x.attempt.rang (step_result (offered_call x c) output) (after_attempt config now x (NotReachable 408) None (offered_call x c) output)
    (onward_no_injection acks (offered_call x c) output k t had) (goes_on_no_injection acks config now x (NotReachable 408) None (offered_call x c) output good t tt tt k had)

timed_out_no_injection : (acks : List ReceivedAck) (config : CallConfigView) (now : SnapshotView) (x : OfferedAttempt) (how : AttemptEndView) (c : Call) (output : StepOutput) → IsGood config now →
    OfferedHasNoInjection acks x → EndHasNoInjection how → CallHasNoInjection acks c → OutputHasNoInjection acks output → StepHasNoInjection acks (on_attempt_timeout config now x how c output)
timed_out_no_injection acks config now x how c output good t e k had =
    goes_on_no_injection acks config now x how None (call_without_attempt x c) (with_attempt_cancel config x output) good t e tt (left_kept acks x c t k) (cancelled_attempt_no_injection acks config x output t had)

time_ends : (rang : Bool) → EndHasNoInjection (end_by_time rang)
time_ends true = tt
time_ends false = tt

given_up_by_no_injection : (acks : List ReceivedAck) (cause : Cause) (config : CallConfigView) (at : ℕ) (x : OfferedAttempt) (c : Call) (output : StepOutput) → OfferedHasNoInjection acks x →
    CallHasNoInjection acks c → OutputHasNoInjection acks output →
    StepHasNoInjection acks (end_before_answer cause config at x c output)
given_up_by_no_injection acks cause config at x c output t k had =
    let told : StepOutput = with_status_to_caller config c (status_of cause) output in
    over_no_injection acks at cause x.caller.meter x.callee.leg.meter (call_without_attempt x c) (with_attempt_cancel config x told) (left_kept acks x c t k)
    (cancelled_attempt_no_injection acks config x told t (status_to_caller_no_injection acks config c (status_of cause) output k had))

pub due_transition : (acks : List ReceivedAck) (config : CallConfigView) (now : SnapshotView) (x : OfferedAttempt) (what : DueWord) (c : Call) (output : StepOutput) → IsGood config now →
    OfferedHasNoInjection acks x → CallHasNoInjection acks c → OutputHasNoInjection acks output → StepHasNoInjection acks (on_due config now x what (offered_call x c) output)
due_transition acks config now x (due.NoReply number) c output good t k had =
    if_step acks (number == x.attempt.number) (on_attempt_timeout config now x NoReply (offered_call x c) output) (step_result (offered_call x c) output)
    (timed_out_no_injection acks config now x NoReply (offered_call x c) output good t tt k had) (onward_no_injection acks (offered_call x c) output k t had)
due_transition acks config now x (due.NoPrack own) c output good t k had =
    if_step acks (has_own own c.acks.waiting) (end_before_answer causes.Unacknowledged config now.at x (offered_call x c) output) (step_result (offered_call x c) output)
    (given_up_by_no_injection acks causes.Unacknowledged config now.at x (offered_call x c) output t k had) (onward_no_injection acks (offered_call x c) output k t had)
due_transition acks config now x (due.Cap number) c output good t k had =
    if_step acks (number == x.attempt.number) (on_attempt_timeout config now x (end_by_time x.attempt.rang) (offered_call x c) output) (step_result (offered_call x c) output)
    (timed_out_no_injection acks config now x (end_by_time x.attempt.rang) (offered_call x c) output good t (time_ends x.attempt.rang) k had) (onward_no_injection acks (offered_call x c) output k t had)
due_transition acks config now x (due.NoAck number) c output good t k had = onward_no_injection acks (offered_call x c) output k t had
due_transition acks config now x (due.Expired number) c output good t k had = onward_no_injection acks (offered_call x c) output k t had

-- ---- the caller abandons the call

given_up_no_injection : (acks : List ReceivedAck) (config : CallConfigView) (at : ℕ) (x : OfferedAttempt) (c : Call) (output : StepOutput) → OfferedHasNoInjection acks x → CallHasNoInjection acks c →
    OutputHasNoInjection acks output → StepHasNoInjection acks (on_caller_cancel config at x c output)
given_up_no_injection acks config at x c output t k had = given_up_by_no_injection acks causes.Cancelled config at x c output t k had

pub cancel_transition : (acks : List ReceivedAck) (config : CallConfigView) (at : ℕ) (x : OfferedAttempt) (key : TKey) (m : MessageView) (invite : TKey) (c : Call) (output : StepOutput) →
    ParsedMessageHasNoInjection m.parsed → OfferedHasNoInjection acks x → CallHasNoInjection acks c → OutputHasNoInjection acks output →
    StepHasNoInjection acks (on_cancel config at x key m invite (offered_call x c) output)
cancel_transition acks config at x key m invite c output is t k had =
    let told : OutputHasNoInjection acks (with_status_to config (offered_call x c) key m 200 output) = replied_to_no_injection acks config (offered_call x c) key m 200 output k is had in
    if_step acks (invite.0 == c.opening.key.0) (on_caller_cancel config at x (offered_call x c) (with_status_to config (offered_call x c) key m 200 output))
    (step_result (offered_call x c) (with_status_to config (offered_call x c) key m 200 output))
    (given_up_no_injection acks config at x (offered_call x c) (with_status_to config (offered_call x c) key m 200 output) t k told)
    (onward_no_injection acks (offered_call x c) (with_status_to config (offered_call x c) key m 200 output) k t told)

received_transition : (acks : List ReceivedAck) (config : CallConfigView) (at : ℕ) (x : OfferedAttempt) (side : Side) (key : TKey) (m : MessageView) (c : Call) (output : StepOutput) →
    ParsedMessageHasNoInjection m.parsed → OfferedHasNoInjection acks x → CallHasNoInjection acks c → OutputHasNoInjection acks output →
    StepHasNoInjection acks (on_valid_request config at x side key m (offered_call x c) output)
received_transition acks config at x Caller key m c output is t k had =
    if_step acks (is_bye m) (on_caller_cancel config at x (offered_call x c) (with_status_to config (offered_call x c) key m 200 output)) (on_other config x Caller key m (offered_call x c) output)
    (given_up_no_injection acks config at x (offered_call x c) (with_status_to config (offered_call x c) key m 200 output) t k (replied_to_no_injection acks config (offered_call x c) key m 200 output k is had))
    (on_other_no_injection acks config x Caller key m (offered_call x c) output is t t k had)
received_transition acks config at x Callee key m c output is t k had = on_other_no_injection acks config x Callee key m (offered_call x c) output is t t k had

received_by_no_injection : (acks : List ReceivedAck) (side : Side) (m : MessageView) (x : OfferedAttempt) → OfferedHasNoInjection acks x → OfferedHasNoInjection acks (attempt_after_request side m x)
received_by_no_injection acks Caller m x t = record { caller_in = t.caller_in; callee_in = t.callee_in; service_in = t.service_in; sent_in = t.sent_in }
received_by_no_injection acks Callee m x t = record { caller_in = t.caller_in; callee_in = t.callee_in; service_in = t.service_in; sent_in = t.sent_in }

request_if_transition :
    (acks : List ReceivedAck) (r : Result (Unit {0}) DialogueFault) (config : CallConfigView) (at : ℕ) (x : OfferedAttempt) (side : Side) (key : TKey) (m : MessageView) (c : Call) (output : StepOutput) →
    ParsedMessageHasNoInjection m.parsed → OfferedHasNoInjection acks x → CallHasNoInjection acks c → OutputHasNoInjection acks output →
    StepHasNoInjection acks (on_request_if r config at x side key m (offered_call x c) output)
request_if_transition acks (Ok received) config at x side key m c output is t k had =
    received_transition acks config at (attempt_after_request side m x) side key m c output is (received_by_no_injection acks side m x t) k had
request_if_transition acks (Err fault) config at x side key m c output is t k had = onward_no_injection acks (offered_call x c) (with_refused_request config (offered_call x c) key m fault output) k t
    (refused_request_no_injection acks config (offered_call x c) key m fault output k is had)

pub request_transition : (acks : List ReceivedAck) (config : CallConfigView) (at : ℕ) (x : OfferedAttempt) (side : Side) (key : TKey) (m : MessageView) (c : Call) (output : StepOutput) →
    ParsedMessageHasNoInjection m.parsed → OfferedHasNoInjection acks x → CallHasNoInjection acks c → OutputHasNoInjection acks output →
    StepHasNoInjection acks (on_request config at x side key m (offered_call x c) output)
request_transition acks config at x side key m c output is t k had = request_if_transition acks (offered_request_check x side m) config at x side key m c output is t k had

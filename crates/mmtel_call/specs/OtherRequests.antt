-- Requests of a call other than the INVITE for which it waits, whatever its phase: INVITEs that were abandoned before they had a final response, and INVITEs that had a 2xx (RFC
-- 3261 §9.1, §13.2.2.4, §17.1.1.3); and requests that are in flight beside them.
use Rattle.std.specs.Prelude.{ℕ, not, Bool, true, false, if◌then◌else◌, Option, Some, None, List, ◌++◌, option_to_list, position, slice_get}
use Rattle.std.specs.Str.{bytes_eq}
use Rattle.mmtel_compose.specs.ReceivedMessages.{MessageView, status_of}
use Rattle.mmtel_output.specs.Outputs.{with_emit}
pub use Rattle.mmtel_output.specs.SentInvites.{is_abandoned_key, is_key, without, without_at}
use Rattle.mmtel_output.specs.AbandonedInvites.{AfterResponse, is_of_branch, on_response}
use Rattle.mmtel_output.specs.declared.outputs.StepOutput.{StepOutput}
use Rattle.mmtel_output.specs.declared.sent_invites.AbandonedInvite.{AbandonedInvite}
use Rattle.mmtel_transaction.specs.declared.words.Emit.TheVariants as emit
use Rattle.mmtel_transaction.specs.declared.words.TKey.{TKey}
pub use Rattle.mmtel_sip_rules.specs.Statuses.{is_success}
use Rattle.mmtel_call_services.specs.Requests.{is_of_dialog}
use Rattle.mmtel_call_services.specs.CallConfig.{CallConfigView}
use Rattle.mmtel_call.specs.Calls.{Answered, AnsweredInvite, Call, Departing, Detached, Established, Offered, Over, Phase, Reinviting, Stable, Stage}
use Rattle.mmtel_call.specs.Closing.{StepResult, step_result}
use Rattle.mmtel_call.specs.RelayedTransactions.{is_in_flight, on_response_in_flight, on_timeout_in_flight}
use Rattle.mmtel_call.specs.Ringing.{to_tag_of}

-- ---- an abandoned INVITE

-- what remains of it is placed last in the list
abbrev pub with_abandoned_rest : (at : ℕ) → AfterResponse → Call → StepResult
with_abandoned_rest at rest c = record { call = record c { abandoned = without_at at c.abandoned ++ option_to_list rest.remaining }; output = rest.output }

-- a response to it: after a provisional one the CANCEL that was due is sent, a 2xx gets its ACK and its dialog the BYE, a final response from 300 gets its ACK and ends it
abbrev pub on_response_abandoned : CallConfigView → TKey → MessageView → (at : ℕ) → Option AbandonedInvite → Call → StepOutput → StepResult
on_response_abandoned config key m at None c output = step_result c output
on_response_abandoned config key m at (Some l) c output = with_abandoned_rest at (on_response config.sip key m.parsed l output) c

-- ---- an INVITE that had a 2xx

abbrev pub is_answered_invite : (branch : List ℕ) → AnsweredInvite → Bool
is_answered_invite branch t = bytes_eq t.invite.branch branch

-- whether a 2xx is of another dialog than the one that was established
abbrev pub is_fork : AnsweredInvite → MessageView → Bool
is_fork t m = not (is_of_dialog t.in_dialog t.tag (to_tag_of m))

abbrev pub is_stable_at : Stage → Bool
is_stable_at (Answered side success) = false
is_stable_at (Departing side success) = false
is_stable_at Stable = true
is_stable_at (Reinviting side q) = false

abbrev pub is_stable : Phase → Bool
is_stable (Offered x) = false
is_stable (Established x stage) = is_stable_at stage
is_stable (Detached detached) = false
is_stable (Over cause) = false

-- as an abandoned INVITE: such a dialog gets its ACK, and the BYE once
abbrev pub as_abandoned : AnsweredInvite → AbandonedInvite
as_abandoned t = record { invite = t.invite; in_dialog = false }

abbrev pub answered_after : AnsweredInvite → Option AbandonedInvite → Option AnsweredInvite
answered_after t None = None
answered_after t (Some l) = Some (record t { invite = l.invite })

-- what remains of it is placed last in the list
abbrev pub with_answered_rest : (at : ℕ) → AnsweredInvite → AfterResponse → Call → StepResult
with_answered_rest at t rest c =
    record { call = record c { answered_invites = without_at at c.answered_invites ++ option_to_list (answered_after t rest.remaining) }; output = rest.output }

abbrev pub on_forked_response : CallConfigView → TKey → MessageView → (at : ℕ) → AnsweredInvite → Call → StepOutput → StepResult
on_forked_response config key m at t c output = with_answered_rest at t (on_response config.sip key m.parsed (as_abandoned t) output) c

-- the ACK that was sent is sent again
abbrev pub with_retransmitted_ack : AnsweredInvite → Option (List ℕ) → StepOutput → StepOutput
with_retransmitted_ack t None output = output
with_retransmitted_ack t (Some text) output = with_emit (emit.Plain t.invite.dialogue.peer text) output

abbrev pub on_retransmitted_success : AnsweredInvite → Call → StepOutput → StepResult
on_retransmitted_success t c output = step_result c (if is_stable c.phase then with_retransmitted_ack t t.invite.ack output else output)

-- a response to it: a 2xx of another dialog, or a retransmission of the 2xx that was received; any other is too late
abbrev pub on_response_answered : CallConfigView → TKey → MessageView → (at : ℕ) → Option AnsweredInvite → Call → StepOutput → StepResult
on_response_answered config key m at None c output = step_result c output
on_response_answered config key m at (Some t) c output =
    if not (is_success (status_of m.parsed.start)) then step_result c output
    else if is_fork t m then on_forked_response config key m at t c output
    else on_retransmitted_success t c output

-- ---- by the branch of the request

abbrev pub on_response_answered_at : CallConfigView → (at : ℕ) → TKey → MessageView → (branch : List ℕ) → Option ℕ → Call → StepOutput → StepResult
on_response_answered_at config at key m branch None c output = on_response_in_flight config at m (position (is_in_flight branch) c.relayed) c output
on_response_answered_at config at key m branch (Some place) c output = on_response_answered config key m place (slice_get c.answered_invites place) c output

abbrev pub on_other_response_at : CallConfigView → (at : ℕ) → TKey → MessageView → (branch : List ℕ) → Option ℕ → Call → StepOutput → StepResult
on_other_response_at config at key m branch None c output = on_response_answered_at config at key m branch (position (is_answered_invite branch) c.answered_invites) c output
on_other_response_at config at key m branch (Some place) c output = on_response_abandoned config key m place (slice_get c.abandoned place) c output

unfoldable pub on_other_response : CallConfigView → (at : ℕ) → TKey → MessageView → (branch : List ℕ) → Call → StepOutput → StepResult
on_other_response config at key m branch c output = on_other_response_at config at key m branch (position (is_of_branch branch) c.abandoned) c output

-- a timeout ends an abandoned INVITE
abbrev pub without_timed_out : (branch : List ℕ) → Call → Call
without_timed_out branch c = record c { abandoned = without (position (is_of_branch branch) c.abandoned) c.abandoned }

-- and has the effect of a final response to a request that is in flight
abbrev pub on_other_timeout_at : CallConfigView → (branch : List ℕ) → Option ℕ → Call → StepOutput → StepResult
on_other_timeout_at config branch None c output = on_timeout_in_flight config (position (is_in_flight branch) c.relayed) c output
on_other_timeout_at config branch (Some at) c output = step_result (without_timed_out branch c) output

abbrev pub on_other_timeout : CallConfigView → (branch : List ℕ) → Call → StepOutput → StepResult
on_other_timeout config branch c output = on_other_timeout_at config branch (position (is_of_branch branch) c.abandoned) c output

-- ---- by its client transaction

abbrev pub is_answered_key : TKey → AnsweredInvite → Bool
is_answered_key key t = is_key key t.invite.key

-- nothing more is received for the INVITE whose transaction has ended
abbrev pub without_key : TKey → Call → Call
without_key key c = record c {
  abandoned = without (position (is_abandoned_key key) c.abandoned) c.abandoned;
  answered_invites = without (position (is_answered_key key) c.answered_invites) c.answered_invites;
}

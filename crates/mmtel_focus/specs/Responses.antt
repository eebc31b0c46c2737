-- The results of the server's INVITE to a participant (RFC 3261 §13.2.2, RFC 3515 §2.4.5): its responses, a timeout, and its timers; and a 2xx without ACK (RFC 3261 §13.3.1.4).
use Rattle.std.specs.Prelude.{ℕ, ◌&&◌, not, nat_lt, false, if◌then◌else◌, Option, Some, None, List, slice_set}
use Rattle.std.specs.Str.{bytes_eq}
pub use Rattle.mmtel_compose.specs.ReceivedMessages.{to_tag_of}
use Rattle.mmtel_compose.specs.ReceivedMessages.{MessageView, phrase_in, status_of}
use Rattle.mmtel_output.specs.Outputs.{token, with_emit}
use Rattle.mmtel_output.specs.Sending.{ack_text, with_ack}
use Rattle.mmtel_leg.specs.Remotes.{remote_of}
use Rattle.mmtel_leg.specs.declared.remotes.Remote.{Remote}
use Rattle.mmtel_transaction.specs.declared.words.Emit.TheVariants as emit
use Rattle.mmtel_transaction.specs.declared.words.RoomWord.{RoomWord}
use Rattle.mmtel_transaction.specs.declared.words.RoomWord.TheVariants as due
use Rattle.mmtel_transaction.specs.declared.words.TKey.{TKey}
use Rattle.mmtel_types.specs.declared.numbers.RoomNo.{RoomNo}
use Rattle.mmtel_types.specs.declared.sides.Side.TheVariants.{Callee}
use Rattle.mmtel_focus.specs.Conferences.{Accepted, Invite, Outstanding, ParticipantState, StepResult, with_output}
use Rattle.mmtel_focus.specs.Requests.{is_invite_outstanding}
use Rattle.mmtel_focus.specs.Participants.{after_close_with, after_dismissal, after_notify_referrer, at_participant, dialogue_of, is_connected, with_participant}
use Rattle.mmtel_focus.specs.ConferenceConfig.{ConferenceConfigView}
use Rattle.mmtel_focus.specs.Texts.{own_status, status_line}
use Rattle.mmtel_participants.specs.Invites.{accepted_invite, connected_participant, has_outstanding_number, invite_after_due_cancel}
use Rattle.mmtel_participants.specs.Invites.{invite_with_provisional, is_ack_pending, with_failure_ack, with_invite_cancel}
pub use Rattle.mmtel_participants.specs.Invites.{accepted_invite, connected_participant, connected_party, has_outstanding_number}
pub use Rattle.mmtel_participants.specs.Invites.{invite_after_due_cancel, invite_with_provisional, is_ack_pending, with_failure_ack, with_invite_cancel}
pub use Rattle.mmtel_sip_rules.specs.Statuses.{is_provisional, is_success}

-- ---- a provisional response

abbrev pub on_provisional : TKey → (place : ℕ) → ParticipantState → StepResult → StepResult
on_provisional key place seat s = with_participant place (record seat { invite = invite_with_provisional key seat.invite }) s

-- ---- a 2xx: ACK is sent in its dialog, and the participant that sent the REFER is notified

abbrev pub participants_with_connected : RoomNo → (now : ℕ) → Remote → (place : ℕ) → Option ParticipantState → List ParticipantState → List ParticipantState
participants_with_connected room now remote place None seats = seats
participants_with_connected room now remote place (Some seat) seats = slice_set seats place (connected_participant room now remote seat)

abbrev pub after_connect : (now : ℕ) → Remote → (place : ℕ) → ParticipantState → StepResult → StepResult
after_connect now remote place seat s =
    record s { conference = record s.conference { participants = participants_with_connected s.conference.number now remote place (Some seat) s.conference.participants } }

abbrev pub after_own_ack : ConferenceConfigView → (tag : List ℕ) → (place : ℕ) → ParticipantState → StepResult → StepResult
after_own_ack config tag place seat s =
    with_output (with_ack config.sip (dialogue_of seat) s.effects.output)
    (with_participant place (record seat { invite = accepted_invite tag (ack_text config.sip (dialogue_of seat) (token s.effects.output)) seat.invite }) s)

abbrev pub on_success : ConferenceConfigView → (now : ℕ) → MessageView → (place : ℕ) → ParticipantState → StepResult → StepResult
on_success config now m place seat s =
    after_notify_referrer config false (own_status 200) seat.by
    (at_participant (after_own_ack config (to_tag_of m)) place (after_connect now (remote_of Callee m.parsed.lines) place seat s))

-- ---- it ends without a 2xx

-- the participant leaves, with BYE where it is connected, and the participant that sent the REFER is notified
abbrev pub after_end : ConferenceConfigView → (now : ℕ) → (line : List ℕ) → (place : ℕ) → ParticipantState → StepResult → StepResult
after_end config now line place seat s = after_notify_referrer config false line seat.by (after_dismissal config now place seat s)

-- the INVITE has ended, and is not abandoned
abbrev pub after_invite_end : ConferenceConfigView → (now : ℕ) → (line : List ℕ) → (place : ℕ) → ParticipantState → StepResult → StepResult
after_invite_end config now line place seat s = at_participant (after_end config now line) place (with_participant place (record seat { invite = None }) s)

abbrev pub on_failure : ConferenceConfigView → (now : ℕ) → TKey → MessageView → (place : ℕ) → ParticipantState → StepResult → StepResult
on_failure config now key m place seat s =
    after_invite_end config now (status_line (status_of m.parsed.start) (phrase_in m.parsed.start)) place seat
    (with_output (with_failure_ack config.sip key m seat.invite s.effects.output) s)

-- ---- a further 2xx after one that was acknowledged: the ACK is retransmitted for one with the same tag

abbrev pub after_ack_retransmission : (ack : List ℕ) → ParticipantState → StepResult → StepResult
after_ack_retransmission ack seat s = with_output (with_emit (emit.Plain (dialogue_of seat).peer ack) s.effects.output) s

abbrev pub on_retransmission : MessageView → (tag ack : List ℕ) → (place : ℕ) → ParticipantState → StepResult → StepResult
on_retransmission m tag ack place seat s = if is_success (status_of m.parsed.start) && bytes_eq (to_tag_of m) tag then after_ack_retransmission ack seat s else s

-- ---- any response, with its client transaction

abbrev pub on_outstanding_response : ConferenceConfigView → (now : ℕ) → TKey → MessageView → (place : ℕ) → ParticipantState → StepResult → StepResult
on_outstanding_response config now key m place seat s =
    if is_provisional (status_of m.parsed.start) then on_provisional key place seat s
    else if nat_lt (status_of m.parsed.start) 300 then on_success config now m place seat s
    else on_failure config now key m place seat s

abbrev pub on_response_to : Option Invite → ConferenceConfigView → (now : ℕ) → TKey → MessageView → (place : ℕ) → ParticipantState → StepResult → StepResult
on_response_to None config now key m place seat s = s
on_response_to (Some (Outstanding number i)) config now key m place seat s = on_outstanding_response config now key m place seat s
on_response_to (Some (Accepted branch tag ack)) config now key m place seat s = on_retransmission m tag ack place seat s

unfoldable pub on_any_response : ConferenceConfigView → (now : ℕ) → TKey → MessageView → (place : ℕ) → ParticipantState → StepResult → StepResult
on_any_response config now key m place seat s = on_response_to seat.invite config now key m place seat s

-- ---- a timeout has the effect of a 408 of the server's own

unfoldable pub on_timeout : ConferenceConfigView → (now : ℕ) → (place : ℕ) → ParticipantState → StepResult → StepResult
on_timeout config now place seat s = if is_invite_outstanding seat.invite then after_invite_end config now (own_status 408) place seat s else s

-- ---- timers; one whose invitation or 2xx no longer waits for it has no effect

-- an invited party has rung too long: CANCEL where a provisional response was received, and the INVITE is abandoned
abbrev pub after_ringing_limit : ConferenceConfigView → (now : ℕ) → (place : ℕ) → ParticipantState → StepResult → StepResult
after_ringing_limit config now place seat s =
    at_participant (after_end config now (own_status 408)) place
    (with_participant place (record seat { invite = invite_after_due_cancel seat.invite }) (with_output (with_invite_cancel config.sip seat.invite s.effects.output) s))

-- a party that is connected does not ring
abbrev pub on_cap : ConferenceConfigView → (now : ℕ) → (due : ℕ) → (place : ℕ) → ParticipantState → StepResult → StepResult
on_cap config now due place seat s = if not (is_connected seat) && has_outstanding_number due seat.invite then after_ringing_limit config now place seat s else s

-- no ACK was received: the participant leaves
abbrev pub after_missing_ack : ConferenceConfigView → (now : ℕ) → (place : ℕ) → ParticipantState → StepResult → StepResult
after_missing_ack config now place seat s = after_close_with config now seat.number (after_dismissal config now place seat s)

abbrev pub on_no_ack : ConferenceConfigView → (now : ℕ) → (due : ℕ) → (place : ℕ) → ParticipantState → StepResult → StepResult
on_no_ack config now due place seat s = if is_ack_pending due seat.pending_ack then after_missing_ack config now place seat s else s

unfoldable pub on_due : ConferenceConfigView → (now : ℕ) → RoomWord → (place : ℕ) → ParticipantState → StepResult → StepResult
on_due config now (due.Cap number) place seat s = on_cap config now number place seat s
on_due config now (due.NoAck number) place seat s = on_no_ack config now number place seat s

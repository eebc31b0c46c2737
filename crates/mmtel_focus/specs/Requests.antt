-- The requests of a participant in its dialog: INVITE, BYE (RFC 3261 §14, §15), REFER (RFC 3515), OPTIONS (RFC 3261 §11), and all others; and the ACK of a 2xx (§13.2.2.4).
use Rattle.std.specs.Prelude.{ℕ, Bool, true, false, if◌then◌else◌, Option, Some, None, List, [], codes, Result, Ok, Err}
use Rattle.mmtel_base.specs.Numbers.{next_number}
use Rattle.mmtel_compose.specs.Responses.{allow_lines, retry_after_lines}
use Rattle.mmtel_compose.specs.ReceivedMessages.{MessageView}
use Rattle.mmtel_output.specs.Sending.{with_contact_response, with_response, with_status_response}
use Rattle.mmtel_leg.specs.declared.dialogues.DialogueFault.{DialogueFault}
use Rattle.mmtel_leg.specs.declared.dialogues.DialogueFault.TheVariants.{OldCSeq, Pending, Unfinished}
use Rattle.mmtel_message.specs.Faults.{is_method}
use Rattle.mmtel_message.specs.Message.{Line}
use Rattle.mmtel_sdp.specs.Offers.{offers_audio}
use Rattle.mmtel_transaction.specs.declared.words.TKey.{TKey}
use Rattle.mmtel_focus.specs.Joining.{after_refer, with_accepted_invite}
use Rattle.mmtel_focus.specs.Referrals.{referral_in}
use Rattle.mmtel_focus.specs.Conferences.{ParticipantState, PendingAck, StepResult, with_output}
use Rattle.mmtel_focus.specs.Participants.{after_close_with, after_leave, after_notify_to, at_participant, is_connected, leg_of, tag_of, with_participant}
use Rattle.mmtel_focus.specs.ConferenceConfig.{ConferenceConfigView}
use Rattle.mmtel_focus.specs.Texts.{contact_value, own_status}
use Rattle.mmtel_focus.specs.declared.referrals.Referral.{Referral}
use Rattle.mmtel_focus.specs.declared.referrals.Referral.TheVariants as referral
use Rattle.mmtel_participants.specs.DialogRequests.{invite_in_flight, number_of, participant_after_request, request_check, with_pending_ack}
pub use Rattle.mmtel_participants.specs.DialogRequests.{invite_in_flight, invite_in_flight_by, leg_after_request, number_of}
pub use Rattle.mmtel_participants.specs.DialogRequests.{participant_after_request, request_check, with_pending_ack}
pub use Rattle.mmtel_participants.specs.Invites.{is_invite_outstanding}
pub use Rattle.mmtel_sip_rules.specs.Requests.{is_number, is_same_number}

-- ---- responses, with the tag of the participant's dialog

abbrev pub after_refusal : ConferenceConfigView → TKey → MessageView → (code : ℕ) → (place : ℕ) → ParticipantState → StepResult → StepResult
after_refusal config key m code place seat s = with_output (with_status_response config.sip key m (tag_of seat) code s.effects.output) s

-- with these header fields
abbrev pub after_response : ConferenceConfigView → TKey → MessageView → (code : ℕ) → (named : List Line) → (place : ℕ) → ParticipantState → StepResult → StepResult
after_response config key m code named place seat s = with_output (with_response config.sip key m (tag_of seat) code [] named [] s.effects.output) s

-- ---- INVITE: the mixer's answer to an offer of audio, and 488 to any other

abbrev pub with_next_number : StepResult → StepResult
with_next_number s = record s { conference = record s.conference { last_number = next_number s.conference.last_number } }

abbrev pub after_reinvite : ConferenceConfigView → (now : ℕ) → TKey → MessageView → (place : ℕ) → ParticipantState → StepResult → StepResult
after_reinvite config now key m place seat s =
    with_output (with_accepted_invite config now s.conference.number seat.number (next_number s.conference.last_number) key m (tag_of seat) s.effects.output)
    (with_next_number (with_participant place (with_pending_ack (next_number s.conference.last_number) seat) s))

abbrev pub on_invite : ConferenceConfigView → (now : ℕ) → TKey → MessageView → (place : ℕ) → ParticipantState → StepResult → StepResult
on_invite config now key m place seat s = if offers_audio m.parsed.body then after_reinvite config now key m place seat s else after_refusal config key m 488 place seat s

-- ---- BYE: 200, and the participant leaves

abbrev pub on_bye : ConferenceConfigView → (now : ℕ) → TKey → MessageView → (place : ℕ) → ParticipantState → StepResult → StepResult
on_bye config now key m place seat s = after_close_with config now seat.number (after_leave now false place seat (after_refusal config key m 200 place seat s))

-- ---- REFER

-- 202 names the conference (RFC 3515 §2.2)
abbrev pub after_accepted_refer : ConferenceConfigView → TKey → MessageView → (place : ℕ) → ParticipantState → StepResult → StepResult
after_accepted_refer config key m place seat s =
    with_output (with_contact_response (contact_value config.sip s.conference.number) key m (tag_of seat) 202 [] [] [] s.effects.output) s

-- a party is to be invited: the participant is notified that this is tried, and then of a failure that is known at once
abbrev pub after_trying : ConferenceConfigView → (number : ℕ) → StepResult → StepResult
after_trying config number s = after_notify_to config true (own_status 100) number s

-- where a dialog is to be replaced, 202 alone: what follows is decided by the tables of calls and of conferences
abbrev pub on_referral : ConferenceConfigView → (now : ℕ) → TKey → MessageView → Referral → (place : ℕ) → ParticipantState → StepResult → StepResult
on_referral config now key m referral.Missing place seat s = after_refusal config key m 400 place seat s
on_referral config now key m referral.OtherMethod place seat s = after_refusal config key m 403 place seat s
on_referral config now key m (referral.Invite u) place seat s =
    after_refer config now seat.number u (after_trying config seat.number (after_accepted_refer config key m place seat s))
on_referral config now key m (referral.Replace r) place seat s = after_accepted_refer config key m place seat s

-- ---- a request that was accepted

abbrev pub on_request_in_order : ConferenceConfigView → (now : ℕ) → TKey → MessageView → (place : ℕ) → ParticipantState → StepResult → StepResult
on_request_in_order config now key m place seat s =
    if is_method (codes "INVITE") m.parsed.start then on_invite config now key m place seat s
    else if is_method (codes "BYE") m.parsed.start then on_bye config now key m place seat s
    else if is_method (codes "REFER") m.parsed.start then on_referral config now key m (referral_in m.parsed.refer_to) place seat s
    else if is_method (codes "OPTIONS") m.parsed.start then after_response config key m 200 (allow_lines config.methods) place seat s
    else after_refusal config key m 481 place seat s

-- ---- whether it is accepted

-- one that is out of order, or crosses an INVITE, is refused
abbrev pub after_out_of_order : ConferenceConfigView → TKey → MessageView → DialogueFault → (place : ℕ) → ParticipantState → StepResult → StepResult
after_out_of_order config key m (OldCSeq last) place seat s = after_refusal config key m 500 place seat s
after_out_of_order config key m Pending place seat s = after_refusal config key m 491 place seat s
after_out_of_order config key m Unfinished place seat s = after_response config key m 500 retry_after_lines place seat s

abbrev pub on_checked_request : ConferenceConfigView → (now : ℕ) → TKey → MessageView → Result (Unit {0}) DialogueFault → (place : ℕ) → ParticipantState → StepResult → StepResult
on_checked_request config now key m (Err fault) place seat s = after_out_of_order config key m fault place seat s
on_checked_request config now key m (Ok received) place seat s =
    at_participant (on_request_in_order config now key m) place (with_participant place (participant_after_request m seat) s)

-- a party that is invited and has not answered has no dialog
unfoldable pub on_request : ConferenceConfigView → (now : ℕ) → TKey → MessageView → (place : ℕ) → ParticipantState → StepResult → StepResult
on_request config now key m place seat s =
    if is_connected seat then on_checked_request config now key m (request_check (leg_of seat.party) m (invite_in_flight seat)) place seat s
    else after_refusal config key m 481 place seat s

-- ---- ACK: that of the 2xx whose ACK is due, which has the CSeq number of its INVITE; nothing is sent

abbrev pub acknowledges : MessageView → Option PendingAck → Bool
acknowledges m None = false
acknowledges m (Some awaited) = is_same_number (number_of m) awaited.cseq

unfoldable pub on_ack : MessageView → (place : ℕ) → ParticipantState → StepResult → StepResult
on_ack m place seat s = if acknowledges m seat.pending_ack then with_participant place (record seat { pending_ack = None }) s else s

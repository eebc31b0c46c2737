-- A party is invited into a conference by the REFER of a participant (RFC 4579 §5.5): the dialog that the INVITE creates, the participant, and the result of the REFER where
-- nobody is invited.
use Rattle.std.specs.Prelude.{ℕ, ◌+◌, if◌then◌else◌, Bool, Option, Some, None, Result, Ok, Err, List, [], codes}
use Rattle.mmtel_compose.specs.Attempts.{as_callee, dialogue_to, uri_in_brackets}
use Rattle.mmtel_output.specs.Outputs.{after_draw, token, with_emit}
use Rattle.mmtel_output.specs.SentInvites.{sent_invite}
use Rattle.mmtel_output.specs.Sending.{with_own_request}
use Rattle.mmtel_output.specs.declared.outputs.StepOutput.{StepOutput}
use Rattle.mmtel_leg.specs.declared.dialogues.Dialogue.{Dialogue}
use Rattle.mmtel_lex.specs.Grammar.{uri_text}
use Rattle.mmtel_lex.specs.declared.values.Uri.{Uri}
use Rattle.mmtel_sdp.specs.Mixer.{offer_text}
use Rattle.mmtel_transaction.specs.declared.words.Emit.TheVariants as emit
use Rattle.mmtel_transaction.specs.declared.words.RoomWord.TheVariants as due
use Rattle.mmtel_trust.specs.Accounts.{account_of}
use Rattle.mmtel_trust.specs.Peers.{route_of}
use Rattle.mmtel_types.specs.declared.numbers.Account.{Account}
use Rattle.mmtel_types.specs.declared.numbers.Peer.{Peer}
use Rattle.mmtel_types.specs.declared.numbers.RoomNo.{RoomNo}
use Rattle.mmtel_participants.specs.Participants.{has_no_free_seat}
use Rattle.mmtel_participants.specs.ConferenceConfig.{ConferenceConfigView}
use Rattle.mmtel_participants.specs.Targets.{target_of}
use Rattle.mmtel_participants.specs.Texts.{conference_from, contact_and_sdp_lines}
use Rattle.mmtel_participants.specs.declared.inviting.ReferResult.{ReferResult}
use Rattle.mmtel_participants.specs.declared.inviting.ReferResult.TheVariants.{Refused, Started}
use Rattle.mmtel_participants.specs.declared.numbers.NextNumbers.{NextNumbers}
use Rattle.mmtel_participants.specs.declared.participants.Invite.TheVariants.{Outstanding}
use Rattle.mmtel_participants.specs.declared.participants.Party.TheVariants.{Invited}
use Rattle.mmtel_participants.specs.declared.participants.ParticipantState.{ParticipantState}

-- how long an invited party may ring, in milliseconds
abbrev pub ringing_limit : ℕ
ringing_limit = 180000

-- the dialog of the INVITE to this URI, with a new Call-ID and tag: its local side is the conference, and it names no participant
abbrev pub invitation_dialog : ConferenceConfigView → RoomNo → Peer → (uri : List ℕ) → StepOutput → Dialogue
invitation_dialog config room peer uri output =
    dialogue_to (record { peer = peer; uri = uri; to = uri_in_brackets uri; routes = [] }) (token output) (token (after_draw output))
    (conference_from config.sip room (token (after_draw output)))

-- the INVITE in this dialog, and the timer of its ringing
abbrev pub with_invite_sent : ConferenceConfigView → (now : ℕ) → RoomNo → (seat number : ℕ) → Dialogue → StepOutput → StepOutput
with_invite_sent config now room seat number d output =
    with_emit (emit.ArmSeat room seat (due.Cap number) (now + ringing_limit))
    (with_own_request config.sip (codes "INVITE") d (contact_and_sdp_lines config.sip room) (offer_text config.mixer) output)

-- the participant that is invited by the INVITE of this branch
abbrev pub participant_of_invite : NextNumbers → (by : ℕ) → Option Account → Dialogue → (branch : List ℕ) → ParticipantState
participant_of_invite next by account d branch = record {
  number = next.seat;
  by = Some by;
  account = account;
  pending_ack = None;
  invite = Some (Outstanding next.number (sent_invite d 1 branch));
  party = Invited (record { dialogue = as_callee d; meter = None });
}

-- ---- the result of the REFER, and the output

pub record ReferStep : Type 0 where
  pub result : ReferResult
  pub output : StepOutput

-- the INVITE is sent in this dialog
abbrev pub invite_started : ConferenceConfigView → (now : ℕ) → NextNumbers → (by : ℕ) → Option Account → Dialogue → StepOutput → ReferStep
invite_started config now next by account d output = record {
  result = Started (participant_of_invite next by account d (token output));
  output = with_invite_sent config now next.room next.seat next.number d output;
}

abbrev pub refer_refused : (code : ℕ) → StepOutput → ReferStep
refer_refused code output = record { result = Refused code; output = output }

-- nobody is invited where no route leads there, and else where the conference is full
abbrev pub peer_or_status : Option Peer → (full : Bool) → Result Peer ℕ
peer_or_status None full = Err 404
peer_or_status (Some peer) full = if full then Err 503 else Ok peer

-- two tokens are drawn for the dialog
abbrev pub refer_step_by : ConferenceConfigView → (now : ℕ) → NextNumbers → (by : ℕ) → Uri → Result Peer ℕ → StepOutput → ReferStep
refer_step_by config now next by u (Err code) output = refer_refused code output
refer_step_by config now next by u (Ok peer) output =
    invite_started config now next by (account_of config.accounts u) (invitation_dialog config next.room peer (uri_text (target_of u)) output) (after_draw (after_draw output))

abbrev pub refer_step_at : ConferenceConfigView → (now : ℕ) → NextNumbers → (by : ℕ) → List ParticipantState → Uri → Option Peer → StepOutput → ReferStep
refer_step_at config now next by seats u peer output = refer_step_by config now next by u (peer_or_status peer (has_no_free_seat seats)) output

unfoldable pub refer_step : ConferenceConfigView → (now : ℕ) → NextNumbers → (by : ℕ) → List ParticipantState → Option Uri → StepOutput → ReferStep
refer_step config now next by seats None output = refer_refused 404 output
refer_step config now next by seats (Some u) output = refer_step_at config now next by seats u (route_of u config.peers.routes) output

-- How a party becomes a participant: by an INVITE to the factory or to the conference (RFC 4579 §5.4, §5.1), by an invitation (§5.5), and by a leg moved out of a call (§5.6).
use Rattle.std.specs.Prelude.{ℕ, ◌+◌, Bool, false, true, if◌then◌else◌, Option, Some, None, List, [], ◌∷◌, ◌++◌, codes}
use Rattle.mmtel_compose.specs.ReceivedMessages.{MessageView}
use Rattle.mmtel_charging.specs.Meters.{MeterView}
use Rattle.mmtel_output.specs.Outputs.{after_draw, token, with_emit}
use Rattle.mmtel_output.specs.SentInvites.{sent_invite}
use Rattle.mmtel_output.specs.Sending.{with_contact_response, with_own_request}
use Rattle.mmtel_output.specs.declared.outputs.StepOutput.{StepOutput}
pub use Rattle.mmtel_leg.specs.Legs.{leg_after_invite}
use Rattle.mmtel_leg.specs.Releases.{released_leg}
use Rattle.mmtel_leg.specs.declared.dialogues.Dialogue.{Dialogue}
use Rattle.mmtel_leg.specs.declared.legs.Released.{Released}
use Rattle.mmtel_leg.specs.declared.legs.Released.TheVariants as released
use Rattle.mmtel_lex.specs.Grammar.{uri_text}
use Rattle.mmtel_lex.specs.declared.values.Uri.{Uri}
use Rattle.mmtel_base.specs.Numbers.{next_number}
use Rattle.mmtel_sdp.specs.Mixer.{offer_text}
use Rattle.mmtel_transaction.specs.declared.words.Emit.TheVariants as emit
use Rattle.mmtel_transaction.specs.declared.words.RoomWord.TheVariants as due
use Rattle.mmtel_transaction.specs.declared.words.TKey.{TKey}
use Rattle.mmtel_trust.specs.Accounts.{account_of}
use Rattle.mmtel_trust.specs.Peers.{route_of}
use Rattle.mmtel_types.specs.declared.numbers.Account.{Account}
use Rattle.mmtel_types.specs.declared.numbers.Peer.{Peer}
use Rattle.mmtel_types.specs.declared.numbers.RoomNo.{RoomNo}
use Rattle.mmtel_focus.specs.Referrals.{target_of}
use Rattle.mmtel_focus.specs.Conferences.{Conference, DialedIn, DialedOut, Outstanding, ParticipantState, Party, StepResult, with_output}
use Rattle.mmtel_focus.specs.Participants.{after_notify_to, is_full, meter_of}
use Rattle.mmtel_focus.specs.ConferenceConfig.{ConferenceConfigView}
use Rattle.mmtel_focus.specs.Texts.{answer_in, contact_and_sdp_lines, contact_value, own_status, sdp_lines}
use Rattle.mmtel_participants.specs.Inviting.{invitation_dialog, participant_of_invite, with_invite_sent}
pub use Rattle.mmtel_participants.specs.Inviting.{invitation_dialog, ringing_limit, with_invite_sent}
use Rattle.mmtel_participants.specs.Participants.{leg_with_meter, next_of}
pub use Rattle.mmtel_participants.specs.Participants.{leg_with_meter}
use Rattle.mmtel_participants.specs.declared.numbers.NextNumbers.{NextNumbers}
pub use Rattle.mmtel_sip_rules.specs.Requests.{ack_time}

-- ---- a leg that enters a conference without a meter

-- the party of the leg, with a participant's meter
abbrev pub party_of : Option MeterView → Released → Party
party_of meter (released.Caller leg) = DialedIn (leg_with_meter meter leg)
party_of meter (released.Callee leg) = DialedOut (leg_with_meter meter leg)

-- a new participant is the last of the list, and counts an invitation or a 2xx
abbrev pub with_new_participant : ParticipantState → Conference → Conference
with_new_participant seat room = record room { last_seat = next_number room.last_seat; last_number = next_number room.last_number; participants = room.participants ++ seat ∷ [] }

-- ---- an INVITE that is received gets the mixer's answer

-- the 200, and the timer of its ACK, which has this number in the conference
abbrev pub with_accepted_invite : ConferenceConfigView → (now : ℕ) → RoomNo → (seat number : ℕ) → TKey → MessageView → (tag : List ℕ) → StepOutput → StepOutput
with_accepted_invite config now room seat number key m tag output =
    with_emit (emit.ArmSeat room seat (due.NoAck number) (now + ack_time))
    (with_contact_response (contact_value config.sip room) key m tag 200 [] sdp_lines (answer_in config.mixer m.parsed.body) output)

-- the ACK has the CSeq number of the INVITE, which is the last request that was received
abbrev pub new_participant : (now : ℕ) → Conference → Released → Option Account → ParticipantState
new_participant now room leg account = record {
  number = next_number room.last_seat;
  by = None;
  account = account;
  pending_ack = Some (record { number = next_number room.last_number; cseq = (released_leg leg).dialogue.remote_cseq });
  invite = None;
  party = party_of (meter_of room.number now account) leg;
}

-- a leg joins a conference
unfoldable pub after_join : ConferenceConfigView → (now : ℕ) → Released → Option Account → TKey → MessageView → StepResult → StepResult
after_join config now leg account key m s =
    with_output (with_accepted_invite config now s.conference.number (next_number s.conference.last_seat)
    (next_number s.conference.last_number) key m (released_leg leg).dialogue.local_tag s.effects.output)
    (record s { conference = with_new_participant (new_participant now s.conference leg account) s.conference })

abbrev pub new_conference : RoomNo → Conference
new_conference number = record { number = number; last_seat = 0; last_number = 0; participants = [] }

-- ---- a party is invited

-- the numbers of the conference's next participant
abbrev pub next_in : Conference → NextNumbers
next_in room = next_of room.number room.last_seat room.last_number

abbrev pub invited_participant : Conference → (by : ℕ) → Option Account → Dialogue → (branch : List ℕ) → ParticipantState
invited_participant room by account d branch = participant_of_invite (next_in room) by account d branch

-- in this dialog, for which two tokens were drawn
abbrev pub after_invite_in : ConferenceConfigView → (now by : ℕ) → Option Account → Dialogue → StepResult → StepResult
after_invite_in config now by account d s =
    with_output (with_invite_sent config now s.conference.number (next_number s.conference.last_seat)
    (next_number s.conference.last_number) d (after_draw (after_draw s.effects.output)))
    (record s { conference = with_new_participant (invited_participant s.conference by account d (token (after_draw (after_draw s.effects.output)))) s.conference })

abbrev pub after_invite : ConferenceConfigView → (now by : ℕ) → Peer → Uri → StepResult → StepResult
after_invite config now by peer u s = after_invite_in config now by (account_of config.accounts u)
    (invitation_dialog config s.conference.number peer (uri_text (target_of u)) s.effects.output) s

-- the participant that sent the REFER is notified where no route leads to the URI, and else where the conference is full
abbrev pub after_failure_notify : ConferenceConfigView → (by code : ℕ) → StepResult → StepResult
after_failure_notify config by code s = after_notify_to config false (own_status code) by s

abbrev pub after_invite_if_peer : ConferenceConfigView → (now by : ℕ) → Option Peer → Uri → StepResult → StepResult
after_invite_if_peer config now by None u s = after_failure_notify config by 404 s
after_invite_if_peer config now by (Some peer) u s = if is_full s.conference then after_failure_notify config by 503 s else after_invite config now by peer u s

unfoldable pub after_refer : ConferenceConfigView → (now by : ℕ) → Option Uri → StepResult → StepResult
after_refer config now by None s = after_failure_notify config by 404 s
after_refer config now by (Some u) s = after_invite_if_peer config now by (route_of u config.peers.routes) u s

-- ---- a leg of a call is invited by a re-INVITE, and is a participant from then on

abbrev pub released_after_reinvite : Released → Released
released_after_reinvite (released.Caller leg) = released.Caller (leg_after_invite leg)
released_after_reinvite (released.Callee leg) = released.Callee (leg_after_invite leg)

abbrev pub adopted_participant : (now : ℕ) → Conference → Released → Option Account → (by : ℕ) → (branch : List ℕ) → ParticipantState
adopted_participant now room leg account by branch = record {
  number = next_number room.last_seat;
  by = Some by;
  account = account;
  pending_ack = None;
  invite = Some (Outstanding (next_number room.last_number)
      (sent_invite (leg_after_invite (released_leg leg)).dialogue (next_number (released_leg leg).dialogue.local_cseq) branch));
  party = party_of (meter_of room.number now account) (released_after_reinvite leg);
}

unfoldable pub after_adoption : ConferenceConfigView → (now : ℕ) → Released → Option Account → (by : ℕ) → StepResult → StepResult
after_adoption config now leg account by s =
    with_output (with_own_request config.sip (codes "INVITE") (released_leg leg).dialogue
    (contact_and_sdp_lines config.sip s.conference.number) (offer_text config.mixer) s.effects.output)
    (record s { conference = with_new_participant (adopted_participant now s.conference leg account by (token s.effects.output)) s.conference })

-- both legs are of the same side of their calls
abbrev pub is_same_side : Released → Released → Bool
is_same_side (released.Caller leg) (released.Caller other) = true
is_same_side (released.Caller leg) (released.Callee other) = false
is_same_side (released.Callee leg) (released.Caller other) = false
is_same_side (released.Callee leg) (released.Callee other) = true

-- The participants of a conference: who they are, which number is next and whether the conference is full (RFC 4579 §5.4), how one is notified (RFC 3515 §2.4.4), what is charged
-- for it (TS 32.260 §5), and how it leaves (RFC 4579 §5.11).
use Rattle.std.specs.Prelude.{ℕ, ◌==◌, nat_le, Bool, true, false, if◌then◌else◌, Option, Some, None, List, [], ◌∷◌, ◌++◌, codes, length, position}
use Rattle.std.specs.Option.{option_map}
use Rattle.mmtel_charging.specs.Meters.{MeterView, row_of_meter}
use Rattle.mmtel_charging.specs.declared.rows.Kind.TheVariants.{Participant}
use Rattle.mmtel_output.specs.Outputs.{empty_output, with_row}
use Rattle.mmtel_output.specs.Sending.{with_bye, with_own_request}
use Rattle.mmtel_output.specs.declared.outputs.StepOutput.{StepOutput}
use Rattle.mmtel_output.specs.declared.sent_invites.SentInvite.{SentInvite}
use Rattle.mmtel_output.specs.declared.sent_invites.AbandonedInvite.{AbandonedInvite}
use Rattle.mmtel_leg.specs.Dialogues.{after_request}
use Rattle.mmtel_leg.specs.Legs.{Leg, with_dialogue}
use Rattle.mmtel_leg.specs.declared.dialogues.Dialogue.{Dialogue}
use Rattle.mmtel_leg.specs.declared.legs.Ended.{Ended}
use Rattle.mmtel_base.specs.Numbers.{next_number}
use Rattle.mmtel_transaction.specs.Tokens.{TokensView}
use Rattle.mmtel_types.specs.declared.causes.Cause.TheVariants as cause
use Rattle.mmtel_types.specs.declared.numbers.Account.{Account}
use Rattle.mmtel_types.specs.declared.numbers.RoomNo.{RoomNo}
use Rattle.mmtel_participants.specs.ConferenceConfig.{ConferenceConfigView}
use Rattle.mmtel_participants.specs.Texts.{notify_lines, sipfrag}
use Rattle.mmtel_participants.specs.declared.effects.Effects.{Effects}
use Rattle.mmtel_participants.specs.declared.numbers.NextNumbers.{NextNumbers}
use Rattle.mmtel_participants.specs.declared.participants.Invite.{Invite}
use Rattle.mmtel_participants.specs.declared.participants.Invite.TheVariants.{Accepted, Outstanding}
use Rattle.mmtel_participants.specs.declared.participants.Party.{Party}
use Rattle.mmtel_participants.specs.declared.participants.Party.TheVariants.{DialedIn, DialedOut, Invited}
use Rattle.mmtel_participants.specs.declared.participants.ParticipantState.{ParticipantState}

-- no effects yet, of a step before which these tokens were drawn
abbrev pub no_effects : TokensView → Effects
no_effects tokens = record { closes = false; abandoned = []; output = empty_output tokens }

-- ---- the party of a participant

abbrev pub leg_of : Party → Leg
leg_of (Invited leg) = leg
leg_of (DialedIn leg) = leg
leg_of (DialedOut leg) = leg

abbrev pub with_leg : Leg → Party → Party
with_leg leg (Invited before) = Invited leg
with_leg leg (DialedIn before) = DialedIn leg
with_leg leg (DialedOut before) = DialedOut leg

-- a party that is invited and has not answered has no dialog yet
abbrev pub is_party_connected : Party → Bool
is_party_connected (Invited leg) = false
is_party_connected (DialedIn leg) = true
is_party_connected (DialedOut leg) = true

abbrev pub is_connected : ParticipantState → Bool
is_connected seat = is_party_connected seat.party

abbrev pub dialogue_of : ParticipantState → Dialogue
dialogue_of seat = (leg_of seat.party).dialogue

-- the server's tag
abbrev pub tag_of : ParticipantState → List ℕ
tag_of seat = (dialogue_of seat).local_tag

-- ---- the participants of a conference

-- the numbers of the next one: participants are numbered in the order in which they come, invitations and 2xx in the order in which they are sent
abbrev pub next_of : RoomNo → (taken counted : ℕ) → NextNumbers
next_of room taken counted = record { room = room; seat = next_number taken; number = next_number counted }

-- the maximum number of participants at a time
abbrev pub max_participants : ℕ
max_participants = 32

-- the conference is full
abbrev pub has_no_free_seat : List ParticipantState → Bool
has_no_free_seat seats = nat_le max_participants (length seats)

abbrev pub has_seat_number : (number : ℕ) → ParticipantState → Bool
has_seat_number number seat = seat.number == number

-- the creator of a conference is its first participant
abbrev pub is_creator : (number : ℕ) → Bool
is_creator number = number == 1

-- the place of the participant of this number
abbrev pub place_of : (number : ℕ) → List ParticipantState → Option ℕ
place_of number seats = position (has_seat_number number) seats

-- ---- NOTIFY, to the participant that sent the REFER

abbrev pub leg_after_notify : Leg → Leg
leg_after_notify leg = with_dialogue leg (after_request leg.dialogue (codes "NOTIFY"))

abbrev pub party_after_notify : Party → Party
party_after_notify (Invited leg) = Invited leg
party_after_notify (DialedIn leg) = DialedIn (leg_after_notify leg)
party_after_notify (DialedOut leg) = DialedOut (leg_after_notify leg)

abbrev pub participant_after_notify : ParticipantState → ParticipantState
participant_after_notify seat = record seat { party = party_after_notify seat.party }

abbrev pub with_notify : ConferenceConfigView → RoomNo → (goes_on : Bool) → (line : List ℕ) → Leg → StepOutput → StepOutput
with_notify config room goes_on line leg output = with_own_request config.sip (codes "NOTIFY") leg.dialogue (notify_lines config.sip room goes_on) (sipfrag line) output

abbrev pub with_notify_to_party : ConferenceConfigView → RoomNo → (goes_on : Bool) → (line : List ℕ) → Party → StepOutput → StepOutput
with_notify_to_party config room goes_on line (Invited leg) output = output
with_notify_to_party config room goes_on line (DialedIn leg) output = with_notify config room goes_on line leg output
with_notify_to_party config room goes_on line (DialedOut leg) output = with_notify config room goes_on line leg output

-- ---- charging: a participant's CDR begins, and is answered, when it is connected

abbrev pub meter_for : RoomNo → (now : ℕ) → Account → MeterView
meter_for room now account = record { kind = Participant; account = account; call = record { 0 = room.0 }; began = now; answered = Some now }

abbrev pub meter_of : RoomNo → (now : ℕ) → Option Account → Option MeterView
meter_of room now account = option_map (meter_for room now) account

-- it is put into the leg of the party
abbrev pub leg_with_meter : Option MeterView → Leg → Leg
leg_with_meter meter leg = record leg { meter = meter }

abbrev pub with_row_of_meter : (now : ℕ) → Option MeterView → StepOutput → StepOutput
with_row_of_meter now None output = output
with_row_of_meter now (Some meter) output = with_row (row_of_meter meter now 0 cause.Ended) output

-- ---- a participant leaves

-- the dialog, where the server sent BYE in it, or none
abbrev pub ended_dialogs : (had_bye : Bool) → Dialogue → List Dialogue
ended_dialogs had_bye d = if had_bye then d ∷ [] else []

abbrev pub abandoned_in_dialog : (had_bye : Bool) → Leg → SentInvite → AbandonedInvite
abandoned_in_dialog had_bye leg i = record { invite = record i { dialogue = leg.dialogue; forks = ended_dialogs had_bye leg.dialogue }; in_dialog = true }

-- the server's INVITE that has no final response is abandoned; one in a confirmed dialog ends with that dialog
abbrev pub abandoned_of_party : (had_bye : Bool) → Party → SentInvite → AbandonedInvite
abandoned_of_party had_bye (Invited leg) i = record { invite = i; in_dialog = false }
abandoned_of_party had_bye (DialedIn leg) i = abandoned_in_dialog had_bye leg i
abandoned_of_party had_bye (DialedOut leg) i = abandoned_in_dialog had_bye leg i

abbrev pub abandoned_of_invite : (had_bye : Bool) → Party → Option Invite → List AbandonedInvite
abandoned_of_invite had_bye party None = []
abandoned_of_invite had_bye party (Some (Outstanding number i)) = abandoned_of_party had_bye party i ∷ []
abandoned_of_invite had_bye party (Some (Accepted branch tag ack)) = []

-- its CDR is filed
abbrev pub effects_of_leave : (now : ℕ) → (had_bye : Bool) → ParticipantState → Effects → Effects
effects_of_leave now had_bye seat e = record e {
  abandoned = e.abandoned ++ abandoned_of_invite had_bye seat.party seat.invite;
  output = with_row_of_meter now (leg_of seat.party).meter e.output;
}

-- where it is connected, BYE is sent first (RFC 3261 §15.1.1)
abbrev pub participant_after_bye : ParticipantState → ParticipantState
participant_after_bye seat = record seat { party = with_leg (with_dialogue (leg_of seat.party) (after_request (dialogue_of seat) (codes "BYE"))) seat.party }

abbrev pub effects_of_dismissal : ConferenceConfigView → (now : ℕ) → ParticipantState → Effects → Effects
effects_of_dismissal config now seat e =
    if is_connected seat
    then effects_of_leave now true (participant_after_bye seat) (record e { output = with_bye config.sip (dialogue_of seat) e.output })
    else effects_of_leave now false seat e

-- what remains of a participant that is ended without a signal
abbrev pub ended_leg : ParticipantState → Ended
ended_leg seat = record { meter = (leg_of seat.party).meter }

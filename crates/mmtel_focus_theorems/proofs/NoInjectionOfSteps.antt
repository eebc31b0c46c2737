-- What a conference keeps is clean, and so is what is sent as a participant is notified, leaves, and is added.
use Rattle.std.proofs.Common.{Bool, true, false, ℕ, zero, suc, List, [], ◌∷◌, take, drop, Option, Some, None, refl}
use Rattle.std.specs.Prelude.{IfSome, codes, if◌then◌else◌, slice_get, slice_set}
use Rattle.std.specs.List.{remove}
use Rattle.mmtel_charging.specs.Meters.{MeterView}
use Rattle.mmtel_output.specs.Sending.{with_bye}
use Rattle.mmtel_output.specs.declared.outputs.StepOutput.{StepOutput}
use Rattle.mmtel_output.specs.declared.sent_invites.SentInvite.{SentInvite}
use Rattle.mmtel_leg.specs.Dialogues.{after_request}
use Rattle.mmtel_leg.specs.Legs.{Leg, with_dialogue}
use Rattle.mmtel_leg.specs.declared.dialogues.Dialogue.{Dialogue}
use Rattle.mmtel_types.specs.declared.numbers.RoomNo.{RoomNo}
use Rattle.mmtel_focus.specs.Conferences.{Conference, StepResult, with_output}
use Rattle.mmtel_focus.specs.Participants.{abandoned_in_dialog, abandoned_of_invite, abandoned_of_party, after_close, after_close_with, after_dismissal, after_leave, after_notify, after_notify_referrer}
use Rattle.mmtel_focus.specs.Participants.{after_notify_to, at_participant, at_place, by_participant, dialogue_of, effects_of_dismissal, effects_of_leave, ended_dialogs, is_connected, is_creator, leg_of}
use Rattle.mmtel_focus.specs.Participants.{participant_after_bye, participant_after_notify, party_after_notify, place_of, with_leg, with_notify_to_party, with_participant, with_row_of_meter, without_participant_at}
use Rattle.mmtel_focus.specs.ConferenceConfig.{ConferenceConfigView}
use Rattle.mmtel_focus.specs.Texts.{notify_lines, sipfrag}
use Rattle.mmtel_participants.specs.declared.effects.Effects.{Effects}
use Rattle.mmtel_participants.specs.declared.participants.Invite.{Invite}
use Rattle.mmtel_participants.specs.declared.participants.Invite.TheVariants.{Accepted, Outstanding}
use Rattle.mmtel_participants.specs.declared.participants.Party.{Party}
use Rattle.mmtel_participants.specs.declared.participants.Party.TheVariants.{DialedIn, DialedOut, Invited}
use Rattle.mmtel_participants.specs.declared.participants.ParticipantState.{ParticipantState}
use Rattle.mmtel_call_theorems.specs.NoInjection.Messages.{HasNoInjection}
use Rattle.mmtel_call_theorems.specs.NoInjection.Emits.{Each, IsTextOfAck, OutputHasNoInjection}
use Rattle.mmtel_call_theorems.specs.NoInjection.CallState.{DialogueHasNoInjection}
use Rattle.mmtel_call_theorems.proofs.NoInjection.CallState.{AbandonedHasNoInjection}
use Rattle.mmtel_call_theorems.proofs.NoInjection.Sending.{InvitationHasNoInjection, asked_no_injection, bye_no_injection, each_append, each_drop, each_get, each_take}
use Rattle.mmtel_focus_theorems.proofs.NoInjectionOfTexts.{notify_no_injection}

-- ---- what is kept

abbrev pub InviteHasNoInjection : Invite → Type 0
InviteHasNoInjection (Outstanding number i) = InvitationHasNoInjection [] i
InviteHasNoInjection (Accepted branch tag ack) = IsTextOfAck [] ack

-- a dialog, with the server's tag in it
abbrev pub IsFreeOfInjection : Dialogue → Type 0
IsFreeOfInjection d = DialogueHasNoInjection d × HasNoInjection d.local_tag

abbrev pub PartyHasNoInjection : Party → Type 0
PartyHasNoInjection party = IsFreeOfInjection (leg_of party).dialogue

pub record ParticipantHasNoInjection (seat : ParticipantState) : Type 0 where
  pub party_in : PartyHasNoInjection seat.party
  pub invite_in : IfSome seat.invite InviteHasNoInjection

abbrev pub ConferenceHasNoInjection : Conference → Type 0
ConferenceHasNoInjection room = Each ParticipantHasNoInjection room.participants

pub record StepHasNoInjection (s : StepResult) : Type 0 where
  pub conference_in : ConferenceHasNoInjection s.conference
  pub abandoned_in : Each (AbandonedHasNoInjection []) s.effects.abandoned
  pub output_in : OutputHasNoInjection [] s.effects.output

pub with_output_no_injection : (output : StepOutput) (s : StepResult) → OutputHasNoInjection [] output → StepHasNoInjection s → StepHasNoInjection (with_output output s)
with_output_no_injection output s e is = record { conference_in = is.conference_in; abandoned_in = is.abandoned_in; output_in = e }

pub if_step : (b : Bool) (one two : StepResult) → StepHasNoInjection one → StepHasNoInjection two → StepHasNoInjection (if b then one else two)
if_step true one two e f = e
if_step false one two e f = f

-- ---- lists

pub each_set : {A : Type 0} (P : A → Type 0) (xs : List A) (n : ℕ) (x : A) → Each P xs → P x → Each P (slice_set xs n x)
each_set P [] n x e f = tt
each_set P (y ∷ xs) zero x e f = (f, e.1)
each_set P (y ∷ xs) (suc n) x e f = (e.0, each_set P xs n x e.1 f)

pub each_removed : {A : Type 0} (P : A → Type 0) (n : ℕ) (xs : List A) → Each P xs → Each P (remove xs n)
each_removed P n xs e = each_append P (take n xs) (drop (suc n) xs) (each_take P n xs e) (each_drop P (suc n) xs e)

-- ---- a transition at the place of its participant

abbrev pub KeepsNoInjection : (row : (place : ℕ) → ParticipantState → StepResult → StepResult) → Type 0
KeepsNoInjection row = (place : ℕ) (seat : ParticipantState) (s : StepResult) → ParticipantHasNoInjection seat → StepHasNoInjection s → StepHasNoInjection (row place seat s)

by_participant_no_injection : (row : ParticipantState → StepResult → StepResult) (o : Option ParticipantState) (s : StepResult) → IfSome o ParticipantHasNoInjection →
    ((seat : ParticipantState) → ParticipantHasNoInjection seat → StepHasNoInjection (row seat s)) → StepHasNoInjection s → StepHasNoInjection (by_participant row o s)
by_participant_no_injection row None s e k is = is
by_participant_no_injection row (Some seat) s e k is = k seat e

pub at_participant_no_injection : (row : (place : ℕ) → ParticipantState → StepResult → StepResult) → KeepsNoInjection row → (place : ℕ) (s : StepResult) → StepHasNoInjection s →
    StepHasNoInjection (at_participant row place s)
at_participant_no_injection row k place s is = by_participant_no_injection (row place) (slice_get s.conference.participants place) s
    (each_get ParticipantHasNoInjection s.conference.participants place is.conference_in) (λ seat e. k place seat s e is) is

pub at_place_no_injection : (row : (place : ℕ) → ParticipantState → StepResult → StepResult) → KeepsNoInjection row → (o : Option ℕ) (s : StepResult) → StepHasNoInjection s → StepHasNoInjection (at_place row o s)
at_place_no_injection row k None s is = is
at_place_no_injection row k (Some place) s is = at_participant_no_injection row k place s is

pub with_participant_no_injection : (place : ℕ) (seat : ParticipantState) (s : StepResult) → ParticipantHasNoInjection seat → StepHasNoInjection s → StepHasNoInjection (with_participant place seat s)
with_participant_no_injection place seat s e is =
    record { conference_in = each_set ParticipantHasNoInjection s.conference.participants place seat is.conference_in e; abandoned_in = is.abandoned_in; output_in = is.output_in }

-- the same party with another leg
pub with_leg_no_injection : (party : Party) (leg : Leg) → IsFreeOfInjection leg.dialogue → PartyHasNoInjection (with_leg leg party)
with_leg_no_injection (Invited before) leg e = e
with_leg_no_injection (DialedIn before) leg e = e
with_leg_no_injection (DialedOut before) leg e = e

-- ---- NOTIFY

notified_no_injection : (config : ConferenceConfigView) (room : RoomNo) (on : Bool) (line : List ℕ) (party : Party) (output : StepOutput) → PartyHasNoInjection party → OutputHasNoInjection [] output →
    OutputHasNoInjection [] (with_notify_to_party config room on line party output)
notified_no_injection config room on line (Invited leg) output e had = had
notified_no_injection config room on line (DialedIn leg) output e had =
    asked_no_injection [] config.sip (codes "NOTIFY") leg.dialogue (notify_lines config.sip room on) (sipfrag line) output e.0 refl (notify_no_injection config.sip room on) had
notified_no_injection config room on line (DialedOut leg) output e had =
    asked_no_injection [] config.sip (codes "NOTIFY") leg.dialogue (notify_lines config.sip room on) (sipfrag line) output e.0 refl (notify_no_injection config.sip room on) had

party_after_notify_no_injection : (party : Party) → PartyHasNoInjection party → PartyHasNoInjection (party_after_notify party)
party_after_notify_no_injection (Invited leg) e = e
party_after_notify_no_injection (DialedIn leg) e = e
party_after_notify_no_injection (DialedOut leg) e = e

after_notify_no_injection : (config : ConferenceConfigView) (on : Bool) (line : List ℕ) → KeepsNoInjection (after_notify config on line)
after_notify_no_injection config on line place seat s e is =
    with_output_no_injection (with_notify_to_party config s.conference.number on line seat.party s.effects.output) (with_participant place (participant_after_notify seat) s)
    (notified_no_injection config s.conference.number on line seat.party s.effects.output e.party_in is.output_in)
    (with_participant_no_injection place (participant_after_notify seat) s (record { party_in = party_after_notify_no_injection seat.party e.party_in; invite_in = e.invite_in }) is)

pub after_notify_to_no_injection : (config : ConferenceConfigView) (on : Bool) (line : List ℕ) (number : ℕ) (s : StepResult) → StepHasNoInjection s → StepHasNoInjection (after_notify_to config on line number s)
after_notify_to_no_injection config on line number s is = at_place_no_injection (after_notify config on line) (after_notify_no_injection config on line) (place_of number s.conference.participants) s is

pub notified_by_clean : (config : ConferenceConfigView) (on : Bool) (line : List ℕ) (by : Option ℕ) (s : StepResult) → StepHasNoInjection s → StepHasNoInjection (after_notify_referrer config on line by s)
notified_by_clean config on line None s is = is
notified_by_clean config on line (Some number) s is = after_notify_to_no_injection config on line number s is

-- ---- a participant leaves

filed_no_injection : (at : ℕ) (meter : Option MeterView) (output : StepOutput) → OutputHasNoInjection [] output → OutputHasNoInjection [] (with_row_of_meter at meter output)
filed_no_injection at None output is = is
filed_no_injection at (Some meter) output is = record { token_in = is.token_in; out_in = is.out_in }

ended_no_injection : (had_bye : Bool) (d : Dialogue) → DialogueHasNoInjection d → Each DialogueHasNoInjection (ended_dialogs had_bye d)
ended_no_injection true d e = (e, tt)
ended_no_injection false d e = tt

within_no_injection : (had_bye : Bool) (leg : Leg) (i : SentInvite) → DialogueHasNoInjection leg.dialogue → InvitationHasNoInjection [] i → AbandonedHasNoInjection [] (abandoned_in_dialog had_bye leg i)
within_no_injection had_bye leg i e is = record { dialogue_in = e; branch_in = is.branch_in; ack_in = is.ack_in; forks_in = ended_no_injection had_bye leg.dialogue e; early_in = is.early_in }

abandoned_of_party_no_injection : (had_bye : Bool) (party : Party) (i : SentInvite) → PartyHasNoInjection party → InvitationHasNoInjection [] i → AbandonedHasNoInjection [] (abandoned_of_party had_bye party i)
abandoned_of_party_no_injection had_bye (Invited leg) i e is = is
abandoned_of_party_no_injection had_bye (DialedIn leg) i e is = within_no_injection had_bye leg i e.0 is
abandoned_of_party_no_injection had_bye (DialedOut leg) i e is = within_no_injection had_bye leg i e.0 is

abandoned_of_invite_no_injection : (had_bye : Bool) (party : Party) (o : Option Invite) → PartyHasNoInjection party → IfSome o InviteHasNoInjection →
    Each (AbandonedHasNoInjection []) (abandoned_of_invite had_bye party o)
abandoned_of_invite_no_injection had_bye party None e is = tt
abandoned_of_invite_no_injection had_bye party (Some (Outstanding number i)) e is = (abandoned_of_party_no_injection had_bye party i e is, tt)
abandoned_of_invite_no_injection had_bye party (Some (Accepted branch tag ack)) e is = tt

pub record EffectsHaveNoInjection (e : Effects) : Type 0 where
  pub abandoned_in : Each (AbandonedHasNoInjection []) e.abandoned
  pub output_in : OutputHasNoInjection [] e.output

effects_of_leave_no_injection : (at : ℕ) (had_bye : Bool) (seat : ParticipantState) (e : Effects) → ParticipantHasNoInjection seat → EffectsHaveNoInjection e → EffectsHaveNoInjection (effects_of_leave at had_bye seat e)
effects_of_leave_no_injection at had_bye seat e is had = record {
  abandoned_in = each_append (AbandonedHasNoInjection []) e.abandoned (abandoned_of_invite had_bye seat.party seat.invite) had.abandoned_in
      (abandoned_of_invite_no_injection had_bye seat.party seat.invite is.party_in is.invite_in);
  output_in = filed_no_injection at (leg_of seat.party).meter e.output had.output_in;
}

gone_no_injection : (place : ℕ) (s : StepResult) (e : Effects) → StepHasNoInjection s → EffectsHaveNoInjection e → StepHasNoInjection (record (without_participant_at place s) { effects = e })
gone_no_injection place s e is had = record { conference_in = each_removed ParticipantHasNoInjection place s.conference.participants is.conference_in; abandoned_in = had.abandoned_in; output_in = had.output_in }

pub after_leave_no_injection : (at : ℕ) (had_bye : Bool) → KeepsNoInjection (after_leave at had_bye)
after_leave_no_injection at had_bye place seat s e is =
    gone_no_injection place s (effects_of_leave at had_bye seat s.effects) is (effects_of_leave_no_injection at had_bye seat s.effects e (record { abandoned_in = is.abandoned_in; output_in = is.output_in }))

pub after_dismissal_no_injection : (config : ConferenceConfigView) (at : ℕ) → KeepsNoInjection (after_dismissal config at)
after_dismissal_no_injection config at place seat s e is = gone_no_injection place s (effects_of_dismissal config at seat s.effects) is (by (is_connected seat))
  where
    leg : Leg
    leg = with_dialogue (leg_of seat.party) (after_request (dialogue_of seat) (codes "BYE"))

    output : StepOutput
    output = with_bye config.sip (dialogue_of seat) s.effects.output

    by : (b : Bool) → EffectsHaveNoInjection (if b then effects_of_leave at true (participant_after_bye seat) (record s.effects { output = output }) else effects_of_leave at false seat s.effects)
    by true =
        effects_of_leave_no_injection at true (participant_after_bye seat) (record s.effects { output = output }) (record { party_in = with_leg_no_injection seat.party leg e.party_in; invite_in = e.invite_in })
        (record { abandoned_in = is.abandoned_in; output_in = bye_no_injection [] config.sip (dialogue_of seat) s.effects.output e.party_in.0 is.output_in })
    by false = effects_of_leave_no_injection at false seat s.effects e (record { abandoned_in = is.abandoned_in; output_in = is.output_in })

-- ---- the conference closes

pub after_close_no_injection : (config : ConferenceConfigView) (at : ℕ) (seats : List ParticipantState) (s : StepResult) → Each ParticipantHasNoInjection seats → StepHasNoInjection s →
    StepHasNoInjection (after_close config at seats s)
unfolding after_close
after_close_no_injection config at [] s e is = record { conference_in = is.conference_in; abandoned_in = is.abandoned_in; output_in = is.output_in }
after_close_no_injection config at (seat ∷ seats) s e is = after_close_no_injection config at seats (after_dismissal config at 0 seat s) e.1 (after_dismissal_no_injection config at 0 seat s e.0 is)

pub after_close_with_no_injection : (config : ConferenceConfigView) (at : ℕ) (number : ℕ) (s : StepResult) → StepHasNoInjection s → StepHasNoInjection (after_close_with config at number s)
after_close_with_no_injection config at number s is =
    if_step (is_creator number) (after_close config at s.conference.participants s) s (after_close_no_injection config at s.conference.participants s is.conference_in is) is

-- The participants of a conference: how one is found, notified, and leaves (RFC 4579 §5.5, §5.11; RFC 3515 §2.4.4; TS 32.260 §5 for its CDR). A transition of the step table of
-- conferences takes the place of its participant, the participant, and the step so far.
use Rattle.std.specs.Prelude.{ℕ, Bool, true, if◌then◌else◌, Option, Some, None, List, [], ◌∷◌, remove, slice_get, slice_set}
use Rattle.mmtel_focus.specs.Conferences.{Conference, ParticipantState, StepResult, with_output}
use Rattle.mmtel_focus.specs.ConferenceConfig.{ConferenceConfigView}
use Rattle.mmtel_participants.specs.Participants.{effects_of_dismissal, effects_of_leave, has_no_free_seat, is_creator, participant_after_notify, place_of, with_notify_to_party}
pub use Rattle.mmtel_participants.specs.Participants.{dialogue_of, effects_of_dismissal, effects_of_leave, ended_dialogs, has_seat_number}
pub use Rattle.mmtel_participants.specs.Participants.{is_connected, is_creator, is_party_connected, participant_after_bye, with_row_of_meter}
pub use Rattle.mmtel_participants.specs.Participants.{abandoned_in_dialog, abandoned_of_invite, abandoned_of_party, leg_after_notify, leg_of}
pub use Rattle.mmtel_participants.specs.Participants.{meter_for, meter_of, party_after_notify, place_of, tag_of, with_notify, with_notify_to_party}
pub use Rattle.mmtel_participants.specs.Participants.{participant_after_notify, with_leg}

-- ---- the participants of a conference

abbrev pub is_full : Conference → Bool
is_full room = has_no_free_seat room.participants

-- ---- a transition at a place: nothing where no participant is there

abbrev pub by_participant : (row : ParticipantState → StepResult → StepResult) → Option ParticipantState → StepResult → StepResult
by_participant row None s = s
by_participant row (Some seat) s = row seat s

abbrev pub at_participant : (row : (place : ℕ) → ParticipantState → StepResult → StepResult) → (place : ℕ) → StepResult → StepResult
at_participant row place s = by_participant (row place) (slice_get s.conference.participants place) s

abbrev pub at_place : (row : (place : ℕ) → ParticipantState → StepResult → StepResult) → (place : Option ℕ) → StepResult → StepResult
at_place row None s = s
at_place row (Some place) s = at_participant row place s

-- the participant at a place is replaced by this one
abbrev pub with_participant : (place : ℕ) → ParticipantState → StepResult → StepResult
with_participant place seat s = record s { conference = record s.conference { participants = slice_set s.conference.participants place seat } }

-- and is removed
abbrev pub without_participant_at : (place : ℕ) → StepResult → StepResult
without_participant_at place s = record s { conference = record s.conference { participants = remove s.conference.participants place } }

-- ---- NOTIFY, to the participant that sent the REFER; none once it has left

abbrev pub after_notify : ConferenceConfigView → (goes_on : Bool) → (line : List ℕ) → (place : ℕ) → ParticipantState → StepResult → StepResult
after_notify config goes_on line place seat s =
    with_output (with_notify_to_party config s.conference.number goes_on line seat.party s.effects.output)
    (with_participant place (participant_after_notify seat) s)

-- the participant of this number
abbrev pub after_notify_to : ConferenceConfigView → (goes_on : Bool) → (line : List ℕ) → (number : ℕ) → StepResult → StepResult
after_notify_to config goes_on line number s = at_place (after_notify config goes_on line) (place_of number s.conference.participants) s

-- the participant whose REFER invited another one, if one did
abbrev pub after_notify_referrer : ConferenceConfigView → (goes_on : Bool) → (line : List ℕ) → (by : Option ℕ) → StepResult → StepResult
after_notify_referrer config goes_on line None s = s
after_notify_referrer config goes_on line (Some number) s = after_notify_to config goes_on line number s

-- ---- a participant leaves

abbrev pub after_leave : (now : ℕ) → (had_bye : Bool) → (place : ℕ) → ParticipantState → StepResult → StepResult
after_leave now had_bye place seat s = record (without_participant_at place s) { effects = effects_of_leave now had_bye seat s.effects }

abbrev pub after_dismissal : ConferenceConfigView → (now : ℕ) → (place : ℕ) → ParticipantState → StepResult → StepResult
after_dismissal config now place seat s = record (without_participant_at place s) { effects = effects_of_dismissal config now seat s.effects }

-- ---- the conference closes: all remaining participants are sent BYE and leave, the first one first

abbrev pub with_closing : StepResult → StepResult
with_closing s = record s { effects = record s.effects { closes = true } }

unfoldable pub after_close : ConferenceConfigView → (now : ℕ) → List ParticipantState → StepResult → StepResult
after_close config now [] s = with_closing s
after_close config now (seat ∷ seats) s = after_close config now seats (after_dismissal config now 0 seat s)

-- a conference ends with its creator
abbrev pub after_close_with : ConferenceConfigView → (now : ℕ) → (number : ℕ) → StepResult → StepResult
after_close_with config now number s = if is_creator number then after_close config now s.conference.participants s else s

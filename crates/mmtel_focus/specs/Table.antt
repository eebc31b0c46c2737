-- The table of conferences: each signal is of one participant of one conference, which takes its transition, or of an abandoned INVITE; a conference is opened, joined, notified
-- and left.
use Rattle.std.specs.Prelude.{ℕ, ◌==◌, nat_le, Bool, if◌then◌else◌, Option, Some, None, List, [], ◌∷◌, ◌++◌, length, option_to_list}
use Rattle.std.specs.Prelude.{position, remove, slice_get, slice_set, Result, Ok, Err}
use Rattle.std.specs.List.{list_any}
use Rattle.mmtel_base.specs.Numbers.{next_number}
use Rattle.mmtel_compose.specs.ReceivedMessages.{MessageView}
use Rattle.mmtel_charging.specs.Meters.{MeterView, row_of_meter}
use Rattle.mmtel_charging.specs.declared.rows.Row.{Row}
pub use Rattle.mmtel_output.specs.SentInvites.{is_abandoned_key, is_key, without, without_at}
use Rattle.mmtel_output.specs.ResponseMatching.{awaited_request_branch, timed_out_branch}
use Rattle.mmtel_output.specs.AbandonedInvites.{AfterResponse, is_of_branch, on_response}
use Rattle.mmtel_output.specs.declared.sent_invites.AbandonedInvite.{AbandonedInvite}
use Rattle.mmtel_leg.specs.declared.legs.Released.{Released}
use Rattle.mmtel_transaction.specs.declared.words.TKey.{TKey}
use Rattle.mmtel_types.specs.declared.addrs.Addr.{Addr}
use Rattle.mmtel_types.specs.declared.causes.Cause.TheVariants.{Ended}
use Rattle.mmtel_types.specs.declared.numbers.Account.{Account}
use Rattle.mmtel_types.specs.declared.numbers.RoomNo.{RoomNo}
use Rattle.mmtel_focus.specs.Responses.{on_any_response, on_due, on_timeout}
use Rattle.mmtel_focus.specs.Joining.{after_adoption, after_join, new_conference}
use Rattle.mmtel_focus.specs.Requests.{on_ack, on_request}
use Rattle.mmtel_focus.specs.Conferences.{Conference, Effects, ParticipantState, StepResult}
use Rattle.mmtel_focus.specs.ParticipantSignals as of_seat
use Rattle.mmtel_focus.specs.ParticipantSignals.{ParticipantSignal}
use Rattle.mmtel_focus.specs.Participants as seats
use Rattle.mmtel_focus.specs.Participants.{after_notify_to, at_place, has_seat_number, is_connected, is_full, leg_of}
use Rattle.mmtel_focus.specs.ConferenceConfig.{ConferenceConfigView}
use Rattle.mmtel_focus.specs.Texts.{own_status}
use Rattle.mmtel_focus.specs.declared.faults.RoomFault.{RoomFault}
use Rattle.mmtel_focus.specs.declared.faults.RoomFault.TheVariants.{Gone, RoomFull}
use Rattle.mmtel_focus.specs.declared.signals.RoomSignal.{RoomSignal}
use Rattle.mmtel_focus.specs.declared.signals.RoomSignal.TheVariants as signal
use Rattle.mmtel_participants.specs.Invites.{participant_has_branch}
pub use Rattle.mmtel_participants.specs.Invites.{invite_has_branch, participant_has_branch}
pub use Rattle.mmtel_sip_rules.specs.Statuses.{is_provisional}

pub record Table : Type 0 where
  -- the live conferences, in the order in which they were opened
  pub live : List Conference
  -- the number of the conference that was opened last
  pub opened : ℕ
  -- INVITEs that were abandoned before their final response; they may outlive their conference
  pub abandoned : List AbandonedInvite
  -- the CDRs that were closed, and wait until they are handed over
  pub rows : List Row

abbrev pub empty_table : Table
empty_table = record { live = []; opened = 0; abandoned = []; rows = [] }

-- the maximum number of live conferences
abbrev pub max_conferences : ℕ
max_conferences = 1024

-- the conferences after a step of one of them, and its effects
pub record ConferenceStep : Type 0 where
  pub live : List Conference
  pub effects : Effects

abbrev pub unchanged_step : List Conference → Effects → ConferenceStep
unchanged_step live effects = record { live = live; effects = effects }

-- ---- what a participant receives

unfoldable pub step_of_participant : ConferenceConfigView → (now : ℕ) → ParticipantSignal → (place : ℕ) → ParticipantState → StepResult → StepResult
step_of_participant config now (of_seat.Request key request) = on_request config now key request
step_of_participant config now (of_seat.Ack ack) = on_ack ack
step_of_participant config now (of_seat.Answer key response) = on_any_response config now key response
step_of_participant config now of_seat.Silent = on_timeout config now
step_of_participant config now (of_seat.Due what) = on_due config now what

-- the step of a conference, by the first participant for which the predicate holds
abbrev pub step_of_first : ConferenceConfigView → (now : ℕ) → (whose : ParticipantState → Bool) → ParticipantSignal → StepResult → StepResult
step_of_first config now whose received s = at_place (step_of_participant config now received) (position whose s.conference.participants) s

-- ---- a step of a conference

abbrev pub has_room_number : (number : ℕ) → Conference → Bool
has_room_number number room = room.number.0 == number

abbrev pub place_of : (number : ℕ) → List Conference → Option ℕ
place_of number rooms = position (has_room_number number) rooms

-- the conference at this place is replaced by this one, and is removed from the table where it closes
abbrev pub conferences_with : (place : ℕ) → (closes : Bool) → Conference → List Conference → List Conference
conferences_with place closes room rooms = if closes then remove (slice_set rooms place room) place else slice_set rooms place room

abbrev pub step_result_by : (place : ℕ) → StepResult → List Conference → ConferenceStep
step_result_by place s live = record { live = conferences_with place s.effects.closes s.conference live; effects = s.effects }

abbrev pub step_result_at : (row : StepResult → StepResult) → (place : ℕ) → Option Conference → List Conference → Effects → ConferenceStep
step_result_at row place None live effects = unchanged_step live effects
step_result_at row place (Some room) live effects = step_result_by place (row (record { conference = room; effects = effects })) live

-- the conference at this place takes the step, if there is one
abbrev pub step_result_in : (row : StepResult → StepResult) → (place : Option ℕ) → List Conference → Effects → ConferenceStep
step_result_in row None live effects = unchanged_step live effects
step_result_in row (Some place) live effects = step_result_at row place (slice_get live place) live effects

-- a step in which no conference closes
abbrev pub open_result_by : (place : ℕ) → StepResult → List Conference → ConferenceStep
open_result_by place s live = record { live = slice_set live place s.conference; effects = s.effects }

abbrev pub open_result_at : (row : StepResult → StepResult) → (place : ℕ) → Option Conference → List Conference → Effects → ConferenceStep
open_result_at row place None live effects = unchanged_step live effects
open_result_at row place (Some room) live effects = open_result_by place (row (record { conference = room; effects = effects })) live

abbrev pub open_result_in : (row : StepResult → StepResult) → (place : Option ℕ) → List Conference → Effects → ConferenceStep
open_result_in row None live effects = unchanged_step live effects
open_result_in row (Some place) live effects = open_result_at row place (slice_get live place) live effects

-- ---- which conference a signal belongs to

abbrev pub conference_has_branch : (branch : List ℕ) → Conference → Bool
conference_has_branch branch room = list_any (participant_has_branch branch) room.participants

-- the participant of this number in the conference of this number receives the signal
abbrev pub step_by_number : ConferenceConfigView → (now : ℕ) → (room seat : ℕ) → ParticipantSignal → List Conference → Effects → ConferenceStep
step_by_number config now room seat received live effects = step_result_in (step_of_first config now (has_seat_number seat) received) (place_of room live) live effects

-- the participant whose INVITE has this branch receives the signal
abbrev pub step_by_branch : ConferenceConfigView → (now : ℕ) → (branch : List ℕ) → ParticipantSignal → List Conference → Effects → ConferenceStep
step_by_branch config now branch received live effects = step_result_in (step_of_first config now (participant_has_branch branch) received)
    (position (conference_has_branch branch) live) live effects

-- ---- abandoned INVITEs

-- the conferences after any signal, the abandoned INVITEs, and the effects
pub record TableStep : Type 0 where
  pub live : List Conference
  pub abandoned : List AbandonedInvite
  pub effects : Effects

abbrev pub with_abandoned : List AbandonedInvite → ConferenceStep → TableStep
with_abandoned abandoned s = record { live = s.live; abandoned = abandoned; effects = s.effects }

-- what remains of one is the last of the list
abbrev pub with_rest_of_abandoned : (place : ℕ) → AfterResponse → List Conference → List AbandonedInvite → Effects → TableStep
with_rest_of_abandoned place rest live abandoned effects =
    record { live = live; abandoned = without_at place abandoned ++ option_to_list rest.remaining; effects = record effects { output = rest.output } }

abbrev pub step_of_abandoned_response : Addr → TKey → MessageView → (place : ℕ) → Option AbandonedInvite → List Conference → List AbandonedInvite → Effects → TableStep
step_of_abandoned_response sip key m place None live abandoned effects = with_abandoned abandoned (unchanged_step live effects)
step_of_abandoned_response sip key m place (Some l) live abandoned effects = with_rest_of_abandoned place (on_response sip key m.parsed l effects.output) live abandoned effects

abbrev pub step_of_response_at : ConferenceConfigView → (now : ℕ) → TKey → MessageView → (branch : List ℕ) → (place : Option ℕ) →
    List Conference → List AbandonedInvite → Effects → TableStep
step_of_response_at config now key m branch None live abandoned effects = with_abandoned abandoned (step_by_branch config now branch (of_seat.Answer key m) live effects)
step_of_response_at config now key m branch (Some place) live abandoned effects =
    step_of_abandoned_response config.sip key m place (slice_get abandoned place) live abandoned effects

-- a response: to an abandoned INVITE, or to one to a participant
abbrev pub step_of_response : ConferenceConfigView → (now : ℕ) → TKey → MessageView → (branch : Option (List ℕ)) → List Conference → List AbandonedInvite → Effects → TableStep
step_of_response config now key m None live abandoned effects = with_abandoned abandoned (unchanged_step live effects)
step_of_response config now key m (Some branch) live abandoned effects =
    step_of_response_at config now key m branch (position (is_of_branch branch) abandoned) live abandoned effects

-- a timeout ends an abandoned one
abbrev pub step_of_timeout_at : ConferenceConfigView → (now : ℕ) → (branch : List ℕ) → (place : Option ℕ) → List Conference → List AbandonedInvite → Effects → TableStep
step_of_timeout_at config now branch None live abandoned effects = with_abandoned abandoned (step_by_branch config now branch of_seat.Silent live effects)
step_of_timeout_at config now branch (Some place) live abandoned effects = with_abandoned (without_at place abandoned) (unchanged_step live effects)

abbrev pub step_of_timeout : ConferenceConfigView → (now : ℕ) → (branch : Option (List ℕ)) → List Conference → List AbandonedInvite → Effects → TableStep
step_of_timeout config now None live abandoned effects = with_abandoned abandoned (unchanged_step live effects)
step_of_timeout config now (Some branch) live abandoned effects = step_of_timeout_at config now branch (position (is_of_branch branch) abandoned) live abandoned effects

-- ---- any signal

unfoldable pub step_of_signal : ConferenceConfigView → (now : ℕ) → RoomSignal → List Conference → List AbandonedInvite → Effects → TableStep
step_of_signal config now (signal.Request room seat key request) live abandoned effects =
    with_abandoned abandoned (step_by_number config now room.0 seat (of_seat.Request key request) live effects)
step_of_signal config now (signal.Ack room seat ack) live abandoned effects = with_abandoned abandoned (step_by_number config now room.0 seat (of_seat.Ack ack) live effects)
step_of_signal config now (signal.Answer key response) live abandoned effects = step_of_response config now key response (awaited_request_branch response) live abandoned effects
step_of_signal config now (signal.Silent branch method) live abandoned effects = step_of_timeout config now (timed_out_branch branch method) live abandoned effects
step_of_signal config now (signal.Due room seat what) live abandoned effects = with_abandoned abandoned (step_by_number config now room.0 seat (of_seat.Due what) live effects)
-- the INVITE whose client transaction has ended is kept no longer
step_of_signal config now (signal.Over key) live abandoned effects = with_abandoned (without (position (is_abandoned_key key) abandoned) abandoned) (unchanged_step live effects)

-- ---- conferences are opened and joined

abbrev pub is_table_full : List Conference → Bool
is_table_full rooms = nat_le max_conferences (length rooms)

abbrev pub next_room_number : Table → RoomNo
next_room_number table = record { 0 = next_number table.opened }

-- a conference of its own for a leg that comes
abbrev pub step_of_opening : ConferenceConfigView → (now : ℕ) → Released → Option Account → TKey → MessageView → RoomNo → Effects → StepResult
step_of_opening config now leg account key m number effects = after_join config now leg account key m (record { conference = new_conference number; effects = effects })

-- the place of a conference that is not full, or why there is none
abbrev pub access_to : (place : ℕ) → Option Conference → Result ℕ RoomFault
access_to place None = Err Gone
access_to place (Some room) = if is_full room then Err RoomFull else Ok place

abbrev pub access_at : (place : Option ℕ) → List Conference → Result ℕ RoomFault
access_at None rooms = Err Gone
access_at (Some place) rooms = access_to place (slice_get rooms place)

abbrev pub access : (number : ℕ) → List Conference → Result ℕ RoomFault
access number rooms = access_at (place_of number rooms) rooms

abbrev pub step_if_access : (row : StepResult → StepResult) → Result ℕ RoomFault → List Conference → Effects → ConferenceStep
step_if_access row (Ok place) live effects = open_result_at row place (slice_get live place) live effects
step_if_access row (Err fault) live effects = unchanged_step live effects

-- by an INVITE to the conference, and out of a call; where the conference is full or not live nothing changes
unfoldable pub step_of_join : ConferenceConfigView → (now : ℕ) → (room : ℕ) → Released → Option Account → TKey → MessageView → List Conference → Effects → ConferenceStep
step_of_join config now room leg account key m live effects = step_if_access (after_join config now leg account key m) (access room live) live effects

unfoldable pub step_of_adoption : ConferenceConfigView → (now : ℕ) → (room : ℕ) → Released → Option Account → (by : ℕ) → List Conference → Effects → ConferenceStep
step_of_adoption config now room leg account by live effects = step_if_access (after_adoption config now leg account by) (access room live) live effects

-- ---- NOTIFY at the server's own initiative

unfoldable pub step_of_notify : ConferenceConfigView → (room seat code : ℕ) → List Conference → Effects → ConferenceStep
step_of_notify config room seat code live effects = open_result_in (after_notify_to config (is_provisional code) (own_status code) seat) (place_of room live) live effects

-- ---- leaving and closing without a signal: nothing is sent, and an INVITE without a final response is dropped

abbrev pub without_participant : (place : ℕ) → Conference → Conference
without_participant place room = record room { participants = remove room.participants place }

abbrev pub conference_without_at : (place : ℕ) → Option ParticipantState → Conference → Conference
conference_without_at place None room = room
conference_without_at place (Some seat) room = if is_connected seat then without_participant place room else room

abbrev pub conference_without_in : (place : Option ℕ) → Conference → Conference
conference_without_in None room = room
conference_without_in (Some place) room = conference_without_at place (slice_get room.participants place) room

abbrev pub conference_without_seat : (seat : ℕ) → Conference → Conference
conference_without_seat seat room = conference_without_in (seats.place_of seat room.participants) room

abbrev pub conferences_without_seat : (seat place : ℕ) → Option Conference → List Conference → List Conference
conferences_without_seat seat place None live = live
conferences_without_seat seat place (Some room) live = slice_set live place (conference_without_seat seat room)

abbrev pub conferences_without_seat_at : (seat : ℕ) → (place : Option ℕ) → List Conference → List Conference
conferences_without_seat_at seat None live = live
conferences_without_seat_at seat (Some place) live = conferences_without_seat seat place (slice_get live place) live

unfoldable pub conferences_after_leave : (room seat : ℕ) → List Conference → List Conference
conferences_after_leave room seat live = conferences_without_seat_at seat (place_of room live) live

-- the CDR of the participant
abbrev pub row_by : (now : ℕ) → Option MeterView → Option Row
row_by now None = None
row_by now (Some meter) = Some (row_of_meter meter now 0 Ended)

abbrev pub row_of_participant : (now : ℕ) → Option ParticipantState → Option Row
row_of_participant now None = None
row_of_participant now (Some seat) = if is_connected seat then row_by now (leg_of seat.party).meter else None

abbrev pub row_in : (now : ℕ) → (place : Option ℕ) → List ParticipantState → Option Row
row_in now None all = None
row_in now (Some place) all = row_of_participant now (slice_get all place)

abbrev pub row_in_conference : (now seat : ℕ) → Option Conference → Option Row
row_in_conference now seat None = None
row_in_conference now seat (Some room) = row_in now (seats.place_of seat room.participants) room.participants

abbrev pub conference_at : (place : Option ℕ) → List Conference → Option Conference
conference_at None live = None
conference_at (Some place) live = slice_get live place

abbrev pub conference_of : (room : ℕ) → List Conference → Option Conference
conference_of room live = conference_at (place_of room live) live

unfoldable pub row_of_leave : (now room seat : ℕ) → List Conference → Option Row
row_of_leave now room seat live = row_in_conference now seat (conference_of room live)

-- the conference is removed
abbrev pub conferences_without : (place : Option ℕ) → List Conference → List Conference
conferences_without None live = live
conferences_without (Some place) live = remove live place

unfoldable pub conferences_after_close : (room : ℕ) → List Conference → List Conference
conferences_after_close room live = conferences_without (place_of room live) live

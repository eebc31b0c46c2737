-- Queries on the table of conferences: which participant has a dialog (RFC 3261 §12.2.2), how many participants a conference has, and their meters.
use Rattle.std.specs.Prelude.{ℕ, ◌&&◌, Bool, Option, Some, None, is_some, List, [], length, map, min, ◌-◌, ◌^◌, position, slice_get}
use Rattle.std.specs.Option.{option_map}
pub use Rattle.mmtel_leg.specs.Names.{has_name}
use Rattle.mmtel_leg.specs.declared.legs.Ended.{Ended}
use Rattle.mmtel_types.specs.declared.numbers.RoomNo.{RoomNo}
use Rattle.mmtel_focus.specs.Conferences.{Conference, ParticipantState}
use Rattle.mmtel_focus.specs.Participants.{dialogue_of, is_connected}
use Rattle.mmtel_focus.specs.Table.{conference_at, conference_of}
use Rattle.mmtel_participants.specs.Participants.{ended_leg}
pub use Rattle.mmtel_participants.specs.Participants.{ended_leg}

-- by Call-ID, the server's tag and the other side's tag
abbrev pub is_named : (call_id local remote : List ℕ) → ParticipantState → Bool
is_named call_id local remote seat = is_connected seat && has_name call_id local remote (dialogue_of seat)

abbrev pub number_of : Option ParticipantState → Option ℕ
number_of None = None
number_of (Some seat) = Some seat.number

abbrev pub number_at : (place : Option ℕ) → List ParticipantState → Option ℕ
number_at None all = None
number_at (Some place) all = number_of (slice_get all place)

-- the participant of a conference that has the dialog
abbrev pub seat_with_dialog : (call_id local remote : List ℕ) → Conference → Option ℕ
seat_with_dialog call_id local remote room = number_at (position (is_named call_id local remote) room.participants) room.participants

abbrev pub has_dialog : (call_id local remote : List ℕ) → Conference → Bool
has_dialog call_id local remote room = is_some (seat_with_dialog call_id local remote room)

abbrev pub room_and_seat : RoomNo → ℕ → RoomNo × ℕ
room_and_seat room seat = (room, seat)

abbrev pub room_and_seat_in : (call_id local remote : List ℕ) → Option Conference → Option (RoomNo × ℕ)
room_and_seat_in call_id local remote None = None
room_and_seat_in call_id local remote (Some room) = option_map (room_and_seat room.number) (seat_with_dialog call_id local remote room)

-- the conference and the participant that have the dialog
abbrev pub room_and_seat_with_dialog : (call_id local remote : List ℕ) → List Conference → Option (RoomNo × ℕ)
room_and_seat_with_dialog call_id local remote live = room_and_seat_in call_id local remote (conference_at (position (has_dialog call_id local remote) live) live)

-- the participants of a conference; none where it is not live
abbrev pub participants_in : Option Conference → List ParticipantState
participants_in None = []
participants_in (Some room) = room.participants

abbrev pub participants_of : (room : ℕ) → List Conference → List ParticipantState
participants_of room live = participants_in (conference_of room live)

-- how many participants there are, in 32 bits
abbrev pub participant_count : (room : ℕ) → List Conference → ℕ
participant_count room live = min (length (participants_of room live)) (2 ^ 32 - 1)

-- what remains of the participants of a conference that is closed
abbrev pub ended_legs : (room : ℕ) → List Conference → List Ended
ended_legs room live = map ended_leg (participants_of room live)

-- Queries on a table of conferences depend on its public part alone.
use Rattle.std.proofs.Common.{◌≡◌, ℕ, Bool, List, Option, Some, None, Ok, Err, refl, ap, sym, ◌∙◌, map}
use Rattle.std.specs.Option.{option_map}
use Rattle.std.specs.Prelude.{if◌then◌else◌, is_some, nat_le, position, slice_get}
use Rattle.mmtel_call_theorems.proofs.Noninterference.Leaving.{found, got, long}
use Rattle.mmtel_types.specs.declared.numbers.Peer.{Peer}
use Rattle.mmtel_focus.specs.Queries as names
use Rattle.mmtel_focus.specs.Queries.{has_dialog, has_name, is_named, number_at, number_of, room_and_seat, room_and_seat_in, seat_with_dialog}
use Rattle.mmtel_focus.specs.Conferences.{Conference}
use Rattle.mmtel_focus.specs.Table.{Table, access, access_at, access_to, conference_at, has_room_number, is_table_full, max_conferences, place_of}
use Rattle.mmtel_focus.specs.declared.faults.RoomFault.TheVariants.{RoomFull}
use Rattle.mmtel_participants.specs.declared.participants.Party.{Party}
use Rattle.mmtel_participants.specs.declared.participants.Party.TheVariants.{DialedIn, DialedOut, Invited}
use Rattle.mmtel_participants.specs.declared.participants.ParticipantState.{ParticipantState}
use Rattle.mmtel_focus_theorems.specs.Queries.{EquivalentRoomsAnswerEqually}
use Rattle.mmtel_focus_theorems.specs.PublicParts.{public_conference, public_participant, public_table}
use Rattle.mmtel_focus_theorems.proofs.EquivalentParticipants.{full_public}

module _ (known : Peer → Bool) where
  -- ---- whose dialog this is

  module _ (call_id local remote : List ℕ) where
    named_public : (v : ParticipantState) → is_named call_id local remote (public_participant known v) ≡ is_named call_id local remote v
    named_public v = by v.party
      where
        by : (p : Party) → is_named call_id local remote (public_participant known (record v { party = p })) ≡ is_named call_id local remote (record v { party = p })
        by (Invited leg) = refl
        by (DialedIn leg) = refl
        by (DialedOut leg) = refl

    number_public : (o : Option ParticipantState) → number_of (option_map (public_participant known) o) ≡ number_of o
    number_public None = refl
    number_public (Some v) = refl

    seat_public : (room : Conference) → seat_with_dialog call_id local remote (public_conference known room) ≡ seat_with_dialog call_id local remote room
    seat_public room =
        ap (λ (o : Option ℕ). number_at o (map (public_participant known) room.participants)) (found (public_participant known) (is_named call_id local remote) named_public room.participants)
        ∙ by (position (is_named call_id local remote) room.participants)
      where
        by : (o : Option ℕ) → number_at o (map (public_participant known) room.participants) ≡ number_at o room.participants
        by None = refl
        by (Some place) = ap number_of (got (public_participant known) room.participants place) ∙ number_public (slice_get room.participants place)

    dialog_public : (room : Conference) → has_dialog call_id local remote (public_conference known room) ≡ has_dialog call_id local remote room
    dialog_public room = ap (λ (o : Option ℕ). is_some o) (seat_public room)

    in_public : (o : Option Conference) → room_and_seat_in call_id local remote (option_map (public_conference known) o) ≡ room_and_seat_in call_id local remote o
    in_public None = refl
    in_public (Some room) = ap (λ (o : Option ℕ). option_map (room_and_seat room.number) o) (seat_public room)

    found_public : (live : List Conference) → names.room_and_seat_with_dialog call_id local remote (map (public_conference known) live) ≡ names.room_and_seat_with_dialog call_id local remote live
    found_public live =
        ap (λ (o : Option ℕ). room_and_seat_in call_id local remote (conference_at o (map (public_conference known) live))) (found (public_conference known) (has_dialog call_id local remote) dialog_public live)
        ∙ by (position (has_dialog call_id local remote) live)
      where
        by : (o : Option ℕ) → room_and_seat_in call_id local remote (conference_at o (map (public_conference known) live)) ≡ room_and_seat_in call_id local remote (conference_at o live)
        by None = refl
        by (Some place) = ap (λ (o : Option Conference). room_and_seat_in call_id local remote o) (got (public_conference known) live place) ∙ in_public (slice_get live place)

  -- ---- whether a conference is full

  to_public : (place : ℕ) (o : Option Conference) → access_to place (option_map (public_conference known) o) ≡ access_to place o
  to_public place None = refl
  to_public place (Some room) = ap (λ (b : Bool). if b then Err RoomFull else Ok place) (sym (full_public known room))

  access_public : (number : ℕ) (live : List Conference) → access number (map (public_conference known) live) ≡ access number live
  access_public number live =
      ap (λ (o : Option ℕ). access_at o (map (public_conference known) live)) (found (public_conference known) (has_room_number number) (λ room. refl) live) ∙ by (place_of number live)
    where
      by : (o : Option ℕ) → access_at o (map (public_conference known) live) ≡ access_at o live
      by None = refl
      by (Some place) = ap (λ (o : Option Conference). access_to place o) (got (public_conference known) live place) ∙ to_public place (slice_get live place)

  pub access_same : (number : ℕ) (us vs : List Conference) → map (public_conference known) us ≡ map (public_conference known) vs → access number us ≡ access number vs
  access_same number us vs a = sym (access_public number us) ∙ (ap (λ (l : List Conference). access number l) a ∙ access_public number vs)

  -- ---- tables

  named-same : (call_id local remote : List ℕ) (us vs : List Conference) → map (public_conference known) us ≡ map (public_conference known) vs →
      names.room_and_seat_with_dialog call_id local remote us ≡ names.room_and_seat_with_dialog call_id local remote vs
  named-same call_id local remote us vs a =
      sym (found_public call_id local remote us) ∙ (ap (λ (l : List Conference). names.room_and_seat_with_dialog call_id local remote l) a ∙ found_public call_id local remote vs)

  full_table : (live : List Conference) → is_table_full (map (public_conference known) live) ≡ is_table_full live
  full_table live = ap (nat_le max_conferences) (long (public_conference known) live)

  full-same : (us vs : List Conference) → map (public_conference known) us ≡ map (public_conference known) vs → is_table_full us ≡ is_table_full vs
  full-same us vs a = sym (full_table us) ∙ (ap (λ (l : List Conference). is_table_full l) a ∙ full_table vs)

  lives : (x y : Table) → public_table known x ≡ public_table known y → map (public_conference known) x.live ≡ map (public_conference known) y.live
  lives x y a = ap (λ (z : Table). z.live) a

pub equivalent_rooms_answer_equally : EquivalentRoomsAnswerEqually
equivalent_rooms_answer_equally = record {
  named = λ known call_id local remote x y a. named-same known call_id local remote x.live y.live (lives known x y a);
  takes = λ known room x y a. access_same known room x.live y.live (lives known x y a);
  full = λ known x y a. full-same known x.live y.live (lives known x y a);
}

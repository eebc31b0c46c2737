-- A participant is added, or the conference is full or does not exist.
use Rattle.std.proofs.Common.{◌≡◌, ℕ, Bool, true, false, refl, Option, Some, None, List}
use Rattle.std.specs.Prelude.{if◌then◌else◌, Ok, Err}
use Rattle.mmtel_focus.specs.Conferences.{Conference}
use Rattle.mmtel_focus.specs.Participants.{is_full}
use Rattle.mmtel_focus.specs.Table.{access_at, access_to, place_of}
use Rattle.mmtel_focus.specs.declared.faults.RoomFault.TheVariants.{RoomFull}
use Rattle.mmtel_run_definitions.specs.Access.{AccessIsGrantedOrRefused, is_place_or_fault}
use Rattle.std.specs.Prelude.{slice_get}

full_or_given : (place : ℕ) (b : Bool) → is_place_or_fault (if b then Err RoomFull else Ok place) ≡ true
full_or_given place true = refl
full_or_given place false = refl

in_room : (place : ℕ) (o : Option Conference) → is_place_or_fault (access_to place o) ≡ true
in_room place None = refl
in_room place (Some room) = full_or_given place (is_full room)

in_place : (o : Option ℕ) (live : List Conference) → is_place_or_fault (access_at o live) ≡ true
in_place None live = refl
in_place (Some place) live = in_room place (slice_get live place)

pub granted_or_refused : AccessIsGrantedOrRefused
granted_or_refused number live = in_place (place_of number live) live

-- Whoever asks to join a conference becomes a participant, or gets the response that the conference is full or that there is none of this number (RFC 4579 §5.1).
use Rattle.std.specs.Prelude.{◌≡◌, ℕ, Bool, true, false, List, Ok, Err}
use Rattle.std.specs.declared.result.Result.{Result}
use Rattle.mmtel_focus.specs.Conferences.{Conference}
use Rattle.mmtel_focus.specs.Table.{access}
use Rattle.mmtel_focus.specs.declared.faults.RoomFault.{RoomFault}
use Rattle.mmtel_focus.specs.declared.faults.RoomFault.TheVariants.{NoRoom, RoomFull, Gone, NoMemory}

-- the place of a conference that is not full, or why there is none: of all faults these two
abbrev pub is_place_or_fault : Result ℕ RoomFault → Bool
is_place_or_fault (Ok place) = true
is_place_or_fault (Err NoRoom) = false
is_place_or_fault (Err RoomFull) = true
is_place_or_fault (Err Gone) = true
is_place_or_fault (Err NoMemory) = false

abbrev pub AccessIsGrantedOrRefused : Type 0
AccessIsGrantedOrRefused = (number : ℕ) (live : List Conference) → is_place_or_fault (access number live) ≡ true

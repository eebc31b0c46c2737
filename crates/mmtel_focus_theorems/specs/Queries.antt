-- Queries on tables of conferences that are equal but for private places have the same results: which participant has a dialog (RFC 3261 §12.2.2), whether a conference is full,
-- and whether one more can be opened.
use Rattle.std.specs.Prelude.{◌≡◌, ℕ, Bool, List}
use Rattle.mmtel_types.specs.declared.numbers.Peer.{Peer}
use Rattle.mmtel_focus.specs.Queries.{room_and_seat_with_dialog}
use Rattle.mmtel_focus.specs.Table.{Table, access, is_table_full}
use Rattle.mmtel_focus_theorems.specs.Noninterference.{EquivalentConferences}

pub record EquivalentRoomsAnswerEqually : Type 0 where
  pub named : (known : Peer → Bool) (call_id local remote : List ℕ) (one other : Table) → EquivalentConferences known one other →
      room_and_seat_with_dialog call_id local remote one.live ≡ room_and_seat_with_dialog call_id local remote other.live
  pub takes : (known : Peer → Bool) (room : ℕ) (one other : Table) → EquivalentConferences known one other → access room one.live ≡ access room other.live
  pub full : (known : Peer → Bool) (one other : Table) → EquivalentConferences known one other → is_table_full one.live ≡ is_table_full other.live

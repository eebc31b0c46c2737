-- What is in a shelf: each item in a block of its own, with its rank beside it.
use Rattle.std.specs.Prelude.{◌≡◌, ℕ, List, map}
use Rattle.std.specs.List.{AllByRecursion}
use Rattle.mmtel_timers.specs.declared.shelves.Slot.{Slot}

-- the item
abbrev pub item_of : {X : Type 0} → Slot X → X
item_of slot = slot.block.value

-- the items
abbrev pub ranked_items : {X : Type 0} → List (Slot X) → List X
ranked_items slots = map item_of slots

-- its rank is beside it
abbrev pub IsRanked : {X : Type 0} → (X → ℕ) → Slot X → Type 0
IsRanked rank slot = slot.rank ≡ rank (item_of slot)

-- the rank of each is beside it
abbrev pub AreRanked : {X : Type 0} → (X → ℕ) → List (Slot X) → Type 0
AreRanked rank slots = AllByRecursion (IsRanked rank) slots

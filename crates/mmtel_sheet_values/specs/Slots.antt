-- The entries of the table of sheets by account, some of them empty: the sheets in them, and the accounts that have one.
use Rattle.std.specs.Prelude.{ℕ, List, [], ◌∷◌, Option, Some, None, map}
use Rattle.std.specs.Ordering.{nat_cmp}
use Rattle.std.specs.FinMap as finite
use Rattle.std.specs.FinSet as set
use Rattle.mmtel_sheet_values.specs.declared.values.Sheet.{Sheet}

-- the account with what is in its entry
abbrev pub with_slot : finite.FinMap nat_cmp Sheet → ℕ → Option Sheet → finite.FinMap nat_cmp Sheet
with_slot sheets a None = finite.remove sheets a
with_slot sheets a (Some s) = finite.insert sheets a s

-- the sheets in the entries
abbrev pub sheets_of : List (ℕ × Option Sheet) → finite.FinMap nat_cmp Sheet
sheets_of [] = finite.empty
sheets_of (place ∷ places) = with_slot (sheets_of places) place.0 place.1

-- the accounts that have an entry
abbrev pub accounts_of : List (ℕ × Option Sheet) → set.FinSet nat_cmp
accounts_of places = set.from_list (map (λ place. place.0) places)

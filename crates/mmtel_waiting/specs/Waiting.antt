-- How many calls a user may have at the same time: communication waiting, and network determined user busy (TS 24.615 §4.5.5).
use Rattle.std.specs.Prelude.{ℕ, Bool, nat_le, unwrap_or}
use Rattle.mmtel_sheet_values.specs.declared.values.Sheet.{Sheet}

-- one call, or with waiting the number in the record
abbrev pub capacity_of : Sheet → ℕ
capacity_of sheet = unwrap_or sheet.waiting 1

-- the user has as many live calls as it may have, or more
abbrev pub is_busy : ℕ → Sheet → Bool
is_busy live sheet = nat_le (capacity_of sheet) live

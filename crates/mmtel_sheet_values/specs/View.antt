-- Which record is in force for each account, for which accounts there is reserved space, and when registrations end.
use Rattle.std.specs.Prelude.{ℕ, Bool, true, nat_lt, Option, Some, None}
use Rattle.std.specs.Ordering.{nat_cmp}
use Rattle.std.specs.FinMap as map
use Rattle.std.specs.FinSet as set
use Rattle.mmtel_sheet_values.specs.declared.values.Sheet.{Sheet}

-- by the numbers of accounts: an account that has no sheet here never uploaded a record, the sheet of an account with reserved space is replaced without allocation, and a
-- registration that is not here has no end
pub record SheetsInForce : Type 0 where
  pub sheets : map.FinMap nat_cmp Sheet
  pub space : set.FinSet nat_cmp
  pub registration_ends : map.FinMap nat_cmp ℕ

-- no account has a sheet or space for one, and no registration an end
abbrev pub no_sheets : SheetsInForce
no_sheets = record { sheets = map.empty; space = set.empty; registration_ends = map.empty }

-- the sheet of the account
abbrev pub sheet_in : SheetsInForce → ℕ → Option Sheet
sheet_in v a = map.get v.sheets a

-- there is space for a sheet of the account
abbrev pub has_space : SheetsInForce → ℕ → Bool
has_space v a = set.contains v.space a

-- the moment at which the account's registration ends
abbrev pub registration_end_in : SheetsInForce → ℕ → Option ℕ
registration_end_in v a = map.get v.registration_ends a

-- this sheet in place of the account's previous one, and space for the next
abbrev pub with_sheet : SheetsInForce → ℕ → Sheet → SheetsInForce
with_sheet v a s = record v { sheets = map.insert v.sheets a s; space = set.insert v.space a }

-- space for a sheet of the account, and all else the same
abbrev pub with_space : SheetsInForce → ℕ → SheetsInForce
with_space v a = record v { space = set.insert v.space a }

-- the registration of the account ends at this moment, or has no end
abbrev pub with_registration_end : SheetsInForce → ℕ → Option ℕ → SheetsInForce
with_registration_end v a None = record v { registration_ends = map.remove v.registration_ends a }
with_registration_end v a (Some until) = record v { registration_ends = map.insert v.registration_ends a until }

-- registered at this moment, by the end of the registration, where it has one
abbrev pub is_registered : Option ℕ → ℕ → Bool
is_registered None now = true
is_registered (Some until) now = nat_lt now until

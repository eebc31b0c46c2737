-- How many calls keep each account busy.
use Rattle.std.specs.Prelude.{ℕ, ◌==◌, ◌-◌, ◌^◌, if◌then◌else◌, min, Option, Some, None}
use Rattle.std.specs.FinMap as map
use Rattle.std.specs.Ordering.{nat_cmp}
use Rattle.mmtel_types.specs.declared.numbers.Account.{Account}

-- keyed by account number: an account that has no entry is in no call
abbrev pub BusyCountsView : Type 0
BusyCountsView = map.FinMap nat_cmp ℕ

abbrev pub or_zero : Option ℕ → ℕ
or_zero None = 0
or_zero (Some count) = count

-- the number of calls that keep the account of this number busy
abbrev pub calls_of : BusyCountsView → ℕ → ℕ
calls_of counts number = or_zero (map.get counts number)

-- the same, limited to 32 bits
abbrev pub live_of : BusyCountsView → ℕ → ℕ
live_of counts number = min (calls_of counts number) (2 ^ 32 - 1)

-- one for the number of this account, zero for any other
abbrev pub one_of : Account → ℕ → ℕ
one_of account number = if account.0 == number then 1 else 0

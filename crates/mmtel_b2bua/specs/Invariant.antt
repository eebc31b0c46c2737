-- The table of calls as it is kept: each call in a block of its own on the heap, in ascending order of their numbers, with the number of live calls, and for each account the
-- number of calls that keep it busy.
use Rattle.std.specs.Prelude.{ℕ, ◌≡◌, ◌+◌, ◌&&◌, not, Bool, true, if◌then◌else◌, Option, Some, None, Result, Ok, Err, List, Box, count_by, map, sum_by}
use Rattle.mmtel_base.specs.declared.memory.NoMemory.{NoMemory}
use Rattle.mmtel_types.specs.declared.numbers.Account.{Account}
use Rattle.mmtel_call_services.specs.Busy.{BusyCountsView, calls_of, one_of}
use Rattle.mmtel_output.specs.Marks.{AreMarked, Ascend}
use Rattle.mmtel_output.specs.declared.index.Index.{Index}
use Rattle.mmtel_b2bua.specs.Entries.{is_live, origin_of, served_of}
use Rattle.mmtel_b2bua.specs.Marks.{marks_of}
use Rattle.mmtel_b2bua.specs.declared.entries.Entry.{Entry}

abbrev pub box_values : {X A : Type 0} → List (Box X A) → List X
box_values boxes = map (λ b. b.value) boxes

abbrev pub number_of : Entry → ℕ
number_of e = e.call.opening.number.0

-- one if this account has this number, otherwise zero
abbrev pub account_count : Option Account → ℕ → ℕ
account_count None number = 0
account_count (Some account) number = one_of account number

-- the same, summed over the accounts of a call
abbrev pub busy_count : ℕ → Entry → ℕ
busy_count number e = account_count (origin_of e) number + account_count (served_of e) number

-- this many are live, the last that was opened had this number, each is found by its marks, and these are the counts of calls that keep each account busy
pub record TableInvariant (es : List Entry) (opened living : ℕ) (index : Index) (busy : BusyCountsView) : Type 0 where
  pub ascend : Ascend number_of 0 es opened
  pub live_count : living ≡ count_by is_live es
  pub marked : AreMarked number_of marks_of index es
  pub counts : (number : ℕ) → calls_of busy number ≡ sum_by (busy_count number) es

-- ---- counts after a step

-- one if it holds, otherwise zero
abbrev pub one_if : Bool → ℕ
one_if b = if b then 1 else 0

-- whether a call stays and is live
abbrev pub lives_on : (gone : Bool) → Entry → Bool
lives_on gone e = not gone && is_live e

-- whether a call leaves: nothing more may be received for it, or memory ran out in its step
abbrev pub is_gone : Result Bool NoMemory → Bool
is_gone (Ok settled) = settled
is_gone (Err fault) = true

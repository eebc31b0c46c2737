-- Counts of calls and of faults of the program's environment (files, sinks, links, keepers), and calls that fail by their numbers.
use Rattle.std.specs.Prelude.{◌≡◌, ℕ, ◌≤◌, ◌==◌, List, Bool, OnOk, OnErr, IsErrOf}
use Rattle.std.specs.List.{list_any}
use Rattle.std.specs.declared.result.Result.{Result}
use Rattle.mmtel_base.specs.Numbers.{next_number}

-- whether the next call, after so many, fails by its number: calls are numbered from 1
abbrev pub fails_by_number : List ℕ → ℕ → Bool
fails_by_number failing calls = list_any (λ number. number == next_number calls) failing

-- a count rose: it is greater than before, or remains at the greatest u64
abbrev pub Rose : ℕ → ℕ → Type 0
Rose before now = next_number before ≤ now

-- the count rose at `Err`, and is as before at `Ok`
pub record HasCause {T E : Type 0} (before now : ℕ) (result : Result T E) : Type 0 where
  pub kept : OnOk result (now ≡ before)
  pub failed : OnErr result (Rose before now)

-- the same where one of the errors is out of memory: the count rose at `failed`, and is as before at `no_memory` and at `Ok`
pub record HasFaultCause {T E : Type 0} (failed no_memory : E) (before now : ℕ) (result : Result T E) : Type 0 where
  pub kept : OnOk result (now ≡ before)
  pub rose : IsErrOf result failed → Rose before now
  pub no_fault : IsErrOf result no_memory → now ≡ before

-- What is known of a keeper's contents, and the effect of each of its calls. What is not known is absent, before and after.
use Rattle.std.specs.Prelude.{◌≡◌, ℕ, List, ◌++◌, ◌↔◌, Bool, true, Some, None, IfOk, OnOk, OnErr, IsErrOf}
use Rattle.std.specs.declared.option.Option.{Option}
use Rattle.std.specs.declared.result.Result.{Result}
use Rattle.mmtel_types.specs.declared.numbers.Account.{Account}
use Rattle.mmtel_charging.specs.declared.rows.Row.{Row}
use Rattle.mmtel_base.specs.Numbers.{next_number}
use Rattle.mmtel_environment.specs.Counts.{fails_by_number}
use Rattle.mmtel_sheet_texts.specs.Texts.{put}
use Rattle.mmtel_keeper.specs.declared.keepers.KeepFault.{KeepFault}
use Rattle.mmtel_keeper.specs.declared.keepers.KeepFault.TheVariants.{Failed}

-- the records, each the text of an account, in the order in which the accounts first had one; and the charging rows, in the order in which they were added
pub record KeeperContents : Type 0 where
  pub sheets : List (Account × List ℕ)
  pub rows : List Row

-- the path that was bound last, how many calls were made, and the numbers of those that fail
pub record KeeperCalls : Type 0 where
  pub path : Option (List ℕ)
  pub calls : ℕ
  pub failing : List ℕ

-- whether the next call fails by its number
abbrev pub fails_next : KeeperCalls → Bool
fails_next calls = fails_by_number calls.failing calls.calls

-- after any call
abbrev pub with_next_call : KeeperCalls → KeeperCalls
with_next_call calls = record calls { calls = next_number calls.calls }

-- a call is counted whatever it returns, and fails exactly where its number is one of those that fail
abbrev pub IsCountedCall : {T : Type 0} → Option KeeperCalls → Option KeeperCalls → Result T KeepFault → Type 0
IsCountedCall None after result = after ≡ None
IsCountedCall (Some calls) after result = (after ≡ Some (with_next_call calls)) × (IsErrOf result Failed ↔ (fails_next calls ≡ true))

-- the same of a call that binds a path: one that returns a fault leaves the path that was bound last
abbrev pub IsCountedBind : {T : Type 0} → Option KeeperCalls → Option KeeperCalls → List ℕ → Result T KeepFault → Type 0
IsCountedBind None after path result = after ≡ None
IsCountedBind (Some calls) after path result =
    OnOk result (after ≡ Some (record (with_next_call calls) { path = Some path }))
    × OnErr result (after ≡ Some (with_next_call calls))
    × (IsErrOf result Failed ↔ (fails_next calls ≡ true))

-- where the contents are known, they become these at `Ok`, and are unchanged at `Err`
abbrev pub Becomes : {A T E : Type 0} → Option A → Option A → (A → A) → Result T E → Type 0
Becomes None after change result = after ≡ None
Becomes (Some held) after change result = OnOk result (after ≡ Some (change held)) × OnErr result (after ≡ Some held)

-- where the contents are known, the result is this part of them
abbrev pub ReturnsPart : {A T E : Type 0} → Option A → (A → T) → Result T E → Type 0
ReturnsPart None part result = Unit {0}
ReturnsPart (Some held) part result = IfOk result (λ told. told ≡ part held)

-- with this record in place of the account's previous one
abbrev pub with_sheet : Account → List ℕ → KeeperContents → KeeperContents
with_sheet account text held = record held { sheets = put account text held.sheets }

-- with rows after the others
abbrev pub with_rows : List Row → KeeperContents → KeeperContents
with_rows rows held = record held { rows = held.rows ++ rows }

-- How a run uses its keeper, and what the keeper exposes of it: it is bound to the store of the configuration, migrated and loaded, each once, and what is uploaded in the
-- run is stored there (3GPP TS 24.623 §5).
use Rattle.std.specs.Prelude.{◌≡◌, ◌≢◌, ◌⊎◌, ℕ, ◌||◌, Bool, true, false, List, Option, Some, None, IfSome, if◌then◌else◌}
use Rattle.std.specs.Option.{option_map}
use Rattle.mmtel_charging.specs.declared.rows.Row.{Row}
use Rattle.mmtel_records_in_force.specs.Texts.{Texts}
use Rattle.mmtel_keeper.specs.Contents.{KeeperCalls, KeeperContents, fails_next, with_next_call}
use Rattle.mmtel_keeper.specs.Migration.{AreContentsMigrated}
use Rattle.mmtel_environment.specs.Counts.{Rose}
use Rattle.mmtel_server.specs.States.{KeeperState}
use Rattle.mmtel_cli.specs.Commands.{IsCheck, IsWorkload, SpellsNone}

-- ---- binding and loading

-- after the call that binds it to the path
abbrev pub after_bind : (path : List ℕ) → KeeperCalls → KeeperCalls
after_bind path calls = record (with_next_call calls) { path = Some path }

-- whether it fails by the numbers of its calls: the next one, which binds it, fails, or else the one after that, which for `serve` and `replay` migrates it and for `charges`
-- reads its CDRs, or else, for `serve` and `replay`, the third, which loads it
abbrev pub fails_first_three : KeeperCalls → Bool
fails_first_three calls = fails_next calls || fails_next (with_next_call calls)

abbrev pub fails_opening : KeeperCalls → Bool
fails_opening calls = fails_first_three calls || fails_next (with_next_call (with_next_call calls))

-- its calls then; after one that fails it is not called again
abbrev pub after_rows_call : (path : List ℕ) → KeeperCalls → KeeperCalls
after_rows_call path calls = if fails_next calls then with_next_call calls else with_next_call (after_bind path calls)

abbrev pub after_opening : (path : List ℕ) → KeeperCalls → KeeperCalls
after_opening path calls = if fails_first_three calls then after_rows_call path calls else with_next_call (with_next_call (after_bind path calls))

-- these calls were made, where it exposes them, and one failed or none
abbrev pub IsOpening : (path : List ℕ) → Option KeeperCalls → Option KeeperCalls → (refused : Bool) → Type 0
IsOpening path None after refused = after ≡ None
IsOpening path (Some calls) after refused = (after ≡ Some (after_opening path calls)) × (fails_opening calls ≡ refused)

abbrev pub IsRowsCall : (path : List ℕ) → Option KeeperCalls → Option KeeperCalls → (refused : Bool) → Type 0
IsRowsCall path None after refused = after ≡ None
IsRowsCall path (Some calls) after refused = (after ≡ Some (after_rows_call path calls)) × (fails_first_three calls ≡ refused)

-- its contents, with each record of the first version replaced, where it exposes them
abbrev pub AreHeldMigrated : (before after : Option KeeperContents) → Type 0
AreHeldMigrated None after = after ≡ None
AreHeldMigrated (Some held) after = (later : KeeperContents) × (after ≡ Some later) × AreContentsMigrated held later

-- it was bound to the path, migrated and loaded, and returned these texts, which are those that it holds then, where it exposes them
pub record IsLoaded (path : List ℕ) (loaded : Texts) (old new : KeeperState) : Type 0 where
  pub calls : IsOpening path old.calls new.calls false
  pub exposed : IfSome new.contents (λ held. loaded ≡ held.sheets)
  pub held : AreHeldMigrated old.contents new.contents
  pub same_faults : new.faults ≡ old.faults

-- it was bound to the path and its CDRs were read, and it returned these, which are those that it holds, where it exposes them
pub record ReadsRows (path : List ℕ) (rows : List Row) (old new : KeeperState) : Type 0 where
  pub calls : IsRowsCall path old.calls new.calls false
  pub exposed : IfSome old.contents (λ held. rows ≡ held.rows)
  pub held : new.contents ≡ old.contents
  pub same_faults : new.faults ≡ old.faults

-- unchanged, or each record of the first version replaced
abbrev pub MayBeMigrated : (before after : Option KeeperContents) → Type 0
MayBeMigrated before after = (after ≡ before) ⊎ AreHeldMigrated before after

-- it could not be bound to the path, migrated or loaded: its count of faults rose. Where it exposes its calls, its contents are unchanged if it was not
-- migrated, and else each record of the first version was replaced
pub record IsNotLoaded (path : List ℕ) (old new : KeeperState) : Type 0 where
  pub calls : IsOpening path old.calls new.calls true
  pub held : MayBeMigrated old.contents new.contents
  pub unmigrated : IfSome old.calls (λ calls. fails_first_three calls ≡ true → new.contents ≡ old.contents)
  pub migrated : IfSome old.calls (λ calls. fails_first_three calls ≡ false → AreHeldMigrated old.contents new.contents)
  pub rose : Rose old.faults new.faults

-- it could not be bound to the path, or its CDRs not be read: its count of faults rose, and its contents are unchanged
pub record ReadsNoRows (path : List ℕ) (old new : KeeperState) : Type 0 where
  pub calls : IsRowsCall path old.calls new.calls true
  pub held : new.contents ≡ old.contents
  pub rose : Rose old.faults new.faults

-- memory ran out in these calls, or after them: it was called to bind the path, or bound to it and then called to read, and none of them failed
abbrev pub MayHaveReadRows : (path : List ℕ) → Option KeeperCalls → Option KeeperCalls → Type 0
MayHaveReadRows path None after = after ≡ None
MayHaveReadRows path (Some calls) after = ((after ≡ Some (with_next_call calls)) × (fails_next calls ≡ false)) ⊎ IsRowsCall path (Some calls) after false

abbrev pub MayHaveOpened : (path : List ℕ) → Option KeeperCalls → Option KeeperCalls → Type 0
MayHaveOpened path None after = after ≡ None
MayHaveOpened path (Some calls) after = MayHaveReadRows path (Some calls) after ⊎ IsOpening path (Some calls) after false

-- and it was not called otherwise
pub record OnlyOpened (path : List ℕ) (old new : KeeperState) : Type 0 where
  pub calls : MayHaveOpened path old.calls new.calls
  pub held : MayBeMigrated old.contents new.contents
  pub same_faults : new.faults ≡ old.faults

-- the same where its CDRs are read
pub record OnlyReadRows (path : List ℕ) (old new : KeeperState) : Type 0 where
  pub calls : MayHaveReadRows path old.calls new.calls
  pub held : new.contents ≡ old.contents
  pub same_faults : new.faults ≡ old.faults

-- ---- in a run

-- where it exposes its calls, the path that was bound last is unchanged
abbrev pub IsBoundStill : Option KeeperCalls → Option KeeperCalls → Type 0
IsBoundStill calls after = option_map (λ c. c.path) after ≡ option_map (λ c. c.path) calls

-- ---- where it is not called

-- it is unchanged without a command, for `check` and `workload`, and where the status reports a configuration or a script that cannot be read or is not valid
pub record IsSpared {K : Type 0} (words : List (List ℕ)) (status : ℕ) (before after : K) : Type 0 where
  pub unparsed : SpellsNone words → after ≡ before
  pub check : (records : List ℕ) → IsCheck records words → after ≡ before
  pub workload : (calls salt : ℕ) → IsWorkload calls salt words → after ≡ before
  pub early : status ≢ 0 → status ≢ 4 → status ≢ 6 → status ≢ 7 → status ≢ 8 → after ≡ before

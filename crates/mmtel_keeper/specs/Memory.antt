-- The keeper in memory, as contracts see it.
use Rattle.std.specs.Prelude.{◌≡◌, ◌<◌, ℕ, List, [], ◌∷◌, true, false, Ok, Err, All, length}
use Rattle.std.specs.declared.result.Result.{Result}
use Rattle.mmtel_types.specs.declared.numbers.Account.{Account}
use Rattle.mmtel_base.specs.Numbers.{next_number}
use Rattle.mmtel_sheet_texts.specs.Texts.{set_text}
use Rattle.mmtel_keeper.specs.Contents.{KeeperContents, KeeperCalls, fails_next, with_next_call}
use Rattle.mmtel_keeper.specs.Migration.{AreMigrated, first_version_count}
use Rattle.mmtel_keeper.specs.declared.keepers.KeepFault.{KeepFault}
use Rattle.mmtel_keeper.specs.declared.keepers.KeepFault.TheVariants.{Failed, NoMemory}

-- its contents, its calls, and the count of its faults
pub record MemoryKeeperView : Type 0 where
  pub contents : KeeperContents
  pub calls : KeeperCalls
  pub faults : ℕ

-- used between the functions of this crate only

-- a call at its start: it is counted, and fails exactly where its number is one of those that fail
abbrev pub BeginsCall : {T : Type 0} → MemoryKeeperView → MemoryKeeperView → Result T KeepFault → Type 0
BeginsCall before after (Ok x) = (fails_next before.calls ≡ false) × (after ≡ record before { calls = with_next_call before.calls })
BeginsCall before after (Err Failed) =
    (fails_next before.calls ≡ true) × (after ≡ record before { calls = with_next_call before.calls; faults = next_number before.faults })
BeginsCall before after (Err NoMemory) = ⊥

-- the sheets with these texts at their indices, from the last text to the first
abbrev pub set_all : List (ℕ × List ℕ) → List (Account × List ℕ) → List (Account × List ℕ)
set_all [] sheets = sheets
set_all (new ∷ more) sheets = set_text (set_all more sheets) new.0 new.1

-- each of these texts has its index among so many sheets
abbrev pub AreInRange : ℕ → List (ℕ × List ℕ) → Type 0
AreInRange many found = All (λ new. new.0 < many) found

-- texts with their indices, one for each record of the first version, which it replaces
pub record AreReplacements (sheets : List (Account × List ℕ)) (found : List (ℕ × List ℕ)) : Type 0 where
  pub migrated : AreMigrated sheets (set_all found sheets)
  pub many : length found ≡ first_version_count sheets
  pub within : AreInRange (length sheets) found

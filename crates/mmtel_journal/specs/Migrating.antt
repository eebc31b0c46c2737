-- Records of the second version that replace sheets, each with the index, and the sheets after the replacement.
use Rattle.std.specs.Prelude.{◌≡◌, ◌<◌, ℕ, List, [], ◌∷◌, All, length}
use Rattle.mmtel_types.specs.declared.numbers.Account.{Account}
use Rattle.mmtel_sheet_texts.specs.Texts.{set_text}
use Rattle.mmtel_keeper.specs.Migration.{AreMigrated, first_version_count}
use Rattle.mmtel_journal.specs.Payloads.{put_sheets, EachOnce}

-- the sheets with these texts at their indices, from the last text to the first
abbrev pub set_all : List (ℕ × (Account × List ℕ)) → List (Account × List ℕ) → List (Account × List ℕ)
set_all [] sheets = sheets
set_all (new ∷ more) sheets = set_text (set_all more sheets) new.0 new.1.1

-- the new sheets without their indices
abbrev pub sheets_in : List (ℕ × (Account × List ℕ)) → List (Account × List ℕ)
sheets_in [] = []
sheets_in (new ∷ more) = new.1 ∷ sheets_in more

-- each of these has its index among so many sheets
abbrev pub AreInRange : ℕ → List (ℕ × (Account × List ℕ)) → Type 0
AreInRange many found = All (λ new. new.0 < many) found

-- one for each record of the first version, which it replaces; put over the sheets of their accounts they give the same sheets
pub record AreReplacements (sheets : List (Account × List ℕ)) (found : List (ℕ × (Account × List ℕ))) : Type 0 where
  pub migrated : AreMigrated sheets (set_all found sheets)
  pub many : length found ≡ first_version_count sheets
  pub within : AreInRange (length sheets) found
  pub puts : EachOnce sheets → put_sheets (sheets_in found) sheets ≡ set_all found sheets

-- Records of the first version are replaced by records of the second with the same sheet (3GPP TS 24.623 §5).
use Rattle.std.specs.Prelude.{◌≡◌, ℕ, ◌∷◌, [], List, Bool, Some, None, Ok, Err, is_some, count_by}
use Rattle.std.specs.declared.option.Option.{Option}
use Rattle.std.specs.declared.result.Result.{Result}
use Rattle.mmtel_types.specs.declared.numbers.Account.{Account}
use Rattle.mmtel_sheet_grammar.specs.Texts.{old_sheet, sheet_read, version_read}
use Rattle.mmtel_sheet_grammar.specs.declared.keys.Version.TheVariants as version
use Rattle.mmtel_sheet_values.specs.declared.values.Sheet.{Sheet}
use Rattle.mmtel_keeper.specs.Contents.{KeeperContents}
use Rattle.mmtel_keeper.specs.declared.keepers.KeepFault.{KeepFault}

-- a record of the second version that reads as this sheet
pub record IsVersionTwo (sheet : Sheet) (text : List ℕ) : Type 0 where
  pub sheet_is : sheet_read text ≡ Ok sheet
  pub version_is : version_read text ≡ Ok version.Two

-- the text after the migration, by the sheet of the text if it is a record of the first version: any other text is unchanged
abbrev pub Replaces : (old : Option Sheet) → (before after : List ℕ) → Type 0
Replaces None before after = after ≡ before
Replaces (Some sheet) before after = IsVersionTwo sheet after

abbrev pub IsMigrated : (before after : List ℕ) → Type 0
IsMigrated before after = Replaces (old_sheet before) before after

-- the same accounts in the same order
abbrev pub AreMigrated : (before after : List (Account × List ℕ)) → Type 0
AreMigrated [] [] = Unit {0}
AreMigrated [] (y ∷ ys) = ⊥
AreMigrated (x ∷ xs) [] = ⊥
AreMigrated (x ∷ xs) (y ∷ ys) = (y.0 ≡ x.0) × IsMigrated x.1 y.1 × AreMigrated xs ys

-- how many are records of the first version
abbrev pub is_first_version : Account × List ℕ → Bool
is_first_version x = is_some (old_sheet x.1)

abbrev pub first_version_count : List (Account × List ℕ) → ℕ
first_version_count sheets = count_by is_first_version sheets

-- the stored sheets, each of the first version replaced, and the rows as they were
pub record AreContentsMigrated (before after : KeeperContents) : Type 0 where
  pub sheets : AreMigrated before.sheets after.sheets
  pub rows : after.rows ≡ before.rows

-- so, and the result is the number of those that were replaced
abbrev pub MigratesTo : KeeperContents → Option KeeperContents → Result ℕ KeepFault → Type 0
MigratesTo held after (Ok n) = (later : KeeperContents) × (after ≡ Some later) × AreContentsMigrated held later × (n ≡ first_version_count held.sheets)
MigratesTo held after (Err e) = after ≡ Some held

-- where the contents are known; a call that returns a fault changes nothing
abbrev pub Migrates : Option KeeperContents → Option KeeperContents → Result ℕ KeepFault → Type 0
Migrates None after result = after ≡ None
Migrates (Some held) after result = MigratesTo held after result

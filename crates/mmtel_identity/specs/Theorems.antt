-- The theorems about restriction, in the terms of the standards.
use Rattle.std.specs.Prelude.{◌≡◌, ◌↔◌, ◌⊎◌, true, false, Option, Some, None}
use Rattle.mmtel_types.specs.declared.privacy.PrivacySet.{PrivacySet}
use Rattle.mmtel_sheet_values.specs.declared.values.Restriction.{Restriction}
use Rattle.mmtel_sheet_values.specs.declared.values.Sheet.{Sheet}
use Rattle.mmtel_identity.specs.Restriction.{is_restricted, is_caller_restricted, is_callee_restricted}

-- one of the three words that restrict is in Privacy
abbrev pub HasPrivacyWord : PrivacySet → Type 0
HasPrivacyWord words = (words.id ≡ true) ⊎ (words.user ≡ true) ⊎ (words.header ≡ true)

-- none of them does
abbrev pub HasNoPrivacyWord : PrivacySet → Type 0
HasNoPrivacyWord words = (words.id ≡ false) × (words.user ≡ false) × (words.header ≡ false)

-- the service is active in its permanent mode
abbrev pub IsPermanent : Restriction → Type 0
IsPermanent service = (service.active ≡ true) × (service.permanent ≡ true)

-- the service is active in its temporary mode, and restricts where the user requests nothing
abbrev pub IsTemporary : Restriction → Type 0
IsTemporary service = (service.active ≡ true) × (service.permanent ≡ false) × (service.by_default ≡ true)

-- a restricting word restricts, whatever the record says
abbrev pub WordsRestrict : Type 0
WordsRestrict = (words : PrivacySet) (sheet : Option Sheet) → HasPrivacyWord words → (is_caller_restricted words sheet ≡ true) × (is_callee_restricted words sheet ≡ true)

-- the permanent mode restricts, whatever the words say
pub record PermanentRestricts : Type 0 where
  pub caller : (words : PrivacySet) (sheet : Sheet) → IsPermanent sheet.oir → is_caller_restricted words (Some sheet) ≡ true
  pub callee : (words : PrivacySet) (sheet : Sheet) → IsPermanent sheet.tir → is_callee_restricted words (Some sheet) ≡ true

-- where neither a word nor an active service requires it, nothing is restricted
pub record UnrequestedIsUnrestricted : Type 0 where
  pub unserved : (words : PrivacySet) → HasNoPrivacyWord words → (is_caller_restricted words None ≡ false) × (is_callee_restricted words None ≡ false)
  pub caller : (words : PrivacySet) (sheet : Sheet) → HasNoPrivacyWord words → sheet.oir.active ≡ false → is_caller_restricted words (Some sheet) ≡ false
  pub callee : (words : PrivacySet) (sheet : Sheet) → HasNoPrivacyWord words → sheet.tir.active ≡ false → is_callee_restricted words (Some sheet) ≡ false

-- the three grounds of a restriction
abbrev pub HasThreeGrounds : Type 0
HasThreeGrounds = (words : PrivacySet) (service : Restriction) →
    (is_restricted words service ≡ true) ↔ (HasPrivacyWord words ⊎ IsPermanent service ⊎ (IsTemporary service × (words.none ≡ false)))

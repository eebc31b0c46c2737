-- The content of the document of bytes is that of the bytes, as one function of them.
use Rattle.std.proofs.Common.{◌≡◌, ℕ, List, Option, Some, None, Result, Ok, Err, IfOk, refl, inl, inr, IsUtf8, sym, ◌∙◌}
use Rattle.std.proofs.lemmas.Bool.{cases_Bool}
use Rattle.std.proofs.lemmas.Str.{IsUtf8-from_is_utf8, is_utf8-from_IsUtf8}
use Rattle.std.specs.Str.{is_utf8}
use Rattle.toml.specs.Parse.{parse_document}
use Rattle.toml.specs.Data.{Members}
use Rattle.mmtel_sheet_grammar.specs.ReadResults.{Read, IsReadResult}
use Rattle.mmtel_sheet_grammar.specs.Texts.{sheet_read, version_read, ReportsRead, if_first_version, old_sheet}
use Rattle.mmtel_sheet_grammar.specs.Walk.{sheet_of, version_of}
use Rattle.mmtel_base.specs.declared.memory.NoMemory.{NoMemory as WantsMemory}
use Rattle.mmtel_sheet_grammar.specs.declared.faults.SheetFault.TheVariants.{NotToml, Unknown, Wrong, Many, NoMemory}
use Rattle.mmtel_sheet_values.specs.declared.values.Sheet.{Sheet}

whole : (bytes : List ℕ) (ms : Members) → IsUtf8 bytes → parse_document bytes ≡ Some ms → sheet_read bytes ≡ sheet_of ms
unfolding sheet_read
whole bytes ms text parsed = rw (is_utf8-from_IsUtf8 bytes text, parsed) refl

result_is_reported : (wanted : Read Sheet) (r : Read Sheet) → IsReadResult wanted r → ReportsRead wanted r
result_is_reported wanted (Ok s) a = a
result_is_reported wanted (Err NotToml) a = elim a [ ]
result_is_reported wanted (Err (Unknown k)) a = a
result_is_reported wanted (Err (Wrong k)) a = a
result_is_reported wanted (Err (Many k n)) a = a
result_is_reported wanted (Err NoMemory) a = tt

pub read_is_reported : (bytes : List ℕ) (ms : Members) (r : Read Sheet) → IsUtf8 bytes → parse_document bytes ≡ Some ms → IsReadResult (sheet_of ms) r → ReportsRead (sheet_read bytes) r
read_is_reported bytes ms r text parsed a = rw (whole bytes ms text parsed) (result_is_reported (sheet_of ms) r a)

pub no_document_is_reported : (bytes : List ℕ) → (IsUtf8 bytes → parse_document bytes ≡ None) → sheet_read bytes ≡ Err NotToml
unfolding sheet_read
no_document_is_reported bytes none =
    elim (cases_Bool (is_utf8 bytes)) [
      | inl y ↦ rw (y, none (IsUtf8-from_is_utf8 bytes y)) refl
      | inr n ↦ rw n refl
    ]

-- the sheet of a record of the first version, of the document that the bytes are, or that they are none
old_read_or_none : (bytes : List ℕ) (ms : Members) (o : Option Sheet) → IsUtf8 bytes → parse_document bytes ≡ Some ms → o ≡ if_first_version (version_of ms) (sheet_of ms) → o ≡ old_sheet bytes
unfolding sheet_read version_read
old_read_or_none bytes ms o text parsed is = is ∙ sym (rw (is_utf8-from_IsUtf8 bytes text, parsed) refl)

pub old_sheet_is_reported : (bytes : List ℕ) (ms : Members) (r : Result (Option Sheet) WantsMemory) → IsUtf8 bytes → parse_document bytes ≡ Some ms
    → IfOk r (λ o. o ≡ if_first_version (version_of ms) (sheet_of ms)) → IfOk r (λ o. o ≡ old_sheet bytes)
old_sheet_is_reported bytes ms (Ok o) text parsed is = old_read_or_none bytes ms o text parsed is
old_sheet_is_reported bytes ms (Err e) text parsed is = tt

pub none_old : (bytes : List ℕ) → (IsUtf8 bytes → parse_document bytes ≡ None) → old_sheet bytes ≡ None
unfolding sheet_read version_read
none_old bytes none =
    elim (cases_Bool (is_utf8 bytes)) [
      | inl y ↦ rw (y, none (IsUtf8-from_is_utf8 bytes y)) refl
      | inr n ↦ rw n refl
    ]

-- What is read of the document that the bytes are, as one function of the bytes.
use Rattle.std.proofs.Common.{◌≡◌, ℕ, List, Some, None, Ok, Err, refl, inl, inr, IsUtf8}
use Rattle.std.proofs.lemmas.Bool.{cases_Bool}
use Rattle.std.proofs.lemmas.Str.{IsUtf8-from_is_utf8, is_utf8-from_IsUtf8}
use Rattle.std.specs.Str.{is_utf8}
use Rattle.toml.specs.Parse.{parse_document}
use Rattle.toml.specs.Data.{Members}
use Rattle.mmtel_sheet_grammar.specs.ReadResults.{Read, IsReadResult}
use Rattle.mmtel_sheet_grammar.specs.declared.faults.SheetFault.TheVariants.{NotToml, Unknown, Wrong, Many, NoMemory}
use Rattle.mmtel_mwi.specs.Counting.{ReportsCounts, counts_of, counts_read}
use Rattle.mmtel_mwi.specs.declared.counts.Counts.{Counts}

whole : (bytes : List ℕ) (ms : Members) → IsUtf8 bytes → parse_document bytes ≡ Some ms → counts_read bytes ≡ counts_of ms
unfolding counts_read
whole bytes ms text parsed = rw (is_utf8-from_IsUtf8 bytes text, parsed) refl

reported_equally : (wanted : Read Counts) (r : Read Counts) → IsReadResult wanted r → ReportsCounts wanted r
reported_equally wanted (Ok c) a = a
reported_equally wanted (Err NotToml) a = elim a [ ]
reported_equally wanted (Err (Unknown k)) a = a
reported_equally wanted (Err (Wrong k)) a = a
reported_equally wanted (Err (Many k n)) a = a
reported_equally wanted (Err NoMemory) a = tt

pub reported_counts : (bytes : List ℕ) (ms : Members) (r : Read Counts) → IsUtf8 bytes → parse_document bytes ≡ Some ms → IsReadResult (counts_of ms) r → ReportsCounts (counts_read bytes) r
reported_counts bytes ms r text parsed a = rw (whole bytes ms text parsed) (reported_equally (counts_of ms) r a)

pub reported_not_toml : (bytes : List ℕ) → (IsUtf8 bytes → parse_document bytes ≡ None) → counts_read bytes ≡ Err NotToml
unfolding counts_read
reported_not_toml bytes none =
    elim (cases_Bool (is_utf8 bytes)) [
      | inl y ↦ rw (y, none (IsUtf8-from_is_utf8 bytes y)) refl
      | inr n ↦ rw n refl
    ]

-- What is printed of a sheet is UTF-8, is its document, and reads back to it.
use Rattle.std.proofs.Common.{◌≡◌, ℕ, ◌≤◌, true, List, Some, Ok, String, Global, IsUtf8, string_bytes, sym, ap, subst, refl, ◌∙◌, arith}
use Rattle.std.proofs.lemmas.Str.{IsUtf8-string_bytes, is_utf8-from_IsUtf8}
use Rattle.toml.specs.Data.{Members, members_depth, members_have_valid_dates}
use Rattle.toml.specs.Parse.{parse_document}
use Rattle.mmtel_sheet_grammar.specs.Texts.{version_read}
use Rattle.mmtel_sheet_grammar.specs.Walk.{IsDocumentReadAs}
use Rattle.mmtel_sheet_grammar.specs.declared.keys.Version.TheVariants as version
use Rattle.mmtel_sheet_values.specs.declared.values.Sheet.{Sheet}
use Rattle.mmtel_sheet_grammar.specs.Printable.{IsPrintable}
use Rattle.mmtel_sheets.specs.Printing.{document_of}
use Rattle.mmtel_sheets.proofs.Plain.{document_plain}
use Rattle.mmtel_sheets.proofs.TablesBack.{sheet_back, version_back}

wide : (n : ℕ) → n ≤ 4 → n ≤ 80
wide n h = omega arith

shallow : (s : Sheet) (ms : Members) → ms ≡ document_of s → members_depth ms ≤ 80
shallow s ms is = subst (λ (x : Members). members_depth x ≤ 80) (sym is) (wide (members_depth (document_of s)) (document_plain s).shallow)

pub dateless : (s : Sheet) (ms : Members) → ms ≡ document_of s → members_have_valid_dates ms ≡ true
dateless s ms is = ap members_have_valid_dates is ∙ (document_plain s).dateless

pub is_document : (s : Sheet) (ms : Members) (text : String Global) (t : List ℕ) → ms ≡ document_of s → t ≡ string_bytes text
    → (members_depth ms ≤ 80 → parse_document (string_bytes text) ≡ Some ms) → IsUtf8 t × (parse_document t ≡ Some (document_of s))
is_document s ms text t is same back =
    (subst (λ (x : List ℕ). IsUtf8 x) (sym same) (IsUtf8-string_bytes text), ap parse_document same ∙ back (shallow s ms is) ∙ ap Some is)

pub reads_back : (s : Sheet) (ms : Members) (text : String Global) (t : List ℕ) → IsPrintable s → ms ≡ document_of s → t ≡ string_bytes text
    → (members_depth ms ≤ 80 → parse_document (string_bytes text) ≡ Some ms) → IsDocumentReadAs t (Ok s)
reads_back s ms text t can is same back =
    let whole = is_document s ms text t is same back in
    (whole.0, document_of s, whole.1, sheet_back s can)

pub is_second : (s : Sheet) (ms : Members) (text : String Global) (t : List ℕ) → ms ≡ document_of s → t ≡ string_bytes text
    → (members_depth ms ≤ 80 → parse_document (string_bytes text) ≡ Some ms) → version_read t ≡ Ok version.Two
unfolding version_read
is_second s ms text t is same back =
    let whole = is_document s ms text t is same back in
    rw (is_utf8-from_IsUtf8 t whole.0, whole.1, version_back s) refl

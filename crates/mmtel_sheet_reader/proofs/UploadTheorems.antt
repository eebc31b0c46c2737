-- The result of reading a record, as an upload, and as the sheet of a text that was stored.
use Rattle.std.proofs.Common.{◌≡◌, ℕ, List, Ok, refl, sym, ap}
use Rattle.mmtel_sheet_grammar.specs.Texts.{sheet_read, sheet_or_empty, stored_sheet, ReportsFault}
use Rattle.mmtel_sheet_grammar.specs.declared.faults.SheetFault.{SheetFault}
use Rattle.mmtel_sheet_grammar.specs.declared.faults.SheetFault.TheVariants.{NotToml, Unknown, Wrong, Many, NoMemory}
use Rattle.mmtel_sheet_values.specs.Sheets.{empty_sheet}
use Rattle.mmtel_sheet_values.specs.declared.values.Sheet.{Sheet}
use Rattle.mmtel_sheet_reader.specs.declared.uploads.Upload.TheVariants.{Accepted, Refused}
use Rattle.mmtel_sheet_reader.specs.Uploads.{fault_text, upload_of, upload_of_read}

pub is_accepted : (bytes : List ℕ) (s : Sheet) → sheet_read bytes ≡ Ok s → Accepted s ≡ upload_of bytes
unfolding upload_of
is_accepted bytes s e = sym (ap upload_of_read e)

pub is_refused : (bytes : List ℕ) (e : SheetFault) → ReportsFault (sheet_read bytes) e → (e ≡ NoMemory → ⊥) → Refused (fault_text e) ≡ upload_of bytes
unfolding upload_of
is_refused bytes NotToml told other = sym (ap upload_of_read told)
is_refused bytes (Unknown key) told other = sym (ap upload_of_read told)
is_refused bytes (Wrong key) told other = sym (ap upload_of_read told)
is_refused bytes (Many key limit) told other = sym (ap upload_of_read told)
is_refused bytes NoMemory told other = absurd (other refl)

pub is_without_record : (bytes : List ℕ) (e : SheetFault) → ReportsFault (sheet_read bytes) e → (e ≡ NoMemory → ⊥) → empty_sheet ≡ stored_sheet bytes
is_without_record bytes NotToml told other = sym (ap sheet_or_empty told)
is_without_record bytes (Unknown key) told other = sym (ap sheet_or_empty told)
is_without_record bytes (Wrong key) told other = sym (ap sheet_or_empty told)
is_without_record bytes (Many key limit) told other = sym (ap sheet_or_empty told)
is_without_record bytes NoMemory told other = absurd (other refl)

-- The content of the text of a service record, as one function of its bytes (3GPP TS 24.623 §5).
use Rattle.std.specs.Prelude.{◌≡◌, ℕ, List, Option, Some, None, Ok, Err, if◌then◌else◌}
use Rattle.std.specs.Str.{is_utf8}
use Rattle.toml.specs.Parse.{parse_document}
use Rattle.toml.specs.Data.{Members}
use Rattle.mmtel_sheet_grammar.specs.ReadResults.{Read}
use Rattle.mmtel_sheet_grammar.specs.Walk.{sheet_of, version_of}
use Rattle.mmtel_sheet_grammar.specs.declared.keys.Version.{Version}
use Rattle.mmtel_sheet_grammar.specs.declared.keys.Version.TheVariants as version
use Rattle.mmtel_sheet_grammar.specs.declared.faults.SheetFault.{SheetFault}
use Rattle.mmtel_sheet_grammar.specs.declared.faults.SheetFault.TheVariants.{NotToml, Unknown, Wrong, Many, NoMemory}
use Rattle.mmtel_sheet_values.specs.declared.values.Sheet.{Sheet}
use Rattle.mmtel_sheet_values.specs.Sheets.{empty_sheet}

abbrev pub document_read : Option Members → Read Sheet
document_read None = Err NotToml
document_read (Some ms) = sheet_of ms

-- the sheet of the document that the bytes are, or the first fault
unfoldable pub sheet_read : List ℕ → Read Sheet
sheet_read bytes = if is_utf8 bytes then document_read (parse_document bytes) else Err NotToml

abbrev pub ReportsFault : Read Sheet → SheetFault → Type 0
ReportsFault wanted NotToml = wanted ≡ Err NotToml
ReportsFault wanted (Unknown key) = wanted ≡ Err (Unknown key)
ReportsFault wanted (Wrong key) = wanted ≡ Err (Wrong key)
ReportsFault wanted (Many key limit) = wanted ≡ Err (Many key limit)
ReportsFault wanted NoMemory = Unit {0}

-- this is returned, unless memory runs out
abbrev pub ReportsRead : Read Sheet → Read Sheet → Type 0
ReportsRead wanted (Ok s) = wanted ≡ Ok s
ReportsRead wanted (Err e) = ReportsFault wanted e

abbrev pub sheet_or_empty : Read Sheet → Sheet
sheet_or_empty (Ok s) = s
sheet_or_empty (Err e) = empty_sheet

-- the sheet of a text that was stored: where it is no record, that of an account without a record
abbrev pub stored_sheet : List ℕ → Sheet
stored_sheet bytes = sheet_or_empty (sheet_read bytes)

abbrev pub document_version : Option Members → Read Version
document_version None = Err NotToml
document_version (Some ms) = version_of ms

-- the version of the document that the bytes are
unfoldable pub version_read : List ℕ → Read Version
version_read bytes = if is_utf8 bytes then document_version (parse_document bytes) else Err NotToml

abbrev pub if_first_version : Read Version → Read Sheet → Option Sheet
if_first_version (Ok version.One) (Ok s) = Some s
if_first_version (Ok version.One) (Err e) = None
if_first_version (Ok version.Two) read = None
if_first_version (Err e) read = None

-- the sheet of a record of the first version; None of a later one, and of a text that is no record
abbrev pub old_sheet : List ℕ → Option Sheet
old_sheet bytes = if_first_version (version_read bytes) (sheet_read bytes)

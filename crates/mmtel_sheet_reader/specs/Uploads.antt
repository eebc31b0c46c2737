-- The content of an upload (3GPP TS 24.623 §5): a service record, or the line with the first fault of the bytes.
use Rattle.std.specs.Prelude.{ℕ, List, [], ◌++◌, Ok, Err, codes, decimal}
use Rattle.mmtel_sheet_grammar.specs.ReadResults.{Read}
use Rattle.mmtel_sheet_grammar.specs.Texts.{sheet_read}
use Rattle.mmtel_sheet_grammar.specs.declared.faults.SheetFault.{SheetFault}
use Rattle.mmtel_sheet_grammar.specs.declared.faults.SheetFault.TheVariants.{NotToml, Unknown, Wrong, Many, NoMemory}
use Rattle.mmtel_sheet_values.specs.declared.values.Sheet.{Sheet}
use Rattle.mmtel_sheet_reader.specs.declared.uploads.Upload.{Upload}
use Rattle.mmtel_sheet_reader.specs.declared.uploads.Upload.TheVariants.{Accepted, Refused}

-- the line with the fault
abbrev pub fault_text : SheetFault → List ℕ
fault_text NotToml = codes "not toml\n"
fault_text (Unknown key) = codes "unknown " ++ (key ++ codes "\n")
fault_text (Wrong key) = codes "wrong " ++ (key ++ codes "\n")
fault_text (Many key limit) = codes "many " ++ (key ++ (codes " " ++ (decimal limit ++ codes "\n")))
fault_text NoMemory = []

abbrev pub upload_of_read : Read Sheet → Upload
upload_of_read (Ok s) = Accepted s
upload_of_read (Err e) = Refused (fault_text e)

unfoldable pub upload_of : List ℕ → Upload
upload_of bytes = upload_of_read (sheet_read bytes)

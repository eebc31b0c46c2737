-- The empty text is a record without settings.
use Rattle.std.proofs.Common.{◌≡◌, [], Some, Ok, Err, true, refl, ap, ◌∙◌}
use Rattle.std.specs.Prelude.{if◌then◌else◌}
use Rattle.std.specs.Str.{is_utf8, chars}
use Rattle.toml.specs.Data.{no_members}
use Rattle.toml.specs.Parse.{parse_document, lines, skip_bom}
use Rattle.toml_parser.specs.Lexical.{skip_from}
use Rattle.mmtel_sheet_grammar.specs.Texts.{sheet_read, document_read}
use Rattle.mmtel_sheet_grammar.specs.declared.faults.SheetFault.TheVariants.{NotToml}
use Rattle.mmtel_sheet_values.specs.Sheets.{empty_sheet}
use Rattle.mmtel_sheet_reader.specs.Uploads.{upload_of, upload_of_read}
use Rattle.mmtel_sheet_reader.specs.declared.uploads.Upload.TheVariants.{Accepted}

text : is_utf8 [] ≡ true
unfolding is_utf8 chars
text = refl

parsed : parse_document [] ≡ Some no_members
unfolding parse_document lines skip_bom skip_from
parsed = refl

pub empty_text : sheet_read [] ≡ Ok empty_sheet
unfolding sheet_read
empty_text = ap (λ b. if b then document_read (parse_document []) else Err NotToml) text ∙ ap document_read parsed

pub empty_upload : upload_of [] ≡ Accepted empty_sheet
unfolding upload_of
empty_upload = ap upload_of_read empty_text

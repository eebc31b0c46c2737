use Rattle.std.proofs.Common.{◌≡◌, ◌∙◌, sym, List, ℕ, Ok, Some}
use Rattle.std.proofs.lemmas.Str.{is_utf8-from_IsUtf8}
use Rattle.mmtel_sheet_grammar.specs.Texts.{old_sheet, sheet_read}
use Rattle.mmtel_sheet_grammar.specs.Walk.{IsDocumentReadAs}
use Rattle.mmtel_sheet_values.specs.declared.values.Sheet.{Sheet}
use Rattle.mmtel_keeper.proofs.migration.migrated_text.Goals as goal

read_so : (text : List ℕ) (s : Sheet) → IsDocumentReadAs text (Ok s) → sheet_read text ≡ Ok s
unfolding sheet_read
read_so text s (utf8, ms, parsed, is) = rw (is_utf8-from_IsUtf8 text utf8, parsed) is

pub returns-in_ok-printed-in-Some-clause-replaced : goal.returns-in_ok-printed-in-Some-clause-replaced
returns-in_ok-printed-in-Some-clause-replaced c =
    let old : old_sheet c.args.text.now ≡ Some c.in-Some.sheet = sym c.in_ok-read_old_sheet.ensures.exact ∙ c.in-Some.is in
    rw old (record {
      sheet_is = read_so c.in_ok-printed-in-Some.field-0 c.in-Some.sheet c.in_ok-printed-in-Some.ensures.reads_back;
      version_is = c.in_ok-printed-in-Some.ensures.second;
    })

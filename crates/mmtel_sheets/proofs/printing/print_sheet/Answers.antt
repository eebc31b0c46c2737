use Rattle.std.proofs.Common.{◌∙◌, sym, ap, Err}
use Rattle.std.proofs.lemmas.Bool.{false≢true}
use Rattle.toml.specs.View.{table_view}
use Rattle.mmtel_sheets.proofs.Printed.{dateless, is_document, is_second, reads_back}
use Rattle.mmtel_sheets.proofs.printing.print_sheet.Goals as goal

pub returns-in-Ok-clause-document : goal.returns-in-Ok-clause-document
returns-in-Ok-clause-document c = is_document c.args.sheet.now (table_view c.in_ok-table.table) c.in-Ok.text c.in_ok-of-in-Ok.field-0 c.in_ok-table.ensures
    (c.in_ok-of-in-Ok.ensures ∙ c.as_bytes.ensures.value) c.in-Ok.ensures.reads_back

pub returns-in-Ok-clause-reads_back : goal.returns-in-Ok-clause-reads_back
returns-in-Ok-clause-reads_back c = reads_back c.args.sheet.now (table_view c.in_ok-table.table) c.in-Ok.text c.in_ok-of-in-Ok.field-0 c.requires c.in_ok-table.ensures
    (c.in_ok-of-in-Ok.ensures ∙ c.as_bytes.ensures.value) c.in-Ok.ensures.reads_back

pub returns-in-Ok-clause-second : goal.returns-in-Ok-clause-second
returns-in-Ok-clause-second c = is_second c.args.sheet.now (table_view c.in_ok-table.table) c.in-Ok.text c.in_ok-of-in-Ok.field-0 c.in_ok-table.ensures
    (c.in_ok-of-in-Ok.ensures ∙ c.as_bytes.ensures.value) c.in-Ok.ensures.reads_back

pub unreachable-requires : goal.unreachable-requires
unreachable-requires c =
    let bad = c.in-Err-DateInvalid.ensures.dates.0 (ap Err c.in-Err-DateInvalid.field-0-is) in
    absurd (false≢true (sym bad ∙ dateless c.args.sheet.now (table_view c.in_ok-table.table) c.in_ok-table.ensures))

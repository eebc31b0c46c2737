use Rattle.toml.specs.View.{table_view}
use Rattle.mmtel_sheet_reader.proofs.BytesRead.{old_sheet_is_reported}
use Rattle.mmtel_sheet_reader.proofs.reading.read_old_sheet.Goals as goal

pub returns-in-Ok-clause-exact : goal.returns-in-Ok-clause-exact
returns-in-Ok-clause-exact c =
    old_sheet_is_reported c.args.bytes.now (table_view c.in-Ok.table) c.first_version_sheet.result c.in-Ok.ensures.ok.0 c.in-Ok.ensures.ok.1 c.first_version_sheet.ensures.exact

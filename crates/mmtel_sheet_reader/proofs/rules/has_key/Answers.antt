use Rattle.std.proofs.Common.{◌∙◌, sym, ap, rules}
use Rattle.std.specs.Option.{is_some}
use Rattle.toml.specs.View.{view}
use Rattle.toml.proofs.Views.{table_get}
use Rattle.mmtel_sheet_reader.proofs.Members.{some-mapped}
use Rattle.mmtel_sheet_reader.proofs.rules.has_key.Goals as goal

pub returns : goal.returns
returns c =
    let found = table_get c.get.result c.args.name.now c.args.table.now.entries c.get.ensures.value in
    let same = sym (some-mapped (λ x. view x.now) c.get.result) ∙ ap is_some found in
    search rules

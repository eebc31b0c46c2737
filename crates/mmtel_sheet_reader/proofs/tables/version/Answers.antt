use Rattle.std.proofs.Common.{◌∙◌, sym, ap, subst, codes}
use Rattle.std.specs.Option.{option_map}
use Rattle.toml.specs.View.{view}
use Rattle.toml.proofs.Views.{table_get}
use Rattle.mmtel_sheet_grammar.specs.ReadResults.{IsReadResult}
use Rattle.mmtel_sheet_grammar.specs.Walk.{version_or_first}
use Rattle.mmtel_sheet_reader.proofs.tables.version.Goals as goal

pub returns-in-None : goal.returns-in-None
returns-in-None c =
    let found = table_get c.get.result (codes "version") c.args.table.now.entries c.get.ensures.value in
    record { exact = ap version_or_first (sym found ∙ ap (option_map (λ x. view x.now)) c.in-None.is) }

pub returns-in-Some : goal.returns-in-Some
returns-in-Some c =
    let found = table_get c.get.result (codes "version") c.args.table.now.entries c.get.ensures.value in
    let read = ap version_or_first (sym found ∙ ap (option_map (λ x. view x.now)) c.in-Some.is) in
    record { exact = subst (λ wanted. IsReadResult wanted c.version_at.result) (sym read) c.version_at.ensures.exact }

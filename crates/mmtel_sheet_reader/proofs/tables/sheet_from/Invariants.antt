use Rattle.std.proofs.Common.{◌≡◌}
use Rattle.toml.specs.View.{members_view}
use Rattle.mmtel_sheet_grammar.specs.Walk.{sheet_from}
use Rattle.mmtel_sheet_values.specs.Sheets.{empty_sheet}
use Rattle.mmtel_sheet_reader.proofs.Sounds.{IsLeft}
use Rattle.mmtel_sheet_reader.proofs.tables.sheet_from.Given as goal

abbrev pub invariant-members : goal.invariant-members
invariant-members l =
    (goal.iterator-members).can_next l.key-iterator ×
    (goal.iterator-members).is_finite l.key-iterator ×
    (sheet_from l.version l.sheet (members_view l.key-iterator) ≡ sheet_from l.version empty_sheet (members_view l.table.entries)) ×
    IsLeft l.table.entries l.key-iterator

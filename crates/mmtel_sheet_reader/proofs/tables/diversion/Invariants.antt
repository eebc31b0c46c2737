use Rattle.std.proofs.Common.{◌≡◌}
use Rattle.toml.specs.View.{members_view}
use Rattle.mmtel_sheet_grammar.specs.Rules.{members_from}
use Rattle.mmtel_sheet_grammar.specs.Walk.{diversion_key, no_diversion_keys}
use Rattle.mmtel_sheet_reader.proofs.Sounds.{IsLeft}
use Rattle.mmtel_sheet_reader.proofs.tables.diversion.Given as goal

abbrev pub invariant-members : goal.invariant-members
invariant-members l =
    (goal.iterator-members).can_next l.key-iterator ×
    (goal.iterator-members).is_finite l.key-iterator ×
    (members_from l.path (λ at r k d. diversion_key l.version at r k d) l.draft (members_view l.key-iterator)
    ≡ members_from l.path (λ at r k d. diversion_key l.version at r k d) no_diversion_keys (members_view l.table.entries)) ×
    IsLeft l.table.entries l.key-iterator

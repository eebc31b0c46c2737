use Rattle.mmtel_sheet_grammar.specs.Rules.{rules_from}
use Rattle.mmtel_sheet_reader.proofs.Items.{IsReadTo}
use Rattle.mmtel_sheet_reader.proofs.rules.each_rule.Given as goal

abbrev pub invariant-items : goal.invariant-items
invariant-items l = IsReadTo (rules_from l.schema l.path) l.item-items l.item-index l.rules

use Rattle.std.proofs.Common.{◌≡◌, take}
use Rattle.toml.specs.Data.{table}
use Rattle.toml.specs.View.{items_view}
use Rattle.mmtel_sheets.specs.Printing.{each_item, rule_data}
use Rattle.mmtel_sheets.proofs.rules.rules_value.Given as goal

abbrev pub invariant-rules : goal.invariant-rules
invariant-rules l = items_view l.array.items ≡ each_item (λ r. table (rule_data l.service r)) (take l.rule-index l.rules)

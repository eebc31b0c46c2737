use Rattle.std.proofs.Common.{◌≡◌, ◌∙◌, ap}
use Rattle.toml.specs.Data.{table}
use Rattle.toml.specs.View.{view}
use Rattle.toml.specs.declared.value.Value.{Table}
use Rattle.toml.proofs.Views.{view-Table}
use Rattle.mmtel_sheets.specs.Printing.{rule_data}
use Rattle.mmtel_sheets.proofs.Items.{item_added, items_done}
use Rattle.mmtel_sheets.proofs.rules.rules_value.Goals as goal

pub rules-preserved : goal.rules-preserved
rules-preserved c =
    let seen : view (Table c.in_ok-rule_table.field-0) ≡ table (rule_data c.args.service c.rule-item.result) = view-Table c.in_ok-rule_table.field-0 ∙ ap table c.in_ok-rule_table.ensures in
    item_added (λ r. table (rule_data c.args.service r)) c.args.rules.now c.rules.rule-index c.rule-item.result c.rules.array.items c.push.new.self.items
    (Table c.in_ok-rule_table.field-0) c.rules-test.true c.rule-item.is c.in_ok-push.ensures.items seen c.rules.invariant

pub returns : goal.returns
returns c = items_done (λ r. table (rule_data c.args.service r)) c.args.rules.now c.rules.rule-index c.rules.array c.rules-test.false c.rules.invariant

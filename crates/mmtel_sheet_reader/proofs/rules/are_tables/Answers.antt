use Rattle.std.proofs.Common.{refl, sym, ◌∙◌}
use Rattle.mmtel_sheet_reader.proofs.RuleItems.{table_passed, no_table, all_tables}
use Rattle.mmtel_sheet_reader.proofs.rules.are_tables.Goals as goal

pub items-init : goal.items-init
items-init c = refl

pub items-preserved : goal.items-preserved
items-preserved c = table_passed c.deref-item-items.result.now c.args.items.now.items c.deref-item-items.ensures.value c.items.item-index c.items.invariant c.item-item.result c.items-test.true
    c.item-item.is (sym c.is_table.ensures ∙ c.if-not-is_table.false)

pub returns-then-not-is_table : goal.returns-then-not-is_table
returns-then-not-is_table c = no_table c.deref-item-items.result.now c.args.items.now.items c.deref-item-items.ensures.value c.items.item-index c.items.invariant c.item-item.result c.items-test.true
    c.item-item.is (sym c.is_table.ensures ∙ c.if-not-is_table.true)

pub returns : goal.returns
returns c = all_tables c.deref-item-items.result.now c.args.items.now.items c.deref-item-items.ensures.value c.items.item-index c.items.invariant c.items-test.false

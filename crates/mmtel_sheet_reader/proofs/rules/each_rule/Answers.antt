use Rattle.std.proofs.Common.{refl}
use Rattle.std.proofs.lemmas.Result.{err_from_is_err_and}
use Rattle.mmtel_sheet_grammar.specs.Rules.{rules_from}
use Rattle.mmtel_sheet_reader.proofs.Items.{items_begin, items_step, items_refused, items_read, items_sound}
use Rattle.mmtel_sheet_reader.proofs.RuleItems.{next_rule, rules_go}
use Rattle.mmtel_sheet_reader.proofs.rules.each_rule.Goals as goal

pub items-init : goal.items-init
items-init c = rw c.new-rules.ensures (items_begin (rules_from c.args.schema c.args.path.now) c.deref-item-items.result.now)

pub items-preserved : goal.items-preserved
items-preserved c = items_step (rules_from c.args.schema c.args.path.now) c.deref-item-items.result.now (next_rule c.args.schema c.args.path.now)
    (rules_go c.args.schema c.args.path.now) c.items.item-index c.item-item.result c.in_ok-next_rule.field-0 c.items.rules c.push.new.self c.items-test.true c.item-item.is
    c.in_ok-next_rule.ensures.exact c.in_ok-next_rule.ensures.sound c.in_ok-push.ensures.ok c.items.invariant

pub returns-in_err-next_rule : goal.returns-in_err-next_rule
returns-in_err-next_rule c =
    let p = err_from_is_err_and c.from_residual.result c.from_residual.ensures.1 in
    record {
      exact = rw (p.1, p.2) (items_refused (rules_from c.args.schema c.args.path.now) c.deref-item-items.result.now (next_rule c.args.schema c.args.path.now)
          (rules_go c.args.schema c.args.path.now) c.args.items.now.items c.items.item-index c.item-item.result c.items.rules c.in_err-next_rule.field-0.0 c.deref-item-items.ensures.value
          c.items-test.true c.item-item.is c.in_err-next_rule.ensures.exact c.items.invariant);
      sound = rw p.1 tt;
    }

pub returns-in_err-push : goal.returns-in_err-push
returns-in_err-push c =
    let p = err_from_is_err_and c.from_residual-in_err-push.result c.from_residual-in_err-push.ensures.1 in
    record { exact = rw (p.1, p.2) tt; sound = rw p.1 tt }

pub returns : goal.returns
returns c = record {
  exact = items_read (rules_from c.args.schema c.args.path.now) c.deref-item-items.result.now
      (λ done. refl) c.args.items.now.items c.items.item-index c.items.rules c.deref-item-items.ensures.value c.items-test.false c.items.invariant;
  sound = items_sound (rules_from c.args.schema c.args.path.now) c.deref-item-items.result.now c.args.items.now.items c.items.item-index c.items.rules c.deref-item-items.ensures.value
      c.items-test.false c.items.invariant;
}

use Rattle.std.proofs.lemmas.Result.{err_from_is_err_and}
use Rattle.mmtel_sheet_reader.proofs.DayItems.{days_begin, days_step, days_refused, days_named, days_sound}
use Rattle.mmtel_sheet_reader.proofs.elements.each_day.Goals as goal

pub items-init : goal.items-init
items-init c = days_begin c.args.at.now c.deref-item-items.result.now

pub items-preserved : goal.items-preserved
items-preserved c = days_step c.args.at.now c.deref-item-items.result.now c.items.item-index c.item-item.result c.items.days c.in_ok-days.days c.items-test.true c.item-item.is
    c.in_ok-days.ensures.exact c.in_ok-days.ensures.sound c.items.invariant

pub returns-in_err-days : goal.returns-in_err-days
returns-in_err-days c =
    let p = err_from_is_err_and c.from_residual.result c.from_residual.ensures.1 in
    record {
      exact = rw (p.1, p.2) (days_refused c.args.at.now c.deref-item-items.result.now c.args.items.now.items c.items.item-index c.item-item.result c.items.days c.in_err-days.field-0.0
          c.deref-item-items.ensures.value c.items-test.true c.item-item.is c.in_err-days.ensures.exact c.items.invariant);
      sound = rw p.1 tt;
    }

pub returns : goal.returns
returns c = record {
  exact = days_named c.args.at.now c.deref-item-items.result.now c.args.items.now.items c.items.item-index c.items.days c.deref-item-items.ensures.value c.items-test.false c.items.invariant;
  sound = days_sound c.args.at.now c.deref-item-items.result.now c.args.items.now.items c.items.item-index c.items.days c.deref-item-items.ensures.value c.items-test.false c.items.invariant;
}

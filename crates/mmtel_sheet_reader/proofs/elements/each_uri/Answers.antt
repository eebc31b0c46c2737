use Rattle.std.proofs.Common.{refl}
use Rattle.std.proofs.lemmas.Result.{err_from_is_err_and}
use Rattle.mmtel_sheet_grammar.specs.Elements.{items_from, uri_at}
use Rattle.mmtel_sheet_reader.proofs.Items.{items_begin, items_step, items_refused, items_read, items_sound}
use Rattle.mmtel_sheet_reader.proofs.elements.each_uri.Goals as goal

pub items-init : goal.items-init
items-init c = rw c.new-uris.ensures (items_begin (items_from (uri_at c.args.at.now)) c.deref-item-items.result.now)

pub items-preserved : goal.items-preserved
items-preserved c = items_step (items_from (uri_at c.args.at.now)) c.deref-item-items.result.now (λ done d. uri_at c.args.at.now d) (λ done d ds. refl) c.items.item-index c.item-item.result
    c.in_ok-uri.field-0 c.items.uris c.push.new.self c.items-test.true c.item-item.is c.in_ok-uri.ensures.exact c.in_ok-uri.ensures.sound c.in_ok-push.ensures.ok c.items.invariant

pub returns-in_err-uri : goal.returns-in_err-uri
returns-in_err-uri c =
    let p = err_from_is_err_and c.from_residual.result c.from_residual.ensures.1 in
    record {
      exact = rw (p.1, p.2) (items_refused (items_from (uri_at c.args.at.now)) c.deref-item-items.result.now (λ done d. uri_at c.args.at.now d) (λ done d ds. refl) c.args.items.now.items
          c.items.item-index c.item-item.result c.items.uris c.in_err-uri.field-0.0 c.deref-item-items.ensures.value c.items-test.true c.item-item.is c.in_err-uri.ensures.exact c.items.invariant);
      sound = rw p.1 tt;
    }

pub returns-in_err-push : goal.returns-in_err-push
returns-in_err-push c =
    let p = err_from_is_err_and c.from_residual-in_err-push.result c.from_residual-in_err-push.ensures.1 in
    record { exact = rw (p.1, p.2) tt; sound = rw p.1 tt }

pub returns : goal.returns
returns c = record {
  exact = items_read (items_from (uri_at c.args.at.now)) c.deref-item-items.result.now
      (λ done. refl) c.args.items.now.items c.items.item-index c.items.uris c.deref-item-items.ensures.value c.items-test.false c.items.invariant;
  sound = items_sound (items_from (uri_at c.args.at.now)) c.deref-item-items.result.now c.args.items.now.items c.items.item-index c.items.uris c.deref-item-items.ensures.value c.items-test.false c.items.invariant;
}

use Rattle.std.proofs.Common.{◌≡◌, subst, ◌+◌, ◌-◌, ◌/◌, ◌≤◌, ◌<◌, ◌*◌, true, false, length, refl, sym, ap, ◌∙◌, arith}
use Rattle.std.specs.Prelude.{option_copied, slice_index_or, Some, None}
use Rattle.std.proofs.lemmas.List.{length-map}
use Rattle.std.proofs.lemmas.List.Elements.{at_read}
use Rattle.std.proofs.lemmas.Option.{slice_get_read}
use Rattle.mmtel_timers.proofs.Halving.{all_before, bounded, halved, none_before}
use Rattle.mmtel_timers.specs.Ranks.{item_of}
use Rattle.mmtel_timers.proofs.Mapped.{found_mapped, read_mapped}
use Rattle.mmtel_timers.proofs.shelves.Shelf.seek.Goals as goal

pub loop-low-preserved-then-comes_before : goal.loop-low-preserved-then-comes_before
loop-low-preserved-then-comes_before g c =
    let i = c.loop-low.invariant in
    let p = g.M.SearchKey.before c.args.key.now in
    let xs = c.args.self.now in
    let low = c.loop-low.low in
    let high = c.loop-low.high in
    let m = low + (high - low) / 2 in
    let some : low < high = c.loop-low-test.true in
    let more : 2 * (high - (m + 1)) ≤ high - low = omega (arith, some) in
    let any : 1 ≤ high - low = omega (arith, some) in
    let inside : m < length xs = omega (arith, some, i.1) in
    let slots = c.self.inside.items.items in
    let slot = c.index-slot.result.now in
    let x = item_of slot in
    let read : x ≡ slice_index_or xs m x = read_mapped item_of slots m slot x xs (subst (λ n. m < n) (sym (ap length c.self.view_is)) inside) c.index-slot.ensures refl c.self.view_is in
    let found = at_read xs (λ x. p x ≡ true) m x inside read (sym c.comes_before.ensures ∙ c.if-comes_before.true) in (
      omega (arith, some),
      i.1,
      omega (arith, i.2, c.tick.ensures.one),
      all_before p xs c.requires m inside found,
      i.4,
      i.5,
      halved c.args.steps.now c.loop-low.steps c.tick.new.self (high - low) (high - (m + 1)) (length xs) i.2 c.tick.ensures.one i.6 more,
      bounded c.args.steps.now c.loop-low.steps c.tick.new.self (high - low) (length xs) i.2 c.tick.ensures.one i.6 any,
    )

pub loop-low-preserved : goal.loop-low-preserved
loop-low-preserved g c =
    let i = c.loop-low.invariant in
    let p = g.M.SearchKey.before c.args.key.now in
    let xs = c.args.self.now in
    let low = c.loop-low.low in
    let high = c.loop-low.high in
    let m = low + (high - low) / 2 in
    let some : low < high = c.loop-low-test.true in
    let more : 2 * (m - low) ≤ high - low = omega (arith, some) in
    let any : 1 ≤ high - low = omega (arith, some) in
    let inside : m < length xs = omega (arith, some, i.1) in
    let slots = c.self.inside.items.items in
    let slot = c.index-slot.result.now in
    let x = item_of slot in
    let read : x ≡ slice_index_or xs m x = read_mapped item_of slots m slot x xs (subst (λ n. m < n) (sym (ap length c.self.view_is)) inside) c.index-slot.ensures refl c.self.view_is in
    let long : length xs ≡ length slots = sym (ap length c.self.view_is) ∙ length-map slots item_of in
    let found = at_read xs (λ x. p x ≡ false) m x inside read (sym c.comes_before.ensures ∙ c.if-comes_before.false) in (
      omega (arith, some),
      omega (arith, some, i.1),
      omega (arith, i.2, c.tick.ensures.one),
      i.3,
      none_before p xs c.requires m inside found,
      sym (slice_get_read slots (length slots) m slot refl (subst (λ n. m < n) long inside) c.index-slot.ensures),
      halved c.args.steps.now c.loop-low.steps c.tick.new.self (high - low) (m - low) (length xs) i.2 c.tick.ensures.one i.6 more,
      bounded c.args.steps.now c.loop-low.steps c.tick.new.self (high - low) (length xs) i.2 c.tick.ensures.one i.6 any,
    )

pub returns-in-None-clause-item : goal.returns-in-None-clause-item
returns-in-None-clause-item g c =
    let at : c.loop-low.high ≡ c.loop-low.low = omega (arith, c.loop-low.invariant.0, c.loop-low-test.false) in
    found_mapped item_of c.self.inside.items.items (option_copied c.loop-low.found) None c.loop-low.high c.loop-low.low c.args.self.now c.loop-low.invariant.5 (ap option_copied c.in-None.is) at c.self.view_is

pub returns-in-Some-clause-item : goal.returns-in-Some-clause-item
returns-in-Some-clause-item g c =
    let at : c.loop-low.high ≡ c.loop-low.low = omega (arith, c.loop-low.invariant.0, c.loop-low-test.false) in
    let found = Some c.in-Some.slot.now in
    ap Some c.as_ref.ensures
    ∙ found_mapped item_of c.self.inside.items.items (option_copied c.loop-low.found) found c.loop-low.high c.loop-low.low c.args.self.now c.loop-low.invariant.5 (ap option_copied c.in-Some.is) at c.self.view_is

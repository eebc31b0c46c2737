use Rattle.std.proofs.Common.{◌≡◌, Some, None, refl, sym, ap, ◌∙◌, subst, add-one, arith, length, suc, drop}
use Rattle.std.specs.Prelude.{slice_get}
use Rattle.std.proofs.lemmas.Option.{slice_get-get_or}
use Rattle.mmtel_transaction.specs.Deadlines.{at_place, foremost, foremost_from, sooner_of}
use Rattle.mmtel_transaction.proofs.Reliable.{foremost_next, foremost_past}
use Rattle.mmtel_transaction.proofs.entries.foremost.Goals as goal

pub loop-place-init : goal.loop-place-init
loop-place-init c = refl

pub loop-place-preserved : goal.loop-place-preserved
loop-place-preserved c =
    let xs = c.args.responses.now in
    let i = c.loop-place.place in
    let x = c.index-responses-place.result in
    let at : slice_get xs i ≡ Some x = slice_get-get_or xs i x c.loop-place-test.true ∙ ap Some (sym c.index-responses-place.is) in
    let next = c.sooner-first.ensures ∙ ap (λ a. sooner_of c.loop-place.first (at_place i a)) c.timer.ensures in
    subst (λ n. sooner_of c.sooner-first.result (foremost_from n (drop n xs)) ≡ foremost xs) (sym (add-one i))
    (ap (λ f. sooner_of f (foremost_from (suc i) (drop (suc i) xs))) next ∙ (foremost_next c.loop-place.first xs i x at ∙ c.loop-place.invariant))

pub returns : goal.returns
returns c =
    let long : length c.args.responses.now ≡ c.loop-place.place = omega arith in
    sym (foremost_past c.loop-place.first c.args.responses.now c.loop-place.place c.loop-place.place long) ∙ c.loop-place.invariant

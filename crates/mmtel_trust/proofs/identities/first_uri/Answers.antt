use Rattle.std.proofs.Common.{List, ℕ, sym, ap, ◌∙◌}
use Rattle.mmtel_trust.specs.Asserted.{first_uri}
use Rattle.mmtel_trust.proofs.SchemeTheorems.{all_values, line_first, line_passed, lines_first}
use Rattle.mmtel_trust.proofs.identities.first_uri.Goals as goal

pub loop-values-init : goal.loop-values-init
loop-values-init c = rw (c.into_iter-values-iterator.ensures.into_iter_gives, c.values_in-values-items.ensures) (tt, tt, lines_first c.args.scheme c.args.message.now.lines)

pub returns-in-Some-2 : goal.returns-in-Some-2
returns-in-Some-2 c =
    let (can, finite, same) = c.loop-values.invariant in
    let left = ap (λ (vs : List (List ℕ)). first_uri c.args.scheme (all_values vs)) (sym c.in-Some.ensures.steps) in
    line_first c.args.scheme c.in-Some.values.now c.next.new.self c.in-Some-2.uri (sym c.in-Some-2.is ∙ c.in_ok-uri.ensures) ∙ left ∙ same

pub loop-values-preserved : goal.loop-values-preserved
loop-values-preserved c =
    let (can, finite, same) = c.loop-values.invariant in
    let left = ap (λ (vs : List (List ℕ)). first_uri c.args.scheme (all_values vs)) (sym c.in-Some.ensures.steps) in
    (tt, tt, sym (line_passed c.args.scheme c.in-Some.values.now c.next.new.self (sym c.in-None-2.is ∙ c.in_ok-uri.ensures)) ∙ left ∙ same)

use Rattle.std.proofs.Common.{List, ℕ, sym, ap, ◌∙◌}
use Rattle.mmtel_trust.specs.FoundWords.{with_words}
use Rattle.mmtel_trust.proofs.FoundWordTheorems.{all_found, value_found, words_of}
use Rattle.mmtel_trust.proofs.privacy.wants.Goals as goal

pub loop-value-init : goal.loop-value-init
loop-value-init c = rw (c.no_words-found.ensures, c.into_iter-value-iterator.ensures.into_iter_gives, c.values_in-value-items.ensures) (tt, tt, all_found c.args.message.now.lines)

pub loop-value-preserved : goal.loop-value-preserved
loop-value-preserved c =
    let (can, finite, same) = c.loop-value.invariant in
    let one = sym (value_found c.loop-value.found c.in-Some.value.now c.next.new.self) in
    let left = ap (λ (vs : List (List ℕ)). with_words c.loop-value.found (words_of vs)) (sym c.in-Some.ensures.steps) in
    (tt, tt, rw c.with_value-found.ensures (one ∙ left ∙ same))

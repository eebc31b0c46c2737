use Rattle.std.proofs.Common.{◌≡◌, ℕ, List, [], ◌∷◌, length, drop, ◌==◌, false, refl, sym, ◌∙◌, ap, arith}
use Rattle.std.proofs.lemmas.Grind.{common_steps}
use Rattle.mmtel_lex.specs.Identity.{without_separators}
use Rattle.mmtel_trust.specs.Peers.{begins_with}
use Rattle.mmtel_trust.proofs.peers.begins_with.Goals as goal

-- where the number ends, the rest of the prefix has to be empty
at_end : (rest : List ℕ) → begins_with [] rest ≡ (length rest == 0)
at_end [] = refl
at_end (b ∷ s) = let positive : (length (b ∷ s) == 0) ≡ false = grind (arith, common_steps) in sym positive

pub returns : goal.returns
returns c =
    let none : drop c.loop-byte.byte-index c.args.number.now ≡ [] = grind (arith, common_steps) in
    c.is_empty.ensures ∙ (sym (at_end c.loop-byte.rest.now) ∙ (ap (λ s. begins_with (without_separators s) c.loop-byte.rest.now) (sym none) ∙ sym c.loop-byte.invariant))

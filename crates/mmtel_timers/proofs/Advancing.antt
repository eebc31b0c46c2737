-- What is in a shelf from a place on.
use Rattle.std.proofs.Common.{◌≡◌, ℕ, zero, suc, ◌≤◌, Bool, true, false, List, [], ◌∷◌, length, drop, sym, ap, ◌∙◌, subst, arith, ◌⊎◌, inl, inr, Some}
use Rattle.std.specs.Prelude.{slice_get}
use Rattle.std.specs.List.Sorted.{IsPartitionPoint}
use Rattle.std.specs.declared.cmp.Ordering.{Ordering}
use Rattle.std.specs.declared.cmp.Ordering.TheVariants.{Less}
use Rattle.std.proofs.lemmas.Option.{none-some, same_Some, get_or_from_slice_get, slice_get_within}
use Rattle.mmtel_timers.specs.Shelves.{Ascends, Has}
use Rattle.mmtel_timers.proofs.Ordered.{all_has, not_both}

module _ {X : Type 0} where
  -- at that place, or after it
  pub there_or_behind : (i : ℕ) (xs : List X) (y z : X) → slice_get xs i ≡ Some y → Has z (drop i xs) → (z ≡ y) ⊎ Has z (drop (suc i) xs)
  there_or_behind i [] y z q h = absurd (none-some y q)
  there_or_behind zero (x ∷ xs) y z q (inl e) = inl (e ∙ same_Some x y q)
  there_or_behind zero (x ∷ xs) y z q (inr h) = inr h
  there_or_behind (suc i) (x ∷ xs) y z q h = there_or_behind i xs y z q h

  pub none_behind : (i : ℕ) (xs : List X) (z : X) → length xs ≤ i → Has z (drop i xs) → ⊥
  none_behind zero [] z l h = h
  none_behind (suc i) [] z l h = h
  none_behind zero (x ∷ xs) z l h = absurd (omega (arith, l))
  none_behind (suc i) (x ∷ xs) z l h = none_behind i xs z (omega (arith, l)) h

  module _ (before : X → Bool) where
    pub from_place : (p : ℕ) (xs : List X) (z : X) → IsPartitionPoint (λ x. before x ≡ true) (λ x. before x ≡ false) xs p → Has z xs → before z ≡ false → Has z (drop p xs)
    from_place p [] z h g n = absurd g
    from_place zero (x ∷ xs) z h g n = g
    from_place (suc p) (x ∷ xs) z h (inl e) n = absurd (not_both (before x) (h.0 zero x (omega arith) (omega arith)) (ap before (sym e) ∙ n))
    from_place (suc p) (x ∷ xs) z h (inr g) n = from_place p xs z (λ k d a b. h.0 (suc k) d (omega arith) (omega (arith, b)), λ k d a b. h.1 (suc k) d (omega (arith, a)) (omega (arith, b))) g n

    pub not_before_from : (p i : ℕ) (xs : List X) (y : X) → IsPartitionPoint (λ x. before x ≡ true) (λ x. before x ≡ false) xs p → p ≤ i → slice_get xs i ≡ Some y → before y ≡ false
    not_before_from p i xs y h l g = subst (λ (x : X). before x ≡ false) (get_or_from_slice_get xs i y y g) (h.1 i y l (slice_get_within xs i y g))

  pub on_or_after : (R : X → X → Ordering) (i : ℕ) (xs : List X) (y z : X) → Ascends R xs → slice_get xs i ≡ Some y → Has z (drop i xs) → (z ≡ y) ⊎ (R y z ≡ Less)
  on_or_after R i [] y z a q h = absurd (none-some y q)
  on_or_after R zero (x ∷ xs) y z a q (inl e) = inl (e ∙ same_Some x y q)
  on_or_after R zero (x ∷ xs) y z a q (inr h) = inr (subst (λ (w : X). R w z ≡ Less) (same_Some x y q) (all_has (λ w. R x w ≡ Less) xs z a.0 h))
  on_or_after R (suc i) (x ∷ xs) y z a q h = on_or_after R i xs y z a.1 q h

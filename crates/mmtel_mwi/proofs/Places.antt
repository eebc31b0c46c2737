-- The first item of a list for which a predicate holds: it is replaced or removed, by its index, or where there is none.
use Rattle.std.proofs.Common.{◌≡◌, Bool, ℕ, suc, ◌+◌, List, [], ◌∷◌, ◌++◌, Option, Some, None, refl, sym, ap, subst, slice_set, get_or, take, drop, arith, inl, inr, ◌∙◌}
use Rattle.std.proofs.lemmas.Bool.{cases_Bool}
use Rattle.std.specs.Prelude.{find, position}
use Rattle.std.specs.Option.{option_map}
use Rattle.mmtel_base.proofs.Positions.{position_yes, position_no}
use Rattle.mmtel_mwi.specs.Boxes.{changed, without}

same_some : {X : Type 0} (a b : X) → Some a ≡ Some b → a ≡ b
same_some a b e = cc

mapped : (o : Option ℕ) (n : ℕ) → option_map (λ m. m + 1) o ≡ Some n → (m : ℕ) × (o ≡ Some m) × (suc m ≡ n)
mapped None n e = absurd cc
mapped (Some m) n e = (m, refl, omega (arith, same_some (m + 1) n e))

unmapped : (o : Option ℕ) → option_map (λ m. m + 1) o ≡ None → o ≡ None
unmapped None e = refl
unmapped (Some m) e = absurd cc

pub found_there : {X : Type 0} (p : X → Bool) (xs : List X) (at : ℕ) (x : X) → position p xs ≡ Some at → x ≡ get_or xs at x → find p xs ≡ Some x
found_there p [] at x e g = absurd cc
found_there p (y ∷ ys) at x e g =
    elim (cases_Bool (p y)) [
      | inl same ↦
          subst (λ (k : ℕ). x ≡ get_or (y ∷ ys) k x → find p (y ∷ ys) ≡ Some x) (same_some 0 at (rw (position_yes p y ys same) at e))
          (λ h. rw same (ap (λ w. Some w) (sym h))) g
      | inr other ↦
          let m = mapped (position p ys) at (rw (position_no p y ys other) at e) in
          subst (λ (k : ℕ). x ≡ get_or (y ∷ ys) k x → find p (y ∷ ys) ≡ Some x) m.2
          (λ h. rw other (found_there p ys m.0 x m.1 h)) g
    ]

-- the item at the index is unique
pub same_there : {X : Type 0} (p : X → Bool) (xs : List X) (at : ℕ) (x y : X) → position p xs ≡ Some at → x ≡ get_or xs at x → y ≡ get_or xs at y → x ≡ y
same_there p xs at x y e one other = same_some x y (sym (found_there p xs at x e one) ∙ found_there p xs at y e other)

pub found_nowhere : {X : Type 0} (p : X → Bool) (xs : List X) → position p xs ≡ None → find p xs ≡ None
found_nowhere p [] e = refl
found_nowhere p (y ∷ ys) e =
    elim (cases_Bool (p y)) [
      | inl same ↦ let f = rw (position_yes p y ys same) at e in absurd cc
      | inr other ↦ rw other (found_nowhere p ys (unmapped (position p ys) (rw (position_no p y ys other) at e)))
    ]

pub changed_there : {X : Type 0} (p : X → Bool) (f : X → X) (xs : List X) (at : ℕ) (x : X) → position p xs ≡ Some at → x ≡ get_or xs at x → slice_set xs at (f x) ≡ changed p f xs
changed_there p f [] at x e g = absurd cc
changed_there p f (y ∷ ys) at x e g =
    elim (cases_Bool (p y)) [
      | inl same ↦
          subst (λ (k : ℕ). x ≡ get_or (y ∷ ys) k x → slice_set (y ∷ ys) k (f x) ≡ changed p f (y ∷ ys)) (same_some 0 at (rw (position_yes p y ys same) at e))
          (λ h. rw same (ap (λ w. f w ∷ ys) h)) g
      | inr other ↦
          let m = mapped (position p ys) at (rw (position_no p y ys other) at e) in
          subst (λ (k : ℕ). x ≡ get_or (y ∷ ys) k x → slice_set (y ∷ ys) k (f x) ≡ changed p f (y ∷ ys)) m.2
          (λ h. rw other (ap (λ l. y ∷ l) (changed_there p f ys m.0 x m.1 h))) g
    ]

pub changed_nowhere : {X : Type 0} (p : X → Bool) (f : X → X) (xs : List X) → position p xs ≡ None → xs ≡ changed p f xs
changed_nowhere p f [] e = refl
changed_nowhere p f (y ∷ ys) e =
    elim (cases_Bool (p y)) [
      | inl same ↦ let h = rw (position_yes p y ys same) at e in absurd cc
      | inr other ↦ rw other (ap (λ l. y ∷ l) (changed_nowhere p f ys (unmapped (position p ys) (rw (position_no p y ys other) at e))))
    ]

pub without_there : {X : Type 0} (p : X → Bool) (xs : List X) (at : ℕ) → position p xs ≡ Some at → take at xs ++ drop (suc at) xs ≡ without p xs
without_there p [] at e = absurd cc
without_there p (y ∷ ys) at e =
    elim (cases_Bool (p y)) [
      | inl same ↦
          subst (λ (k : ℕ). take k (y ∷ ys) ++ drop (suc k) (y ∷ ys) ≡ without p (y ∷ ys)) (same_some 0 at (rw (position_yes p y ys same) at e)) (rw same refl)
      | inr other ↦
          let m = mapped (position p ys) at (rw (position_no p y ys other) at e) in
          subst (λ (k : ℕ). take k (y ∷ ys) ++ drop (suc k) (y ∷ ys) ≡ without p (y ∷ ys)) m.2
          (rw other (ap (λ l. y ∷ l) (without_there p ys m.0 m.1)))
    ]

pub without_nowhere : {X : Type 0} (p : X → Bool) (xs : List X) → position p xs ≡ None → xs ≡ without p xs
without_nowhere p [] e = refl
without_nowhere p (y ∷ ys) e =
    elim (cases_Bool (p y)) [
      | inl same ↦ let h = rw (position_yes p y ys same) at e in absurd cc
      | inr other ↦ rw other (ap (λ l. y ∷ l) (without_nowhere p ys (unmapped (position p ys) (rw (position_no p y ys other) at e))))
    ]

-- The position of the first element that passes a test.
use Rattle.std.proofs.Common.{◌≡◌, Bool, true, false, ℕ, suc, ◌+◌, List, ◌∷◌, length, Some, refl, ap, nat_lt, arith, inl, inr}
use Rattle.std.specs.Prelude.{position}
use Rattle.std.specs.List.{position_or_len}
use Rattle.std.specs.Option.{option_map}
use Rattle.std.proofs.lemmas.Bool.{cases_Bool}
use Rattle.std.proofs.lemmas.Bool.Decides.{nat_tests}

pub position_yes : {X : Type 0} (p : X → Bool) (x : X) (xs : List X) → p x ≡ true → position p (x ∷ xs) ≡ Some 0
position_yes p x xs e =
    let low : nat_lt 0 (suc (length xs)) ≡ true = grind (arith, nat_tests) in
    rw (e, low) refl

pub position_no : {X : Type 0} (p : X → Bool) (x : X) (xs : List X) → p x ≡ false → position p (x ∷ xs) ≡ option_map (λ n. n + 1) (position p xs)
position_no p x xs e =
    let a : ℕ = position_or_len p xs in
    elim (cases_Bool (nat_lt a (length xs))) [
      | inl y ↦
          let low : nat_lt (1 + a) (suc (length xs)) ≡ true = grind (arith, nat_tests, y) in
          rw (e, low, y) (ap (λ (n : ℕ). Some n) (omega arith))
      | inr no_such ↦
          let high : nat_lt (1 + a) (suc (length xs)) ≡ false = grind (arith, nat_tests, no_such) in
          rw (e, high, no_such) refl
    ]

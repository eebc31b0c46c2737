-- Owners by ascending numbers: the position of a number is found by halving, or where the one before it is lower and the one at it is not.
use Rattle.std.proofs.Common.{◌≡◌, ℕ, zero, suc, ◌-◌, ◌<◌, ◌≤◌, Bool, true, false, cond, List, [], ◌∷◌, length, get_or, Some, None, refl, sym, ap, ◌∙◌, arith, inl, inr, take}
use Rattle.std.proofs.lemmas.Bool.Decides.{nat_tests}
use Rattle.std.proofs.lemmas.Bool.{cases_lt}
use Rattle.std.proofs.lemmas.List.{get_or_read}
use Rattle.std.proofs.lemmas.Option.{get_or_from_slice_get, slice_get_read}
use Rattle.std.specs.Prelude.{◌==◌, nat_lt, position, slice_get}
use Rattle.std.specs.List.{position_or_len}
use Rattle.std.specs.List.Sorted.{IsNonDecreasingBy, IsPartitionPoint}
use Rattle.mmtel_output.specs.Marks.{AreBelow, Ascend}

at_len : (i m : ℕ) → i < m → nat_lt i m ≡ true
at_len i m l = grind (arith, nat_tests)

past_len : (m : ℕ) → nat_lt m m ≡ false
past_len m = grind (arith, nat_tests)

module _ {X : Type 0} (number : X → ℕ) where
  pub ascends : (low high : ℕ) (xs : List X) → Ascend number low xs high → IsNonDecreasingBy number xs
  ascends low high [] a i j d e l = absurd (omega (arith, l))
  ascends low high (x ∷ xs) a zero zero d e l = omega arith
  ascends low high (x ∷ xs) a zero (suc j) d e l = at xs (number x) a.1 j (omega (arith, l))
    where
      at : (ys : List X) (least : ℕ) → Ascend number least ys high → (j : ℕ) → j < length ys → least ≤ number (get_or ys j d)
      at [] least a j l = absurd (omega (arith, l))
      at (y ∷ ys) least a zero l = let h = a.0 in omega (arith, h)
      at (y ∷ ys) least a (suc j) l = let h = a.0 in let g = at ys (number y) a.1 j (omega (arith, l)) in omega (arith, h, g)
  ascends low high (x ∷ xs) a (suc i) zero d e l = absurd (omega (arith, e))
  ascends low high (x ∷ xs) a (suc i) (suc j) d e l = ascends (number x) high xs a.1 i j d (omega (arith, e)) (omega (arith, l))

  -- where one has a lower number and the next one has not, those of lower numbers end
  pub parted_at : (n i : ℕ) (xs : List X) (x y : X) → IsNonDecreasingBy number xs → 1 ≤ i → i < length xs → x ≡ get_or xs (i - 1) x → y ≡ get_or xs i y → number x < n → n ≤ number y
      → IsPartitionPoint (λ (z : X). nat_lt (number z) n ≡ true) (λ (z : X). nat_lt (number z) n ≡ false) xs i
  parted_at n i xs x y up some inside before at lower higher = (lesser, others)
    where
      lesser : (j : ℕ) (d : X) → 0 ≤ j → j < i → nat_lt (number (get_or xs j d)) n ≡ true
      lesser j d a l =
          let within : i - 1 < length xs = omega (arith, some, inside) in
          let h = up j (i - 1) d (omega (arith, l)) within in
          let r : number x ≡ number (get_or xs (i - 1) d) = ap number (get_or_read xs (i - 1) x within before d) in
          let g : number (get_or xs j d) < n = omega (arith, h, r, lower) in
          grind (arith, nat_tests)

      others : (j : ℕ) (d : X) → i ≤ j → j < length xs → nat_lt (number (get_or xs j d)) n ≡ false
      others j d a l =
          let h = up i j d a l in
          let r : number y ≡ number (get_or xs i d) = ap number (get_or_read xs i y inside at d) in
          let g : n ≤ number (get_or xs j d) = omega (arith, h, r, higher) in
          grind (arith, nat_tests)

  abbrev Numbered : ℕ → X → Bool
  Numbered n x = number x == n

  module _ (n : ℕ) where
    first_at : (xs : List X) (i : ℕ) → ((j : ℕ) (d : X) → j < i → number (get_or xs j d) < n) → i < length xs → ((d : X) → number (get_or xs i d) ≡ n) → position_or_len (Numbered n) xs ≡ i
    first_at [] i less l q = absurd (omega (arith, l))
    first_at (x ∷ xs) zero less l q =
        let e = q x in
        let t : (number x == n) ≡ true = grind (arith, nat_tests) in
        rw t refl
    first_at (x ∷ xs) (suc i) less l q =
        let e = less 0 x (omega arith) in
        let t : (number x == n) ≡ false = grind (arith, nat_tests) in
        rw t (omega (arith, first_at xs i (λ j d m. less (suc j) d (omega (arith, m))) (omega (arith, l)) (λ d. q d)))

    none_at : (xs : List X) → ((j : ℕ) (d : X) → j < length xs → (number (get_or xs j d) == n) ≡ false) → position_or_len (Numbered n) xs ≡ length xs
    none_at [] other = refl
    none_at (x ∷ xs) other =
        let t : (number x == n) ≡ false = other 0 x (omega arith) in
        rw t (omega (arith, none_at xs (λ j d m. other (suc j) d (omega (arith, m)))))

    found_place : (xs : List X) (i : ℕ) → ((j : ℕ) (d : X) → j < i → number (get_or xs j d) < n) → i < length xs → ((d : X) → number (get_or xs i d) ≡ n) → Some i ≡ position (Numbered n) xs
    found_place xs i less l q =
        sym (ap (λ (m : ℕ). cond (nat_lt m (length xs)) (Some m) None) (first_at xs i less l q) ∙ ap (λ (b : Bool). cond b (Some i) None) (at_len i (length xs) l))

    no_place : (xs : List X) → ((j : ℕ) (d : X) → j < length xs → (number (get_or xs j d) == n) ≡ false) → None ≡ position (Numbered n) xs
    no_place xs other =
        sym (ap (λ (m : ℕ). cond (nat_lt m (length xs)) (Some m) None) (none_at xs other) ∙ ap (λ (b : Bool). cond b (Some (length xs)) None) (past_len (length xs)))

  module _ (n i : ℕ) (xs : List X) (up : IsNonDecreasingBy number xs) (parts : IsPartitionPoint (λ (x : X). nat_lt (number x) n ≡ true) (λ (x : X). nat_lt (number x) n ≡ false) xs i) where
    stands : (d : X) {x : X} → slice_get xs i ≡ Some x → get_or xs i d ≡ x
    stands d {x} is = get_or_from_slice_get xs i x d is

    below : (j : ℕ) (d : X) → j < i → number (get_or xs j d) < n
    below j d l = let h = parts.0 j d (omega arith) l in grind (arith, nat_tests)

    from : (j : ℕ) (d : X) → i ≤ j → j < length xs → n ≤ number (get_or xs j d)
    from j d e l = let h = parts.1 j d e l in grind (arith, nat_tests)

    pub place_here : (x : X) → i < length xs → x ≡ get_or xs i x → (number x == n) ≡ true → Some i ≡ position (Numbered n) xs
    place_here x l is t =
        let m : number x ≡ n = grind (arith, nat_tests) in
        found_place n xs i below l (λ d. ap number (stands d (slice_get_read xs (length xs) i x refl l is)) ∙ m)

    pub place_gone : (x : X) → i < length xs → x ≡ get_or xs i x → (number x == n) ≡ false → None ≡ position (Numbered n) xs
    place_gone x l is t = no_place n xs other
      where
        here : n < number x
        here =
            let r : number (get_or xs i x) ≡ number x = ap number (sym is) in
            let h = from i x (omega arith) l in
            let g : n ≤ number x = omega (arith, h, r) in
            grind (arith, nat_tests)

        other : (j : ℕ) (d : X) → j < length xs → (number (get_or xs j d) == n) ≡ false
        other j d m = elim (cases_lt j i) [
          | inl k ↦ let h = below j d k in grind (arith, nat_tests)
          | inr k ↦
              let h = up i j d k m in
              let r : number (get_or xs i d) ≡ number x = ap number (stands d (slice_get_read xs (length xs) i x refl l is)) in
              let g : n < number (get_or xs j d) = let f = here in omega (arith, h, r, f) in
              grind (arith, nat_tests)
        ]

    pub place_past : length xs ≤ i → None ≡ position (Numbered n) xs
    place_past e = no_place n xs (λ j d l. let h = below j d (omega (arith, l, e)) in grind (arith, nat_tests))

    -- those before it have lower numbers
    pub all_lower : AreBelow number n (take i xs)
    all_lower = taken xs i below
      where
        taken : (ys : List X) (k : ℕ) → ((j : ℕ) (d : X) → j < k → number (get_or ys j d) < n) → AreBelow number n (take k ys)
        taken [] zero less = tt
        taken [] (suc k) less = tt
        taken (y ∷ ys) zero less = tt
        taken (y ∷ ys) (suc k) less = (less 0 y (omega arith), taken ys k (λ j d l. less (suc j) d (omega (arith, l))))

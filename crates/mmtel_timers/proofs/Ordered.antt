-- Inserting items into a list that ascends, and removing them.
use Rattle.std.proofs.Common.{◌≡◌, ℕ, zero, suc, ◌≤◌, Bool, true, false, List, [], ◌∷◌, length, refl, sym, ap, ◌∙◌, subst, arith, ◌⊎◌, inl, inr, Some, None, insert, remove}
use Rattle.std.specs.Prelude.{slice_get, slice_index_or}
use Rattle.std.specs.List.{AllByRecursion}
use Rattle.std.specs.List.Sorted.{IsPartitionedBy, IsPartitionPoint}
use Rattle.std.specs.Cmp.{IsTotalOrder}
use Rattle.std.specs.Ordering.{is_lt, ordering_reverse}
use Rattle.std.specs.declared.cmp.Ordering.{Ordering}
use Rattle.std.specs.declared.cmp.Ordering.TheVariants.{Less, Equal, Greater}
use Rattle.std.proofs.lemmas.Cmp.{tied_itself}
use Rattle.std.proofs.lemmas.Option.{none-some, same_Some, get_or_from_slice_get, slice_get_within}
use Rattle.std.proofs.lemmas.List.Elements.{All-from_recursion}
use Rattle.mmtel_timers.specs.Shelves.{Ascends, comes_before, Has}

pub less_is : (r : Ordering) → is_lt r ≡ true → r ≡ Less
less_is Less q = refl
less_is Equal q = absurd cc
less_is Greater q = absurd cc

pub less_tested : (r : Ordering) → r ≡ Less → is_lt r ≡ true
less_tested r q = ap is_lt q

pub not_both : (b : Bool) → b ≡ true → b ≡ false → ⊥
not_both b p q = let w : true ≡ false = sym p ∙ q in cc

pub all_has : {X : Type 0} (P : X → Type 0) (xs : List X) (x : X) → AllByRecursion P xs → Has x xs → P x
all_has P [] x a h = absurd h
all_has P (y ∷ ys) x a (inl q) = subst P (sym q) a.0
all_has P (y ∷ ys) x a (inr h) = all_has P ys x a.1 h

pub has_at : {X : Type 0} (xs : List X) (p : ℕ) (x : X) → slice_get xs p ≡ Some x → Has x xs
has_at [] p x q = absurd (none-some x q)
has_at (y ∷ ys) zero x q = inl (sym (same_Some y x q))
has_at (y ∷ ys) (suc p) x q = inr (has_at ys p x q)

-- an item inserted at its place
pub has_in : {X : Type 0} (p : ℕ) (x : X) (xs : List X) (z : X) → Has z xs → Has z (insert xs p x)
has_in zero x xs z h = inr h
has_in (suc p) x [] z h = absurd h
has_in (suc p) x (y ∷ ys) z (inl q) = inl q
has_in (suc p) x (y ∷ ys) z (inr h) = inr (has_in p x ys z h)

pub has_new : {X : Type 0} (p : ℕ) (x : X) (xs : List X) → Has x (insert xs p x)
has_new zero x xs = inl refl
has_new (suc p) x [] = inl refl
has_new (suc p) x (y ∷ ys) = inr (has_new p x ys)

pub has_in_back : {X : Type 0} (p : ℕ) (x : X) (xs : List X) (z : X) → Has z (insert xs p x) → (z ≡ x) ⊎ Has z xs
has_in_back zero x xs z h = h
has_in_back (suc p) x [] z (inl q) = inl q
has_in_back (suc p) x [] z (inr f) = absurd f
has_in_back (suc p) x (y ∷ ys) z (inl q) = inr (inl q)
has_in_back (suc p) x (y ∷ ys) z (inr h) = elim (has_in_back p x ys z h) [
  | inl q ↦ inl q
  | inr g ↦ inr (inr g)
]

pub all_in : {X : Type 0} (P : X → Type 0) (p : ℕ) (x : X) (xs : List X) → AllByRecursion P xs → P x → AllByRecursion P (insert xs p x)
all_in P zero x xs a h = (h, a)
all_in P (suc p) x [] a h = (h, a)
all_in P (suc p) x (y ∷ ys) a h = (a.0, all_in P p x ys a.1 h)

-- an item removed
pub has_out_back : {X : Type 0} (p : ℕ) (xs : List X) (z : X) → Has z (remove xs p) → Has z xs
has_out_back zero [] z h = h
has_out_back zero (y ∷ ys) z h = inr h
has_out_back (suc p) [] z h = h
has_out_back (suc p) (y ∷ ys) z (inl q) = inl q
has_out_back (suc p) (y ∷ ys) z (inr h) = inr (has_out_back p ys z h)

pub has_out : {X : Type 0} (p : ℕ) (xs : List X) (x z : X) → slice_get xs p ≡ Some x → Has z xs → (z ≡ x) ⊎ Has z (remove xs p)
has_out p [] x z g h = absurd h
has_out zero (y ∷ ys) x z g (inl q) = inl (q ∙ same_Some y x g)
has_out zero (y ∷ ys) x z g (inr h) = inr h
has_out (suc p) (y ∷ ys) x z g (inl q) = inr (inl q)
has_out (suc p) (y ∷ ys) x z g (inr h) = elim (has_out p ys x z g h) [
  | inl q ↦ inl q
  | inr k ↦ inr (inr k)
]

pub all_out : {X : Type 0} (P : X → Type 0) (p : ℕ) (xs : List X) → AllByRecursion P xs → AllByRecursion P (remove xs p)
all_out P zero [] a = a
all_out P zero (y ∷ ys) a = a.1
all_out P (suc p) [] a = a
all_out P (suc p) (y ∷ ys) a = (a.0, all_out P p ys a.1)

module _ {X : Type 0} (R : X → X → Ordering) (o : IsTotalOrder R) where
  pub not_itself : (x y : X) → R x y ≡ Less → x ≡ y → ⊥
  not_itself x y l q =
      let w : Equal ≡ Less = sym (tied_itself o y) ∙ subst (λ (z : X). R z y ≡ Less) q l in
      cc

  -- the place of an item that is not in the list
  abbrev pub Place : ℕ → X → List X → Type 0
  Place zero x xs = AllByRecursion (λ y. R x y ≡ Less) xs
  Place (suc p) x [] = ⊥
  Place (suc p) x (y ∷ ys) = (R y x ≡ Less) × Place p x ys

  pub ascends_in : (p : ℕ) (x : X) (xs : List X) → Ascends R xs → Place p x xs → Ascends R (insert xs p x)
  ascends_in zero x xs a h = (h, a)
  ascends_in (suc p) x [] a h = absurd h
  ascends_in (suc p) x (y ∷ ys) a h = (all_in (λ z. R y z ≡ Less) p x ys a.0 h.0, ascends_in p x ys a.1 h.1)

  pub ascends_out : (p : ℕ) (xs : List X) → Ascends R xs → Ascends R (remove xs p)
  ascends_out zero [] a = a
  ascends_out zero (y ∷ ys) a = a.1
  ascends_out (suc p) [] a = a
  ascends_out (suc p) (y ∷ ys) a = (all_out (λ z. R y z ≡ Less) p ys a.0, ascends_out p ys a.1)

  -- an item that was removed is no longer in the list
  pub gone : (p : ℕ) (xs : List X) (x z : X) → Ascends R xs → slice_get xs p ≡ Some x → Has z (remove xs p) → z ≡ x → ⊥
  gone p [] x z a g h q = none-some x g
  gone zero (y ∷ ys) x z a g h q = not_itself y z (all_has (λ w. R y w ≡ Less) ys z a.0 h) (same_Some y x g ∙ sym q)
  gone (suc p) (y ∷ ys) x z a g (inl e) q = not_itself y x (all_has (λ w. R y w ≡ Less) ys x a.0 (has_at ys p x g)) (sym e ∙ q)
  gone (suc p) (y ∷ ys) x z a g (inr h) q = gone p ys x z a.1 g h q

  -- a test that passes whatever comes before an item that it passes partitions the list
  pub parted : (p : X → Bool) → ((y z : X) → R y z ≡ Less → p z ≡ true → p y ≡ true) → (xs : List X) → Ascends R xs → IsPartitionedBy p xs
  parted p m [] a i j d le lt t = absurd (omega (arith, lt))
  parted p m (x ∷ xs) a zero zero d le lt t = t
  parted p m (x ∷ xs) a zero (suc j) d le lt t = m x (slice_index_or xs j d) (All-from_recursion (λ y. R x y ≡ Less) xs a.0 j d (omega (arith, lt))) t
  parted p m (x ∷ xs) a (suc i) zero d le lt t = absurd (omega (arith, le))
  parted p m (x ∷ xs) a (suc i) (suc j) d le lt t = parted p m xs a.1 i j d (omega (arith, le)) (omega (arith, lt)) t

  pub parted_by : (x : X) (xs : List X) → Ascends R xs → IsPartitionedBy (comes_before R x) xs
  parted_by x xs a = parted (comes_before R x) (λ y z l t. less_tested (R y x) (o.trans y z x l (less_is (R z x) t))) xs a

  after_is : (x y : X) → is_lt (R y x) ≡ false → (R y x ≡ Equal → ⊥) → R x y ≡ Less
  after_is x y n d = by_cases (R y x) refl
    where
      by_cases : (r : Ordering) → R y x ≡ r → R x y ≡ Less
      by_cases Less q = let w : true ≡ false = sym (ap is_lt q) ∙ n in cc
      by_cases Equal q = absurd (d q)
      by_cases Greater q = o.antisymm x y ∙ ap ordering_reverse q

  -- what a search finds is the place of an item that is not in the list
  pub inserted_by_arming : (p : ℕ) (x : X) (xs : List X) → p ≤ length xs → IsPartitionPoint (λ y. comes_before R x y ≡ true) (λ y. comes_before R x y ≡ false) xs p →
      ((y : X) → Has y xs → R y x ≡ Equal → ⊥) → Place p x xs
  inserted_by_arming zero x [] le h n = tt
  inserted_by_arming zero x (y ∷ ys) le h n = (
    after_is x y (h.1 zero y (omega arith) (omega arith)) (n y (inl refl)),
    inserted_by_arming zero x ys (omega arith) (λ k d a b. absurd (omega (arith, b)), λ k d a b. h.1 (suc k) d (omega arith) (omega (arith, b))) (λ z g. n z (inr g)),
  )
  inserted_by_arming (suc p) x [] le h n = absurd (omega (arith, le))
  inserted_by_arming (suc p) x (y ∷ ys) le h n = (
    less_is (R y x) (h.0 zero y (omega arith) (omega arith)),
    inserted_by_arming p x ys (omega (arith, le)) (λ k d a b. h.0 (suc k) d (omega arith) (omega (arith, b)), λ k d a b. h.1 (suc k) d (omega (arith, a)) (omega (arith, b))) (λ z g. n z (inr g)),
  )

  -- and of one that is in the list, its place
  pub found : (p : ℕ) (x : X) (xs : List X) → Ascends R xs → p ≤ length xs → IsPartitionPoint (λ y. comes_before R x y ≡ true) (λ y. comes_before R x y ≡ false) xs p → Has x xs → slice_get xs p ≡ Some x
  found p x [] a le h g = absurd g
  found zero x (y ∷ ys) a le h (inl q) = ap Some (sym q)
  found zero x (y ∷ ys) a le h (inr g) = absurd (not_both (is_lt (R y x)) (less_tested (R y x) (all_has (λ z. R y z ≡ Less) ys x a.0 g)) (h.1 zero y (omega arith) (omega arith)))
  found (suc p) x (y ∷ ys) a le h (inl q) = absurd (not_itself y x (less_is (R y x) (h.0 zero y (omega arith) (omega arith))) (sym q))
  found (suc p) x (y ∷ ys) a le h (inr g) = found p x ys a.1 (omega (arith, le)) (λ k d a b. h.0 (suc k) d (omega arith) (omega (arith, b)), λ k d a b. h.1 (suc k) d (omega (arith, a)) (omega (arith, b))) g

  -- for a place that a test partitions
  module _ (before : X → Bool) where
    pub at_place : (p : ℕ) (xs : List X) (y : X) → IsPartitionPoint (λ x. before x ≡ true) (λ x. before x ≡ false) xs p → slice_get xs p ≡ Some y → before y ≡ false
    at_place p xs y h g = subst (λ (x : X). before x ≡ false) (get_or_from_slice_get xs p y y g) (h.1 p y (omega arith) (slice_get_within xs p y g))

    pub after_place : (p : ℕ) (xs : List X) (x y : X) → Ascends R xs → IsPartitionPoint (λ x. before x ≡ true) (λ x. before x ≡ false) xs p → Has x xs → before x ≡ false → slice_get xs p ≡ Some y →
        (x ≡ y) ⊎ (R y x ≡ Less)
    after_place p [] x y a h g n q = absurd g
    after_place zero (z ∷ zs) x y a h (inl e) n q = inl (e ∙ same_Some z y q)
    after_place zero (z ∷ zs) x y a h (inr g) n q = inr (subst (λ (w : X). R w x ≡ Less) (same_Some z y q) (all_has (λ w. R z w ≡ Less) zs x a.0 g))
    after_place (suc p) (z ∷ zs) x y a h (inl e) n q = absurd (not_both (before z) (h.0 zero z (omega arith) (omega arith)) (ap before (sym e) ∙ n))
    after_place (suc p) (z ∷ zs) x y a h (inr g) n q = after_place p zs x y a.1 (λ k d a b. h.0 (suc k) d (omega arith) (omega (arith, b)), λ k d a b. h.1 (suc k) d (omega (arith, a)) (omega (arith, b))) g n q

    pub none_after : (p : ℕ) (xs : List X) (x : X) → IsPartitionPoint (λ x. before x ≡ true) (λ x. before x ≡ false) xs p → Has x xs → before x ≡ false → slice_get xs p ≡ None → ⊥
    none_after p [] x h g n q = g
    none_after zero (z ∷ zs) x h g n q = none-some z (sym q)
    none_after (suc p) (z ∷ zs) x h (inl e) n q = not_both (before z) (h.0 zero z (omega arith) (omega arith)) (ap before (sym e) ∙ n)
    none_after (suc p) (z ∷ zs) x h (inr g) n q = none_after p zs x (λ k d a b. h.0 (suc k) d (omega arith) (omega (arith, b)), λ k d a b. h.1 (suc k) d (omega (arith, a)) (omega (arith, b))) g n q

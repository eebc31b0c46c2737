-- Lists that only grow, and what is found in them by the positions that are kept of their items.
use Rattle.std.proofs.Common.{◌≡◌, Bor, ℕ, ◌+◌, ◌<◌, ◌≤◌, Bool, true, false, ◌⊎◌, zero, suc, List, [], ◌∷◌, ◌++◌, length, drop, Option, Some, None, refl, sym, ap, subst, ◌∙◌, arith, inl, inr, cond, add-one}
use Rattle.std.specs.Prelude.{find, slice_get, is_some}
use Rattle.std.specs.List.{list_any}
use Rattle.std.specs.Option.{option_copied}
use Rattle.std.proofs.Math.Seq.{drop-nil}
use Rattle.std.proofs.lemmas.Bool.{cases_Bool}
use Rattle.mmtel_trust.specs.HashIndex.{Covers, HasAlso, IsIndex, IsNext, may_be_at}

-- ---- what is in a list

never_there : (b : Bool) → b ≡ true → b ≡ false → ⊥
never_there b y n = let e : true ≡ false = sym y ∙ n in cc

unless : (b : Bool) → (b ≡ true → ⊥) → b ≡ false
unless true f = absurd (f refl)
unless false f = refl

-- items that do not pass are skipped
over : {A : Type 0} (p : A → Bool) (xs : List A) (from place : ℕ) → from ≤ place →
    ((i : ℕ) (x : A) → from ≤ i → i < place → slice_get xs i ≡ Some x → p x ≡ false) → find p (drop from xs) ≡ find p (drop place xs)
over p [] from place e each = ap (find p) (drop-nil from) ∙ ap (find p) (sym (drop-nil place))
over p (x ∷ xs) zero zero e each = refl
over p (x ∷ xs) zero (suc n) e each =
    let front : p x ≡ false = each 0 x (omega arith) (omega arith) refl in
    rw front (over p xs 0 n (omega arith) (λ i y a b is. each (suc i) y (omega arith) (omega (arith, b)) is))
over p (x ∷ xs) (suc m) zero e each = absurd (omega (arith, e))
over p (x ∷ xs) (suc m) (suc n) e each = over p xs m n (omega (arith, e)) (λ i y a b is. each (suc i) y (omega (arith, a)) (omega (arith, b)) is)

-- where no item from there on passes
none_from : {A : Type 0} (p : A → Bool) (xs : List A) (from : ℕ) → ((i : ℕ) (x : A) → from ≤ i → slice_get xs i ≡ Some x → p x ≡ false) → find p (drop from xs) ≡ None
none_from p [] from each = ap (find p) (drop-nil from)
none_from p (x ∷ xs) zero each = let front : p x ≡ false = each 0 x (omega arith) refl in rw front (none_from p xs 0 (λ i y a is. each (suc i) y (omega arith) is))
none_from p (x ∷ xs) (suc m) each = none_from p xs m (λ i y a is. each (suc i) y (omega (arith, a)) is)

-- ---- what is found by the positions that are kept

passed_over : {A : Type 0} (p : A → Bool) (h : ℕ) (xs : List A) (pairs : List (ℕ × ℕ)) (from place : ℕ) →
    Covers p h xs pairs → IsNext pairs h from (Some place) → find p (drop from xs) ≡ find p (drop place xs)
passed_over p h xs pairs from place covers next =
    over p xs from place next.0 (λ i x a b is. unless (p x) (λ y. never_there (may_be_at pairs h i) (covers.each i x is y) (next.1 i a b)))

none_left : {A : Type 0} (p : A → Bool) (h : ℕ) (xs : List A) (pairs : List (ℕ × ℕ)) (from : ℕ) →
    Covers p h xs pairs → IsNext pairs h from None → find p (drop from xs) ≡ None
none_left p h xs pairs from covers next =
    none_from p xs from (λ i x a is. unless (p x) (λ y. never_there (may_be_at pairs h i) (covers.each i x is y) (next i a)))

-- the item at a position is the first from there on
at_position : {A : Type 0} (p : A → Bool) (xs : List A) (place : ℕ) (x : A) → slice_get xs place ≡ Some x → find p (drop place xs) ≡ cond (p x) (Some x) (find p (drop (suc place) xs))
at_position p [] place x e = absurd cc
at_position p (y ∷ ys) zero x e = let same : y ≡ x = cc in ap (λ z. cond (p z) (Some z) (find p ys)) same
at_position p (y ∷ ys) (suc n) x e = at_position p ys n x e

past_end : {A : Type 0} (p : A → Bool) (xs : List A) (place : ℕ) → slice_get xs place ≡ None → find p (drop place xs) ≡ None
past_end p [] place e = ap (find p) (drop-nil place)
past_end p (y ∷ ys) zero e = absurd cc
past_end p (y ∷ ys) (suc n) e = past_end p ys n e

hit : {A : Type 0} (p : A → Bool) (xs : List A) (place : ℕ) (x : A) → slice_get xs place ≡ Some x → p x ≡ true → find p (drop place xs) ≡ Some x
hit p xs place x e y = at_position p xs place x e ∙ ap (λ b. cond b (Some x) (find p (drop (suc place) xs))) y

miss : {A : Type 0} (p : A → Bool) (xs : List A) (place : ℕ) (x : A) → slice_get xs place ≡ Some x → p x ≡ false → find p (drop place xs) ≡ find p (drop (place + 1) xs)
miss p xs place x e n =
    at_position p xs place x e
    ∙ (ap (λ b. cond b (Some x) (find p (drop (suc place) xs))) n
    ∙ ap (λ k. find p (drop k xs)) (sym (add-one place)))

-- ---- one step of a look-up: the item was nowhere before, and may be at the position

pub found : {A : Type 0} (p : A → Bool) (h : ℕ) (xs : List A) (pairs : List (ℕ × ℕ)) (from place : ℕ) (x : A) → Covers p h xs pairs → find p xs ≡ find p (drop from xs) → IsNext pairs h from (Some place) →
    slice_get xs place ≡ Some x → p x ≡ true → Some x ≡ find p xs
found p h xs pairs from place x covers before next e y = sym (before ∙ (passed_over p h xs pairs from place covers next ∙ hit p xs place x e y))

pub goes_on : {A : Type 0} (p : A → Bool) (h : ℕ) (xs : List A) (pairs : List (ℕ × ℕ)) (from place : ℕ) (x : A) → Covers p h xs pairs → find p xs ≡ find p (drop from xs) → IsNext pairs h from (Some place) →
    slice_get xs place ≡ Some x → p x ≡ false → find p xs ≡ find p (drop (place + 1) xs)
goes_on p h xs pairs from place x covers before next e n = before ∙ (passed_over p h xs pairs from place covers next ∙ miss p xs place x e n)

pub ended : {A : Type 0} (p : A → Bool) (h : ℕ) (xs : List A) (pairs : List (ℕ × ℕ)) (from place : ℕ) → Covers p h xs pairs → find p xs ≡ find p (drop from xs) → IsNext pairs h from (Some place) →
    slice_get xs place ≡ None → None ≡ find p xs
ended p h xs pairs from place covers before next e = sym (before ∙ (passed_over p h xs pairs from place covers next ∙ past_end p xs place e))

pub nowhere : {A : Type 0} (p : A → Bool) (h : ℕ) (xs : List A) (pairs : List (ℕ × ℕ)) (from : ℕ) → Covers p h xs pairs → find p xs ≡ find p (drop from xs) → IsNext pairs h from None → None ≡ find p xs
nowhere p h xs pairs from covers before next = sym (before ∙ none_left p h xs pairs from covers next)

-- ---- indexes of lists that grow

pub index_none : {A : Type 0} (hash : A → ℕ) (pairs : List (ℕ × ℕ)) → IsIndex hash [] pairs
index_none hash pairs = record { indexed = λ i x e. absurd cc }

pub index_kept : {A : Type 0} (hash : A → ℕ) (xs : List A) (h place : ℕ) (old new : List (ℕ × ℕ)) → IsIndex hash xs old → HasAlso h place old new → IsIndex hash xs new
index_kept hash xs h place old new index more = record { indexed = λ i x e. more.others (hash x) i (index.indexed i x e) }

-- where an item of the longer list is
stands : {A : Type 0} (xs : List A) (y : A) (i : ℕ) (x : A) → slice_get (xs ++ y ∷ []) i ≡ Some x → (slice_get xs i ≡ Some x) ⊎ ((i ≡ length xs) × (y ≡ x))
stands [] y zero x e = inr (refl, cc)
stands [] y (suc i) x e = absurd cc
stands (z ∷ zs) y zero x e = inl e
stands (z ∷ zs) y (suc i) x e = elim (stands zs y i x e) [
  | inl there ↦ inl there
  | inr last ↦ inr (ap (λ n. suc n) last.0, last.1)
]

pub index_more : {A : Type 0} (hash : A → ℕ) (xs : List A) (y : A) (old new : List (ℕ × ℕ)) → IsIndex hash xs old → HasAlso (hash y) (length xs) old new → IsIndex hash (xs ++ y ∷ []) new
index_more {A = A} hash xs y old new index more = record {
  indexed = λ i x e. elim (stands xs y i x e) [
    | inl there ↦ more.others (hash x) i (index.indexed i x there)
    | inr last ↦ subst (λ (z : A). may_be_at new (hash z) i ≡ true) last.1 (subst (λ n. may_be_at new (hash y) n ≡ true) (sym last.0) more.there)
  ];
}

-- an index covers what has the same hash
pub covered : {A : Type 0} (p : A → Bool) (hash : A → ℕ) (h : ℕ) (xs : List A) (pairs : List (ℕ × ℕ)) → IsIndex hash xs pairs → ((x : A) → p x ≡ true → hash x ≡ h) → Covers p h xs pairs
covered p hash h xs pairs index same = record { each = λ i x e y. subst (λ n. may_be_at pairs n i ≡ true) (same x y) (index.indexed i x e) }

-- ---- whether something is found

pub found_any : {A : Type 0} (p : A → Bool) (xs : List A) → is_some (find p xs) ≡ list_any p xs
found_any p [] = refl
found_any p (x ∷ xs) = elim (cases_Bool (p x)) [
  | inl y ↦ rw y refl
  | inr n ↦ rw n (found_any p xs)
]

pub copied_some : {A : Type 0} (o : Option (Bor A)) → is_some o ≡ is_some (option_copied o)
copied_some None = refl
copied_some (Some x) = refl

-- The first pair of a set from a given one on, and what follows from it for positions.
use Rattle.std.proofs.Common.{◌≡◌, ◌≢◌, ◌==◌, ℕ, ◌<◌, ◌≤◌, nat_lt, Bool, true, false, List, [], ◌∷◌, Some, None, refl, subst, ◌∙◌, arith, inl, inr, cond}
use Rattle.std.specs.declared.cmp.Ordering.{Ordering}
use Rattle.std.specs.declared.cmp.Ordering.TheVariants.{Less, Equal, Greater}
use Rattle.std.specs.Ordering.{is_gt, nat_cmp, ordering_then}
use Rattle.std.specs.declared.ops.Bound.TheVariants.{Included, Unbounded}
use Rattle.std.specs.BTreeMap.{is_at}
use Rattle.std.specs.BTreeSet.{BTreeSet, IsKeyRangeOf, Updates}
use Rattle.std.proofs.lemmas.Bool.{cases_Bool}
use Rattle.std.proofs.lemmas.Bool.Decides.{nat_tests}
use Rattle.std.proofs.lemmas.Map.Keys.{le_from_not_gt}
use Rattle.mmtel_trust.specs.HashIndex.{HasAlso, IsNext, may_be_at, pair_cmp}

-- ---- numbers and pairs

same_cmp : (a : ℕ) → nat_cmp a a ≡ Equal
same_cmp a = let less : nat_lt a a ≡ false = grind (arith, nat_tests) in let same : (a == a) ≡ true = grind (arith, nat_tests) in rw (less, same) refl

not_gt : (a b : ℕ) → a ≤ b → is_gt (nat_cmp a b) ≡ false
not_gt a b e = elim (cases_Bool (nat_lt a b)) [
  | inl y ↦ rw y refl
  | inr n ↦ let same : (a == b) ≡ true = grind (arith, nat_tests, e, n) in rw (n, same) refl
]

greater : (a b : ℕ) → b < a → nat_cmp a b ≡ Greater
greater a b e = let less : nat_lt a b ≡ false = grind (arith, nat_tests, e) in let same : (a == b) ≡ false = grind (arith, nat_tests, e) in rw (less, same) refl

-- what follows a pair of a smaller hash
not_before : (o p : Ordering) → is_gt (ordering_then o p) ≡ false → is_gt o ≡ false
not_before Less p e = refl
not_before Equal p e = refl
not_before Greater p e = absurd cc

within : (h a : ℕ) (k : ℕ × ℕ) → k.0 ≡ h → is_gt (pair_cmp (h, a) k) ≡ false → a ≤ k.1
within h a k same e =
    let there : is_gt (ordering_then (nat_cmp h h) (nat_cmp a k.1)) ≡ false = subst (λ x. is_gt (ordering_then (nat_cmp h x) (nat_cmp a k.1)) ≡ false) same e in
    let at : is_gt (nat_cmp a k.1) ≡ false = rw (same_cmp h) at there in
    le_from_not_gt a k.1 at

upto : (h q : ℕ) (k : ℕ × ℕ) → k.0 ≡ h → is_gt (pair_cmp k (h, q)) ≡ false → k.1 ≤ q
upto h q k same e =
    let there : is_gt (ordering_then (nat_cmp h h) (nat_cmp k.1 q)) ≡ false = subst (λ x. is_gt (ordering_then (nat_cmp x h) (nat_cmp k.1 q)) ≡ false) same e in
    let at : is_gt (nat_cmp k.1 q) ≡ false = rw (same_cmp h) at there in
    le_from_not_gt k.1 q at

from_on : (h a q : ℕ) → a ≤ q → is_gt (pair_cmp (h, a) (h, q)) ≡ false
from_on h a q e = rw (same_cmp h, not_gt a q e) refl

-- ---- the first pair

abbrev pub Range : BTreeSet (ℕ × ℕ) → List (ℕ × ℕ) → ℕ → ℕ → Type 0
Range s r h from = IsKeyRangeOf pair_cmp (Included (h, from)) Unbounded s r

never : (b : Bool) → (b ≡ true → ⊥) → b ≡ false
never true f = absurd (f refl)
never false f = refl

-- the first pair has the hash
pub of_hash : (s : BTreeSet (ℕ × ℕ)) (k : ℕ × ℕ) (t : List (ℕ × ℕ)) (h from : ℕ) → Range s (k ∷ t) h from → k.0 ≡ h → IsNext s.keys h from (Some k.1)
of_hash s k t h from range same = (
  within h from k same range.1.0.0,
  λ q a b. never (may_be_at s.keys h q) (λ there.
      let last : k.1 ≤ q = upto h q k same (range.2 (h, q) (from_on h from q a, tt) there) in
      absurd (omega (arith, last, b))),
)

-- the first pair has another hash
pub of_another : (s : BTreeSet (ℕ × ℕ)) (k : ℕ × ℕ) (t : List (ℕ × ℕ)) (h from : ℕ) → Range s (k ∷ t) h from → k.0 ≢ h → IsNext s.keys h from None
of_another s k t h from range other q a =
    let first : h ≤ k.0 = le_from_not_gt h k.0 (not_before (nat_cmp h k.0) (nat_cmp from k.1) range.1.0.0) in
    let past : h < k.0 = omega (arith, first, other) in
    never (may_be_at s.keys h q) (λ there.
    let last : is_gt (pair_cmp k (h, q)) ≡ false = range.2 (h, q) (from_on h from q a, tt) there in
    let less : k.0 ≤ h = le_from_not_gt k.0 h (not_before (nat_cmp k.0 h) (nat_cmp k.1 q) last) in
    absurd (omega (arith, less, past)))

-- there is no pair
pub of_none : (s : BTreeSet (ℕ × ℕ)) (h from : ℕ) → Range s [] h from → IsNext s.keys h from None
of_none s h from range q a = range.5 refl (h, q) (from_on h from q a, tt)

-- ---- one more pair

also : (b x : Bool) → x ≡ true → cond b true x ≡ true
also true x e = refl
also false x e = e

pub put : (s n : BTreeSet (ℕ × ℕ)) (h place : ℕ) → Updates pair_cmp s n (h, place) true → HasAlso h place s.keys n.keys
put s n h place u = record { there = u.1; others = λ a q e. u.0 (a, q) ∙ also (is_at (pair_cmp (h, place)) (a, q)) (may_be_at s.keys a q) e }

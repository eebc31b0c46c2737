-- The longest of the routes whose names are prefixes of a number.
use Rattle.std.proofs.Common.{◌==◌, ◌++◌, ap₂, ◌≡◌, ◌≤◌, ◌⊎◌, ℕ, nat_lt, Bool, true, false, List, [], ◌∷◌, length, Option, Some, None, refl, sym, subst, ◌∙◌, arith, inl, inr}
use Rattle.std.specs.Prelude.{filter}
use Rattle.std.proofs.lemmas.Bool.{cases_Bool}
use Rattle.std.proofs.lemmas.Bool.Decides.{nat_tests}
use Rattle.mmtel_trust.specs.Members.{IsIn}
use Rattle.mmtel_base.proofs.Runs.{and_true}
use Rattle.mmtel_trust.specs.Peers.{begins_with, longer, longest, matches_number}
use Rattle.mmtel_trust.specs.declared.known_peers.Route.{Route}

-- ---- the longer of two

some_is : (x y : Route) → Some x ≡ Some y → x ≡ y
some_is x y e = cc

-- it is one of the two
longer_of : (r : Route) (o : Option Route) (t : Route) → longer r o ≡ Some t → (r ≡ t) ⊎ (o ≡ Some t)
longer_of r None t e = inl (some_is r t e)
longer_of r (Some s) t e = elim (cases_Bool (nat_lt (length r.name) (length s.name))) [
  | inl y ↦ inr (rw y at e)
  | inr n ↦ inl (some_is r t (rw n at e))
]

longer_some : (r : Route) (o : Option Route) → (t : Route) × (longer r o ≡ Some t)
longer_some r None = (r, refl)
longer_some r (Some s) = elim (cases_Bool (nat_lt (length r.name) (length s.name))) [
  | inl y ↦ (s, rw y refl)
  | inr n ↦ (r, rw n refl)
]

-- it is at least as long as either
longer_than : (r : Route) (o : Option Route) (t : Route) → longer r o ≡ Some t → length r.name ≤ length t.name
longer_than r None t e = let same = some_is r t e in subst (λ x. length r.name ≤ length x.name) same (omega arith)
longer_than r (Some s) t e = elim (cases_Bool (nat_lt (length r.name) (length s.name))) [
  | inl y ↦ let same : s ≡ t = some_is s t (rw y at e) in subst (λ x. length r.name ≤ length x.name) same (grind (arith, nat_tests, y))
  | inr n ↦ let same : r ≡ t = some_is r t (rw n at e) in subst (λ x. length r.name ≤ length x.name) same (omega arith)
]

longer_too : (r s t : Route) → longer r (Some s) ≡ Some t → length s.name ≤ length t.name
longer_too r s t e = elim (cases_Bool (nat_lt (length r.name) (length s.name))) [
  | inl y ↦ let same : s ≡ t = some_is s t (rw y at e) in subst (λ x. length s.name ≤ length x.name) same (omega arith)
  | inr n ↦ let same : r ≡ t = some_is r t (rw n at e) in subst (λ x. length s.name ≤ length x.name) same (grind (arith, nat_tests, n))
]

-- ---- the longest of a list

longest_in : (rs : List Route) (r : Route) → longest rs ≡ Some r → IsIn r rs
longest_in [] r e = absurd cc
longest_in (x ∷ xs) r e = elim (longer_of x (longest xs) r e) [
  | inl here ↦ inl here
  | inr later ↦ inr (longest_in xs r later)
]

some_longest : (rs : List Route) (s : Route) → IsIn s rs → (t : Route) × (longest rs ≡ Some t)
some_longest [] s i = absurd i
some_longest (x ∷ xs) s i = longer_some x (longest xs)

longest_is : (rs : List Route) (r s : Route) → longest rs ≡ Some r → IsIn s rs → length s.name ≤ length r.name
longest_is [] r s e i = absurd i
longest_is (x ∷ xs) r s e (inl here) = subst (λ y. length y.name ≤ length r.name) here (longer_than x (longest xs) r e)
longest_is (x ∷ xs) r s e (inr later) =
    let found = some_longest xs s later in
    let below = longest_is xs found.0 s found.1 later in
    let more = longer_too x found.0 r (rw found.1 at e) in
    omega (arith, below, more)

no_longest : (rs : List Route) (s : Route) → longest rs ≡ None → IsIn s rs → ⊥
no_longest rs s e i = let found = some_longest rs s i in let no : None ≡ Some found.0 = sym e ∙ found.1 in cc

-- ---- of those that pass a test

passing : (q : Route → Bool) (rs : List Route) (r : Route) → IsIn r (filter q rs) → (q r ≡ true) × IsIn r rs
passing q [] r i = absurd i
passing q (x ∷ xs) r i = elim (cases_Bool (q x)) [
  | inl y ↦
      let j : IsIn r (x ∷ filter q xs) = rw y at i in
      elim j [
        | inl here ↦ (subst (λ z. q z ≡ true) here y, inl here)
        | inr later ↦ let both = passing q xs r later in (both.0, inr both.1)
      ]
  | inr n ↦ let j : IsIn r (filter q xs) = rw n at i in let both = passing q xs r j in (both.0, inr both.1)
]

among : (q : Route → Bool) (rs : List Route) (r : Route) → q r ≡ true → IsIn r rs → IsIn r (filter q rs)
among q [] r t i = absurd i
among q (x ∷ xs) r t (inl here) = let y : q x ≡ true = subst (λ z. q z ≡ true) (sym here) t in rw y (inl here)
among q (x ∷ xs) r t (inr later) = elim (cases_Bool (q x)) [
  | inl y ↦ rw y (inr (among q xs r t later))
  | inr n ↦ rw n (among q xs r t later)
]

pub found_matches : (number : List ℕ) (rs : List Route) (r : Route) → longest (filter (matches_number number) rs) ≡ Some r → matches_number number r ≡ true
found_matches number rs r e = (passing (matches_number number) rs r (longest_in (filter (matches_number number) rs) r e)).0

pub found_there : (number : List ℕ) (rs : List Route) (r : Route) → longest (filter (matches_number number) rs) ≡ Some r → IsIn r rs
found_there number rs r e = (passing (matches_number number) rs r (longest_in (filter (matches_number number) rs) r e)).1

pub found_longest : (number : List ℕ) (rs : List Route) (r s : Route) → longest (filter (matches_number number) rs) ≡ Some r → IsIn s rs → matches_number number s ≡ true → length s.name ≤ length r.name
found_longest number rs r s e i t = longest_is (filter (matches_number number) rs) r s e (among (matches_number number) rs s t i)

pub found_none : (number : List ℕ) (rs : List Route) (s : Route) → longest (filter (matches_number number) rs) ≡ None → IsIn s rs → matches_number number s ≡ false
found_none number rs s e i = elim (cases_Bool (matches_number number s)) [
  | inl y ↦ absurd (no_longest (filter (matches_number number) rs) s e (among (matches_number number) rs s y i))
  | inr n ↦ n
]

-- ---- prefixes

pub begins_is : (s p : List ℕ) → begins_with s p ≡ true → (rest : List ℕ) × (s ≡ p ++ rest)
begins_is s [] e = (s, refl)
begins_is [] (p ∷ ps) e = absurd cc
begins_is (b ∷ s) (p ∷ ps) e =
    let both = and_true (b == p) (begins_with s ps) e in
    let same : b ≡ p = let test : (b == p) ≡ true = both.0 in grind (arith, nat_tests) in
    let more = begins_is s ps both.1 in
    (more.0, ap₂ (λ x xs. x ∷ xs) same more.1)

pub is_prefixed : (p rest : List ℕ) → begins_with (p ++ rest) p ≡ true
is_prefixed [] rest = refl
is_prefixed (b ∷ p) rest =
    let same : (b == b) ≡ true = grind (arith, nat_tests) in
    rw same (is_prefixed p rest)

-- Tests of the items of a list, and the least index that passes one.
use Rattle.std.proofs.Common.{◌≡◌, ℕ, suc, Bool, true, false, cond, ◌||◌, List, [], ◌∷◌, ◌++◌, length, Some, None, refl, sym, ap, ◌∙◌, inl, inr, arith}
use Rattle.std.specs.Prelude.{IfSome, is_some, nat_lt, position}
use Rattle.std.specs.List.{AllByRecursion, list_any, position_or_len}
use Rattle.std.proofs.lemmas.Bool.{cases_Bool, lt-ltb}
use Rattle.std.proofs.lemmas.Bool.Decides.{nat_tests}
use Rattle.mmtel_sheet_values.specs.declared.values.Rule.{Rule}
use Rattle.mmtel_rules.specs.Rules.{IsLeast}

-- tests that agree on each item find the same index

pub list_any_same : {A : Type 0} (p q : A → Bool) (xs : List A) → AllByRecursion (λ x. p x ≡ q x) xs → list_any p xs ≡ list_any q xs
list_any_same p q [] a = refl
list_any_same p q (x ∷ xs) a = rw (a.0, list_any_same p q xs a.1) refl

position_or_len_same : {A : Type 0} (p q : A → Bool) (xs : List A) → AllByRecursion (λ x. p x ≡ q x) xs → position_or_len p xs ≡ position_or_len q xs
position_or_len_same p q [] a = refl
position_or_len_same p q (x ∷ xs) a = rw (a.0, position_or_len_same p q xs a.1) refl

pub position_same : {A : Type 0} (p q : A → Bool) (xs : List A) → AllByRecursion (λ x. p x ≡ q x) xs → position p xs ≡ position q xs
position_same p q xs a = ap (λ n. cond (nat_lt n (length xs)) (Some n) None) (position_or_len_same p q xs a)

pub all_of : {A : Type 0} (P Q : A → Type 0) (xs : List A) → ((x : A) → P x → Q x) → AllByRecursion P xs → AllByRecursion Q xs
all_of P Q [] f a = tt
all_of P Q (x ∷ xs) f a = (f x a.0, all_of P Q xs f a.1)

-- an index is found exactly where some item passes

found : {A : Type 0} (p : A → Bool) (xs : List A) → nat_lt (position_or_len p xs) (length xs) ≡ list_any p xs
found p [] = refl
found p (x ∷ xs) = elim (cases_Bool (p x)) [
  | inl y ↦ rw y (lt-ltb 0 (suc (length xs)) (omega arith))
  | inr n ↦ rw n (let next = found p xs in grind (arith, nat_tests))
]

some_if : (b : Bool) (n : ℕ) → is_some (cond b (Some n) None) ≡ b
some_if true n = refl
some_if false n = refl

pub is_some-position : {A : Type 0} (p : A → Bool) (xs : List A) → is_some (position p xs) ≡ list_any p xs
is_some-position p xs = some_if (nat_lt (position_or_len p xs) (length xs)) (position_or_len p xs) ∙ found p xs

-- an item that passes is found whatever precedes and follows it

pub or_true : (b c : Bool) → c ≡ true → (b || c) ≡ true
or_true true c e = refl
or_true false c e = e

pub list_any_within : {A : Type 0} (p : A → Bool) (front back : List A) (x : A) → p x ≡ true → list_any p (front ++ x ∷ back) ≡ true
list_any_within p [] back x e = rw e refl
list_any_within p (y ∷ front) back x e = or_true (p y) (list_any p (front ++ x ∷ back)) (list_any_within p front back x e)

-- what is found is the least index whose rule passes

at_least : (test : Rule → Bool) (rules : List Rule) → list_any test rules ≡ true → IsLeast test rules (position_or_len test rules)
at_least test [] e = absurd cc
at_least test (r ∷ rules) e = elim (cases_Bool (test r)) [
  | inl y ↦ rw y (record { earlier = []; rule = r; later = rules; split = refl; index = refl; passes = y; first = refl })
  | inr n ↦
      let some : list_any test rules ≡ true = rw n at e in
      let later = at_least test rules some in
      rw n (record {
        earlier = r ∷ later.earlier;
        rule = later.rule;
        later = later.later;
        split = ap (λ xs. r ∷ xs) later.split;
        index = let same = later.index in omega arith;
        passes = later.passes;
        first = rw n later.first;
      })
]

least_if : (P : ℕ → Type 0) (b : Bool) (n : ℕ) → (b ≡ true → P n) → IfSome (cond b (Some n) None) P
least_if P true n f = f refl
least_if P false n f = tt

pub position_is_least : (test : Rule → Bool) (rules : List Rule) → IfSome (position test rules) (IsLeast test rules)
position_is_least test rules =
    least_if (IsLeast test rules) (nat_lt (position_or_len test rules) (length rules)) (position_or_len test rules) (λ e. at_least test rules (sym (found test rules) ∙ e))

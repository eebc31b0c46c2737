-- The place of the first element that passes a test; and one element changed.
use Rattle.std.proofs.Common.{◌≡◌, Bool, true, false, not, ℕ, ◌<◌, List, [], ◌∷◌, length, get_or, Some, None, refl, arith, nat_lt}
use Rattle.std.specs.Prelude.{map, position}
use Rattle.std.specs.List.{prefix_len}
use Rattle.std.proofs.lemmas.List.{length-map}
use Rattle.std.proofs.lemmas.List.Sums.{prefix_len_is}
use Rattle.std.proofs.lemmas.Bool.Decides.{nat_tests}

pub position_here : {A : Type 0} (p : A → Bool) (xs : List A) (i : ℕ) (d : A) → i < length xs → ((k : ℕ) → k < i → p (get_or xs k d) ≡ false) → p (get_or xs i d) ≡ true → position p xs ≡ Some i
position_here p xs i d lt others here =
    let e : prefix_len (λ x. not (p x)) xs ≡ i = prefix_len_is (λ x. not (p x)) xs i d (omega arith) (λ k l. let f = others k l in rw f refl) (λ _. rw here refl) in
    let test : nat_lt i (length xs) ≡ true = grind (arith, nat_tests) in
    rw (e, test) refl

pub position_none : {A : Type 0} (p : A → Bool) (xs : List A) (d : A) → ((k : ℕ) → k < length xs → p (get_or xs k d) ≡ false) → position p xs ≡ None
position_none p xs d others =
    let e : prefix_len (λ x. not (p x)) xs ≡ length xs = prefix_len_is (λ x. not (p x)) xs (length xs) d (omega arith) (λ k l. let f = others k l in rw f refl) (λ l. absurd (omega arith)) in
    let test : nat_lt (length xs) (length xs) ≡ false = grind (arith, nat_tests) in
    rw (e, test) refl

prefix_len-map : {A : Type 0} (p : A → Bool) (f : A → A) → ((x : A) → p (f x) ≡ p x) → (xs : List A) → prefix_len (λ x. not (p x)) (map f xs) ≡ prefix_len (λ x. not (p x)) xs
prefix_len-map p f same [] = refl
prefix_len-map p f same (x ∷ xs) = rw (same x, prefix_len-map p f same xs) refl

-- a test does not depend on what is changed
pub position-map : {A : Type 0} (p : A → Bool) (f : A → A) → ((x : A) → p (f x) ≡ p x) → (xs : List A) → position p (map f xs) ≡ position p xs
position-map p f same xs = rw (prefix_len-map p f same xs, length-map xs f) refl

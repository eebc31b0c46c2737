-- Positions in a list each of whose items is replaced by its public part.
use Rattle.std.proofs.Common.{◌≡◌, ℕ, zero, suc, ◌+◌, Bool, not, List, [], ◌∷◌, ◌++◌, refl, ap, sym, ◌∙◌, map, cond, length, take, drop, inl, inr, Option, Some, None}
use Rattle.std.proofs.lemmas.Bool.{cases_Bool}
use Rattle.std.proofs.lemmas.List.{drop-map, map-append, take-map}
use Rattle.std.specs.List.{filter, find, prefix_len}
use Rattle.std.specs.Option.{option_map}
use Rattle.std.specs.Prelude.{nat_lt, option_to_list, position, slice_get}
use Rattle.mmtel_output.specs.SentInvites.{without_at}

tried : {A : Type 0} (f : A → A) (p : A → Bool) → ((x : A) → p (f x) ≡ p x) → (xs : List A) → prefix_len (λ x. not (p x)) (map f xs) ≡ prefix_len (λ x. not (p x)) xs
tried f p same [] = refl
tried f p same (x ∷ xs) = rw (same x, tried f p same xs) refl

pub long : {A : Type 0} (f : A → A) (xs : List A) → length (map f xs) ≡ length xs
long f [] = refl
long f (x ∷ xs) = ap suc (long f xs)

-- where one is found, after this many of this many were examined
abbrev found_at : (tried long : ℕ) → Option ℕ
found_at tried long = cond (nat_lt tried long) (Some tried) None

pub found : {A : Type 0} (f : A → A) (p : A → Bool) → ((x : A) → p (f x) ≡ p x) → (xs : List A) → position p (map f xs) ≡ position p xs
found f p same xs =
    ap (λ (n : ℕ). found_at n (length (map f xs))) (tried f p same xs)
    ∙ ap (λ (n : ℕ). found_at (prefix_len (λ x. not (p x)) xs) n) (long f xs)

pub got : {A : Type 0} (f : A → A) (xs : List A) (i : ℕ) → slice_get (map f xs) i ≡ option_map f (slice_get xs i)
got f [] i = refl
got f (x ∷ xs) zero = refl
got f (x ∷ xs) (suc i) = got f xs i

pub rest_of : {A : Type 0} (f : A → A) (at : ℕ) (xs : List A) → without_at at (map f xs) ≡ map f (without_at at xs)
rest_of f at xs =
    ap (λ l. l ++ drop (at + 1) (map f xs)) (take-map f at xs)
    ∙ (ap (λ l. map f (take at xs) ++ l) (drop-map f (at + 1) xs)
    ∙ sym (map-append f (take at xs) (drop (at + 1) xs)))

pub listed : {A : Type 0} (f : A → A) (o : Option A) → map f (option_to_list o) ≡ option_to_list (option_map f o)
listed f None = refl
listed f (Some x) = refl

-- which of them are of a kind
pub kept : {A : Type 0} (f : A → A) (p : A → Bool) → ((x : A) → p (f x) ≡ p x) → (xs : List A) → filter p (map f xs) ≡ map f (filter p xs)
kept f p same [] = refl
kept f p same (x ∷ xs) =
    elim (cases_Bool (p x)) [
      | inl y ↦ rw (same x, y, kept f p same xs) refl
      | inr n ↦ rw (same x, n, kept f p same xs) refl
    ]

pub first_found : {A : Type 0} (f : A → A) (p : A → Bool) → ((x : A) → p (f x) ≡ p x) → (xs : List A) → find p (map f xs) ≡ option_map f (find p xs)
first_found f p same [] = refl
first_found f p same (x ∷ xs) =
    elim (cases_Bool (p x)) [
      | inl y ↦ rw (same x, y) refl
      | inr n ↦ rw (same x, n) (first_found f p same xs)
    ]

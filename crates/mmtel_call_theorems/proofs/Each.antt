-- What holds of each item of a list holds of each of its parts, and of lists that are joined.
use Rattle.std.proofs.Common.{ℕ, zero, suc, ◌+◌, Bool, true, false, List, [], ◌∷◌, ◌++◌, take, drop}
use Rattle.std.specs.Prelude.{IfSome, if◌then◌else◌, slice_get}
use Rattle.std.specs.List.{filter}
use Rattle.mmtel_output.specs.SentInvites.{without_at}
use Rattle.mmtel_call_theorems.specs.NoInjection.Emits.{Each}

pub each_append : {A : Type 0} (P : A → Type 0) (xs ys : List A) → Each P xs → Each P ys → Each P (xs ++ ys)
each_append P [] ys e f = f
each_append P (x ∷ xs) ys e f = (e.0, each_append P xs ys e.1 f)

pub each_take : {A : Type 0} (P : A → Type 0) (n : ℕ) (xs : List A) → Each P xs → Each P (take n xs)
each_take P zero xs e = tt
each_take P (suc n) [] e = tt
each_take P (suc n) (x ∷ xs) e = (e.0, each_take P n xs e.1)

pub each_drop : {A : Type 0} (P : A → Type 0) (n : ℕ) (xs : List A) → Each P xs → Each P (drop n xs)
each_drop P zero xs e = e
each_drop P (suc n) [] e = tt
each_drop P (suc n) (x ∷ xs) e = each_drop P n xs e.1

pub each_get : {A : Type 0} (P : A → Type 0) (xs : List A) (n : ℕ) → Each P xs → IfSome (slice_get xs n) P
each_get P [] n e = tt
each_get P (x ∷ xs) zero e = e.0
each_get P (x ∷ xs) (suc n) e = each_get P xs n e.1

pub each_filter : {A : Type 0} (P : A → Type 0) (kept : A → Bool) (xs : List A) → Each P xs → Each P (filter kept xs)
each_filter P kept [] e = tt
each_filter P kept (x ∷ xs) e = by (kept x) (each_filter P kept xs e.1)
  where
    by : (t : Bool) → Each P (filter kept xs) → Each P (if t then x ∷ filter kept xs else filter kept xs)
    by true rest = (e.0, rest)
    by false rest = rest

pub each_without : {A : Type 0} (P : A → Type 0) (place : ℕ) (xs : List A) → Each P xs → Each P (without_at place xs)
each_without P place xs e = each_append P (take place xs) (drop (place + 1) xs) (each_take P place xs e) (each_drop P (place + 1) xs e)

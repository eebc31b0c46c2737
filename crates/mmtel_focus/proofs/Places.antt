-- Items at their places.
use Rattle.std.proofs.Common.{◌≡◌, ◌<◌, ◌++◌, append-nil, ℕ, zero, suc, List, [], ◌∷◌, Some, length, slice_get, slice_set, refl, ap, arith, slice_index_or}
use Rattle.std.proofs.lemmas.Option.{slice_get_read}
use Rattle.std.specs.Prelude.{insert, remove}

pub and_nothing : {A : Type 0} → (l : List A) → l ++ [] ≡ l
and_nothing l = append-nil l

-- writing the item at a place to that place changes nothing
pub set_back : {A : Type 0} → (l : List A) (i : ℕ) (b : A) → slice_get l i ≡ Some b → slice_set l i b ≡ l
set_back [] i b there = cc
set_back (x ∷ l) zero b there = cc
set_back (x ∷ l) (suc i) b there = ap (λ r. x ∷ r) (set_back l i b there)

-- what is read at a place is the item there
pub stands_at : {A : Type 0} (l : List A) (i : ℕ) (a : A) → i < length l → a ≡ slice_index_or l i a → slice_get l i ≡ Some a
stands_at l i a within is = slice_get_read l (length l) i a refl within is

-- taking an item out and inserting another one at its place is writing that one to the place
pub put_in : {A : Type 0} → (l : List A) (i : ℕ) (x : A) → i < length l → insert (remove l i) i x ≡ slice_set l i x
put_in [] i x below = absurd (omega arith)
put_in (z ∷ l) zero x below = refl
put_in (z ∷ l) (suc i) x below = ap (λ r. z ∷ r) (put_in l i x (omega arith))

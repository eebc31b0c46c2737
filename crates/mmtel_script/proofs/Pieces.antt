-- The pieces of a text, one after another.
use Rattle.std.proofs.Common.{◌≡◌, ◌==◌, ◌&&◌, Bool, true, false, cond, ℕ, suc, ◌+◌, ◌≤◌, ◌<◌, List, [], ◌∷◌, length, take, drop, get_or, refl, ap, ◌∙◌, arith, add-one, drop-cons, inl, inr}
use Rattle.std.proofs.lemmas.List.{drop_all}
use Rattle.std.proofs.lemmas.Bool.{cases_Bool}
use Rattle.std.specs.List.{onto_first}
use Rattle.mmtel_script.specs.Listing.{cut}

-- how many bytes the first piece has
abbrev pub piece_len : Bool → List ℕ → ℕ
piece_len after_cr [] = 0
piece_len after_cr (b ∷ s) = cond (after_cr && b == 10) 1 (suc (piece_len (b == 13) s))

pub len_le : (after_cr : Bool) (s : List ℕ) → piece_len after_cr s ≤ length s
len_le after_cr [] = omega arith
len_le after_cr (b ∷ s) =
    elim (cases_Bool (after_cr && b == 10)) [
      | inl y ↦ rw y (omega arith)
      | inr n ↦ rw n (omega (arith, len_le (b == 13) s))
    ]

pub len_filled : (after_cr : Bool) (s : List ℕ) → 0 < length s → 0 < piece_len after_cr s
len_filled after_cr [] filled = absurd (omega arith)
len_filled after_cr (b ∷ s) filled =
    elim (cases_Bool (after_cr && b == 10)) [
      | inl y ↦ rw y (omega arith)
      | inr n ↦ rw n (omega arith)
    ]

pub cut_first : (after_cr : Bool) (s : List ℕ) → 0 < length s → cut after_cr s ≡ take (piece_len after_cr s) s ∷ cut false (drop (piece_len after_cr s) s)
cut_first after_cr [] filled = absurd (omega arith)
cut_first after_cr (b ∷ []) filled =
    elim (cases_Bool (after_cr && b == 10)) [
      | inl y ↦ rw y refl
      | inr n ↦ rw n refl
    ]
cut_first after_cr (b ∷ c ∷ s) filled =
    elim (cases_Bool (after_cr && b == 10)) [
      | inl y ↦ rw y refl
      | inr n ↦ rw n (ap (onto_first b) (cut_first (b == 13) (c ∷ s) (omega arith)))
    ]

-- ---- the loop that searches for the end of the first piece

abbrev pub Goes : ℕ → ℕ → Bool → List ℕ → Type 0
Goes total i after_cr s = total ≡ i + piece_len after_cr (drop i s)

pub goes_on : (total i : ℕ) (after_cr : Bool) (s : List ℕ) → i < length s → (after_cr && get_or s i 0 == 10) ≡ false → Goes total i after_cr s → Goes total (i + 1) (get_or s i 0 == 13) s
goes_on total i after_cr s lt plain so_far =
    let one : drop i s ≡ get_or s i 0 ∷ drop (i + 1) s = rw (add-one, drop-cons s i 0) refl in
    (rw (one, plain) at so_far) ∙ omega arith

pub stops_at : (total i : ℕ) (after_cr : Bool) (s : List ℕ) → i < length s → (after_cr && get_or s i 0 == 10) ≡ true → Goes total i after_cr s → total ≡ i + 1
stops_at total i after_cr s lt ends so_far =
    let one : drop i s ≡ get_or s i 0 ∷ drop (i + 1) s = rw (add-one, drop-cons s i 0) refl in
    rw (one, ends) at so_far

pub runs_out : (total i : ℕ) (after_cr : Bool) (s : List ℕ) → i ≡ length s → Goes total i after_cr s → total ≡ length s
runs_out total i after_cr s e so_far =
    let none : drop i s ≡ [] = drop_all i s (omega arith) in
    let here : total ≡ i + 0 = rw none at so_far in
    omega arith

-- the first piece, by the length that was found
pub first_of : (s : List ℕ) (n : ℕ) → 0 < length s → piece_len false s ≡ n → cut false s ≡ take n s ∷ cut false (drop n s)
first_of s n filled e = rw (← e) (cut_first false s filled)

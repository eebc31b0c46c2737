-- Lines, one after another.
use Rattle.std.proofs.Common.{◌≡◌, ◌==◌, Bool, true, false, not, nat_lt, ℕ, suc, ◌+◌, ◌<◌, List, [], ◌∷◌, ◌++◌, length, take, Some, None, refl, ap, subst, ◌∙◌, arith, inl, inr}
use Rattle.std.proofs.lemmas.List.{length-append}
use Rattle.std.proofs.lemmas.Bool.{cases_Bool}
use Rattle.std.proofs.lemmas.Bool.Decides.{nat_tests}
use Rattle.std.specs.List.{list_all, onto_first, prefix_len}
use Rattle.mmtel_base.specs.Scanning.{split_once_at, IsFree}
use Rattle.mmtel_base.proofs.ChainTheorems.{some_is, some_none}
use Rattle.mmtel_base.proofs.Runs.{and_true, split_none, split_takes}
use Rattle.mmtel_directory.specs.Lines.{lines_of}

prefix_each : (p : ℕ → Bool) (s : List ℕ) → list_all p (take (prefix_len p s) s) ≡ true
prefix_each p [] = refl
prefix_each p (c ∷ s) =
    elim (cases_Bool (p c)) [
      | inl y ↦
          let one : 1 + prefix_len p s ≡ suc (prefix_len p s) = omega arith in
          rw (y, one, y, prefix_each p s) refl
      | inr n ↦ rw n refl
    ]

-- what precedes the first such byte has none
pub parted_free_front : (b : ℕ) (s : List ℕ) (x : List ℕ × List ℕ) → split_once_at b s ≡ Some x → IsFree b x.0
unfolding split_once_at
parted_free_front b s x e =
    elim (cases_Bool (nat_lt (prefix_len (λ x. not (x == b)) s) (length s))) [
      | inl y ↦ subst (λ (z : List ℕ × List ℕ). IsFree b z.0) (some_is _ x (rw y at e)) (prefix_each (λ x. not (x == b)) s)
      | inr m ↦ absurd (some_none x None refl (rw m at e))
    ]

lines_free : (s : List ℕ) → IsFree 10 s → 0 < length s → lines_of s ≡ s ∷ []
lines_free [] free filled = absurd (omega arith)
lines_free (b ∷ []) free filled =
    let both = and_true (not (b == 10)) true free in
    let other : (b == 10) ≡ false = grind (arith, nat_tests, both.0) in
    rw other refl
lines_free (b ∷ c ∷ s) free filled =
    let both = and_true (not (b == 10)) (list_all (λ x. not (x == 10)) (c ∷ s)) free in
    let other : (b == 10) ≡ false = grind (arith, nat_tests, both.0) in
    rw other (ap (onto_first b) (lines_free (c ∷ s) both.1 (omega arith)))

pub lines_at : (f r : List ℕ) → IsFree 10 f → lines_of (f ++ 10 ∷ r) ≡ f ∷ lines_of r
lines_at [] r free = refl
lines_at (b ∷ f) r free =
    let both = and_true (not (b == 10)) (list_all (λ x. not (x == 10)) f) free in
    let other : (b == 10) ≡ false = grind (arith, nat_tests, both.0) in
    rw other (ap (onto_first b) (lines_at f r both.1))

pub lines_alone : (s : List ℕ) → split_once_at 10 s ≡ None → 0 < length s → lines_of s ≡ s ∷ []
lines_alone s e filled = lines_free s (split_none 10 s e) filled

pub lines_first : (s : List ℕ) (x : List ℕ × List ℕ) → split_once_at 10 s ≡ Some x → lines_of s ≡ x.0 ∷ lines_of x.1
lines_first s x e = ap lines_of (split_takes 10 s x e) ∙ lines_at x.0 x.1 (parted_free_front 10 s x e)

pub lines_shorter : (s : List ℕ) (x : List ℕ × List ℕ) → split_once_at 10 s ≡ Some x → length x.1 < length s
lines_shorter s x e = rw (split_takes 10 s x e) (omega (arith, length-append {A = ℕ}))

-- The invariant of the live conferences through each change: numbers ascend, and the index holds the marks of each conference.
use Rattle.std.proofs.Common.{◌≡◌, ℕ, zero, suc, ◌+◌, ◌-◌, Bool, true, false, List, [], ◌∷◌, ◌++◌}
use Rattle.std.proofs.Common.{length, get_or-set_same, lt-length-set, set-set, Some, refl, sym, ap, ◌∙◌, arith, drop, take}
use Rattle.std.proofs.lemmas.Bool.Decides.{nat_tests}
use Rattle.std.proofs.lemmas.Option.{slice_get-get_or, slice_get_within}
use Rattle.std.specs.Prelude.{◌==◌, Err, Ok, OnErr, OnOk, Result, remove, slice_get, slice_set}
use Rattle.mmtel_output.proofs.Marking.{pushed_ascends, pushed_marked, removed_ascends, removed_marked, set_ascends, set_marked}
use Rattle.mmtel_output.specs.Marks.{Holds, HoldsAll, MarkUpdate}
use Rattle.mmtel_output.specs.declared.index.Index.{Index}
use Rattle.mmtel_output.specs.declared.marks.Key.{Key}
use Rattle.mmtel_focus.specs.Joining.{new_conference}
use Rattle.mmtel_focus.specs.Marks.{TableInvariant, marks_of, number_of}
use Rattle.mmtel_focus.specs.Conferences.{Conference}
use Rattle.mmtel_types.specs.declared.numbers.RoomNo.{RoomNo}

-- ---- the conferences from a place on

take_all : {X : Type 0} (xs : List X) → take (length xs) xs ≡ xs
take_all [] = refl
take_all (x ∷ xs) = ap (λ l. x ∷ l) (take_all xs)

take_none : {X : Type 0} (n : ℕ) → (let l : List X = take n [] in l) ≡ []
take_none zero = refl
take_none (suc n) = refl

pub take_rest : {X : Type 0} (xs : List X) (k : ℕ) → take (length xs - k) (drop k xs) ≡ drop k xs
take_rest [] zero = refl
take_rest [] (suc k) = take_none (0 - suc k)
take_rest (x ∷ xs) zero = let e : length (x ∷ xs) - 0 ≡ length (x ∷ xs) = omega arith in ap (λ (n : ℕ). take n (x ∷ xs)) e ∙ take_all (x ∷ xs)
take_rest (x ∷ xs) (suc k) = let e : length (x ∷ xs) - suc k ≡ length xs - k = omega arith in ap (λ (n : ℕ). take n (drop k xs)) e ∙ take_rest xs k

-- ---- a conference is changed, or removed

module _ (rooms : List Conference) (opened : ℕ) (i : Index) (k : ℕ) (x : Conference) (are : TableInvariant rooms opened i) (is : slice_get rooms k ≡ Some x) where
  changed : (j : Index) (y : Conference) → ((q : Key) → (q.owner ≡ number_of x → ⊥) → Holds i q → Holds j q) → y.number ≡ x.number → HoldsAll j (number_of y) (marks_of y)
      → TableInvariant (slice_set rooms k y) opened j
  changed j y pass same all = record {
    ascend = set_ascends number_of 0 opened rooms k x y is (ap (λ (n : RoomNo). n.0) same) are.ascend;
    marked = set_marked number_of marks_of (number_of x) i j pass 0 opened rooms k x y refl are.ascend is all are.marked;
  }

  -- its marks are removed, and an empty conference of its number is at its place
  pub out_kept : (j : Index) → MarkUpdate false (number_of x) (marks_of x) i j → TableInvariant (slice_set rooms k (new_conference x.number)) opened j
  out_kept j out = changed j (new_conference x.number) out.others refl (λ m has. absurd has)

  -- another conference of its number is at its place, with its marks in the index
  pub back_kept : (j : Index) (y : Conference) → y.number ≡ x.number → MarkUpdate true (number_of y) (marks_of y) i j → TableInvariant (slice_set rooms k y) opened j
  back_kept j y same into = changed j y (λ q other h. into.kept refl q h) same (into.noted refl)

  -- it has other marks than before
  pub left_kept : (mid j : Index) (y : Conference) → y.number ≡ x.number → MarkUpdate false (number_of x) (marks_of x) i mid → MarkUpdate true (number_of y) (marks_of y) mid j
      → TableInvariant (slice_set rooms k y) opened j
  left_kept mid j y same out into = changed j y (λ q other h. into.kept refl q (out.others q other h)) same (into.noted refl)

  pub removed_kept : (j : Index) → MarkUpdate false (number_of x) (marks_of x) i j → TableInvariant (remove rooms k) opened j
  removed_kept j out = record {
    ascend = removed_ascends number_of 0 opened rooms k are.ascend;
    marked = removed_marked number_of marks_of (number_of x) i j out.others 0 opened rooms k x refl are.ascend is are.marked;
  }

-- ---- one more conference

pub opened_kept : (rooms : List Conference) (opened : ℕ) (i j : Index) (x : Conference)
    → TableInvariant rooms opened i → number_of x ≡ opened + 1 → MarkUpdate true (number_of x) (marks_of x) i j → TableInvariant (rooms ++ x ∷ []) (number_of x) j
opened_kept rooms opened i j x are number into = record {
  ascend = pushed_ascends number_of 0 opened (number_of x) rooms x (omega (arith, number)) (omega arith) are.ascend;
  marked = pushed_marked number_of marks_of i j rooms x (into.kept refl) (into.noted refl) are.marked;
}

-- ---- the conference at a place

pub stands : (l : List Conference) (k : ℕ) (x y : Conference) → slice_get l k ≡ Some x → slice_get (slice_set l k y) k ≡ Some y
stands l k x y is = slice_get-get_or (slice_set l k y) k y (lt-length-set l k y (slice_get_within l k x is)) ∙ ap Some (get_or-set_same l k y y (slice_get_within l k x is))

-- an empty conference of its number
pub waits : (l : List Conference) (k : ℕ) (x y : Conference) → slice_get l k ≡ Some x → y.number ≡ x.number → slice_get (slice_set l k (new_conference x.number)) k ≡ Some (new_conference y.number)
waits l k x y is same = stands l k x (new_conference x.number) is ∙ ap (λ (n : RoomNo). Some (new_conference n)) (sym same)

-- it was taken out, and another one is put back
pub put_twice : (l : List Conference) (k : ℕ) (x y : Conference) → slice_set (slice_set l k x) k y ≡ slice_set l k y
put_twice l k x y = set-set l k x y

-- a step that keeps the number, or none
pub same_number : {E : Type 0} (r : Result (Unit {0}) E) (y x z : Conference) → OnOk r (y ≡ z) → OnErr r (y ≡ x) → z.number ≡ x.number → y.number ≡ x.number
same_number (Ok done) y x z is refused same = ap (λ (room : Conference). room.number) is ∙ same
same_number (Err fault) y x z is refused same = ap (λ (room : Conference). room.number) refused

-- ---- the equality test of numbers

pub alike : (a b : ℕ) → a ≡ b → (a == b) ≡ true
alike a b e = grind (arith, nat_tests)

pub differ : (a b : ℕ) → (a ≡ b → ⊥) → (a == b) ≡ false
differ a b f = go (a == b) refl
  where
    go : (t : Bool) → (a == b) ≡ t → t ≡ false
    go false e = refl
    go true e = absurd (f (let h : a ≡ b = grind (arith, nat_tests) in h))

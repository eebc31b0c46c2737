-- Loops over a message's lines, and edits of them.
use Rattle.std.proofs.Common.{◌≡◌, Bool, true, false, ℕ, zero, suc, ◌+◌, ◌<◌, List, [], ◌∷◌, ◌++◌, length, take, drop, get_or, Option, Some, None}
use Rattle.std.proofs.Common.{refl, sym, ap, subst, nat_lt, length-take, take-suc, slice_set, append_assoc, arith, drop-cons, add-one, inl, inr}
use Rattle.std.proofs.lemmas.Bool.{cases_Bool}
use Rattle.std.proofs.lemmas.List.{drop_all}
use Rattle.std.specs.Prelude.{position}
use Rattle.std.proofs.lemmas.Grind.{take-set_at}
use Rattle.std.proofs.lemmas.Option.{slice_get_within}
use Rattle.std.specs.List.{slice_get}
use Rattle.mmtel_base.proofs.Positions.{position_yes, position_no}
use Rattle.mmtel_message.proofs.LineTheorems.{mapped, unmapped, same_some}
use Rattle.mmtel_message.specs.Message.{Line, is_line, lines_with, lines_without}
use Rattle.mmtel_message.specs.Faults.{line_fault, fault_from}
use Rattle.mmtel_message.specs.Entries.{dotted_step, is_dotted}
use Rattle.mmtel_message.specs.declared.fields.Five.{Five}
use Rattle.mmtel_message.specs.declared.messages.Start.{Start}

-- ---- the first fault

pub fault_here : (start : Start) (five : Five) (room : ℕ) (ls : List Line) (i : ℕ) (x : Line) (whole : Option ℕ) → slice_get ls i ≡ Some x → drop i ls ≡ x ∷ drop (i + 1) ls →
    line_fault start five room (take i ls) x ≡ true → whole ≡ fault_from start five room (take i ls) (drop i ls) → whole ≡ Some (i + 1)
unfolding fault_from
fault_here start five room ls i x whole item first e so_far =
    let within : i < length ls = slice_get_within ls i x item in
    let cut : length (take i ls) ≡ i = omega (arith, length-take i ls, within) in
    rw (first, e, cut) at so_far

pub fault_over : (start : Start) (five : Five) (room : ℕ) (ls : List Line) (i : ℕ) (x : Line) (whole : Option ℕ) → drop i ls ≡ x ∷ drop (i + 1) ls → take (i + 1) ls ≡ take i ls ++ x ∷ [] →
    line_fault start five room (take i ls) x ≡ false → whole ≡ fault_from start five room (take i ls) (drop i ls) → whole ≡ fault_from start five room (take (i + 1) ls) (drop (i + 1) ls)
unfolding fault_from
fault_over start five room ls i x whole first last e so_far = rw (first, e, sym last) at so_far

pub fault_none : (start : Start) (five : Five) (room : ℕ) (ls : List Line) (i : ℕ) (whole : Option ℕ) → i ≡ length ls → whole ≡ fault_from start five room (take i ls) (drop i ls) → whole ≡ None
unfolding fault_from
fault_none start five room ls i whole e so_far = rw (drop_all i ls (omega arith)) at so_far

-- ---- the first line of a name

pub set_none : (name value : List ℕ) (ls : List Line) → position (λ l. is_line name l) ls ≡ None → lines_with name value ls ≡ ls ++ (name, value) ∷ []
set_none name value [] e = refl
set_none name value (l ∷ ls) e =
    elim (cases_Bool (is_line name l)) [
      | inl y ↦ let f = rw (position_yes (λ m. is_line name m) l ls y) at e in absurd cc
      | inr other ↦
          let f = unmapped (position (λ m. is_line name m) ls) (rw (position_no (λ m. is_line name m) l ls other) at e) in
          rw (other, set_none name value ls f) refl
    ]

set_later : (name value : List ℕ) (l : Line) (ls : List Line) (m n : ℕ) → is_line name l ≡ false → suc m ≡ n →
    lines_with name value ls ≡ take m ls ++ (name, value) ∷ lines_without name (drop (m + 1) ls) →
    lines_with name value (l ∷ ls) ≡ take n (l ∷ ls) ++ (name, value) ∷ lines_without name (drop (n + 1) (l ∷ ls))
set_later name value l ls m n other e more =
    let one : suc m + 1 ≡ suc (m + 1) = omega arith in
    subst (λ (k : ℕ). lines_with name value (l ∷ ls) ≡ take k (l ∷ ls) ++ (name, value) ∷ lines_without name (drop (k + 1) (l ∷ ls))) e (rw (other, more, one) refl)

pub set_some : (name value : List ℕ) (ls : List Line) (n : ℕ) → position (λ l. is_line name l) ls ≡ Some n → lines_with name value ls ≡ take n ls ++ (name, value) ∷ lines_without name (drop (n + 1) ls)
set_some name value [] n e = absurd cc
set_some name value (l ∷ ls) n e =
    elim (cases_Bool (is_line name l)) [
      | inl y ↦
          subst (λ (k : ℕ). lines_with name value (l ∷ ls) ≡ take k (l ∷ ls) ++ (name, value) ∷ lines_without name (drop (k + 1) (l ∷ ls)))
          (same_some 0 n (rw (position_yes (λ m. is_line name m) l ls y) at e)) (rw y refl)
      | inr other ↦
          let p = mapped (position (λ m. is_line name m) ls) n (rw (position_no (λ m. is_line name m) l ls other) at e) in
          set_later name value l ls p.0 n other p.2 (set_some name value ls p.0 p.1)
    ]

set_back : (ls : List Line) (n : ℕ) (y : Line) → drop (n + 1) (slice_set ls n y) ≡ drop (n + 1) ls
set_back [] n y = refl
set_back (l ∷ ls) zero y = refl
set_back (l ∷ ls) (suc n) y =
    let one : suc n + 1 ≡ suc (n + 1) = omega arith in
    rw (one, set_back ls n y) refl

pub set_there : (name value : List ℕ) (ls : List Line) (n : ℕ) → n < length ls → position (λ l. is_line name l) ls ≡ Some n →
    take (n + 1) (slice_set ls n (name, value)) ++ lines_without name (drop (n + 1) (slice_set ls n (name, value))) ≡ lines_with name value ls
set_there name value ls n lt e =
    rw (set_some name value ls n e, set_back ls n (name, value), take-set_at ls n (n + 1) (name, value) refl lt) (append_assoc (take n ls) ((name, value) ∷ []) (lines_without name (drop (n + 1) ls)))

pub there : (name : List ℕ) (ls : List Line) (n : ℕ) → position (λ l. is_line name l) ls ≡ Some n → n < length ls
there name [] n e = absurd cc
there name (l ∷ ls) n e =
    elim (cases_Bool (is_line name l)) [
      | inl y ↦ omega (arith, same_some 0 n (rw (position_yes (λ m. is_line name m) l ls y) at e))
      | inr other ↦
          let p = mapped (position (λ m. is_line name m) ls) n (rw (position_no (λ m. is_line name m) l ls other) at e) in
          omega (arith, there name ls p.0 p.1, p.2)
    ]

-- ---- numbers separated by dots

pub dot_over : (total : Bool) (i : ℕ) (s : List ℕ) (d e : Bool) → i < length s → dotted_step d (get_or s i 0) ≡ Some e → total ≡ is_dotted d (drop i s) → total ≡ is_dotted e (drop (i + 1) s)
unfolding is_dotted
dot_over total i s d e lt step so_far =
    let one : drop i s ≡ get_or s i 0 ∷ drop (i + 1) s = rw (add-one, drop-cons s i 0) refl in
    rw (one, step) at so_far

pub dot_stop : (total : Bool) (i : ℕ) (s : List ℕ) (d : Bool) → i < length s → dotted_step d (get_or s i 0) ≡ None → total ≡ is_dotted d (drop i s) → total ≡ false
unfolding is_dotted
dot_stop total i s d lt step so_far =
    let one : drop i s ≡ get_or s i 0 ∷ drop (i + 1) s = rw (add-one, drop-cons s i 0) refl in
    rw (one, step) at so_far

pub dot_end : (total : Bool) (i : ℕ) (s : List ℕ) (d : Bool) → i ≡ length s → total ≡ is_dotted d (drop i s) → total ≡ d
unfolding is_dotted
dot_end total i s d e so_far = rw (drop_all i s (omega arith)) at so_far

-- How a sequence of disk calls continues.
use Rattle.std.proofs.Common.{inl, inr, ⊎_elim, ℕ, List, arith}
use Rattle.std.specs.Prelude.{Result, Ok, Err, OnErr, OnOk}
use Rattle.mmtel_journal.specs.Disks.{Elapses, Leaves, LeavesOnly}

module _ {D : Type 0} (clock : D → ℕ) (left_since : D → ℕ → List ℕ → Type 0) where
  -- before the first call
  pub started : (old : D) (P : List ℕ → Type 0) → ((c : List ℕ) → left_since old (clock old) c → P c) → LeavesOnly clock left_since old old P
  started old P here = record { later = omega arith; each = here; before = λ t c le left. inl left }

  -- one call more, after which a stop leaves what has P
  pub goes_on : (old mid new : D) (P may_leave : List ℕ → Type 0) → LeavesOnly clock left_since old mid P
      → Elapses (clock mid) (clock new) (left_since mid) (left_since new) may_leave
      → Leaves may_leave P → LeavesOnly clock left_since old new P
  goes_on old mid new P may_leave so_far time here = record {
    later = omega (arith, so_far.later, time.later);
    each = λ c left. ⊎_elim (so_far.each c) (here c) (time.nothing_else (clock old) c so_far.later left);
    before = λ t c le left. ⊎_elim (so_far.before t c le) (λ now. inr (here c now)) (time.nothing_else t c (omega (arith, le, so_far.later)) left);
  }

  -- two calls, one after the other
  pub then_more : (old mid new : D) (P Q R : List ℕ → Type 0) → LeavesOnly clock left_since old mid P → LeavesOnly clock left_since mid new Q → ((c : List ℕ) → P c → R c)
      → ((c : List ℕ) → Q c → R c) → LeavesOnly clock left_since old new R
  then_more old mid new P Q R first second p q = record {
    later = omega (arith, first.later, second.later);
    each = λ c left. ⊎_elim (λ was. p c (first.each c was)) (q c) (second.before (clock old) c first.later left);
    before = λ t c le left. ⊎_elim (λ was. ⊎_elim (λ old_one. inl old_one) (λ x. inr (p c x)) (first.before t c le was)) (λ x. inr (q c x))
        (second.before t c (omega (arith, le, first.later)) left);
  }

  -- what has P has Q
  pub weaker : (old new : D) (P Q : List ℕ → Type 0) → LeavesOnly clock left_since old new P → ((c : List ℕ) → P c → Q c) → LeavesOnly clock left_since old new Q
  weaker old new P Q first p = record {
    later = first.later;
    each = λ c left. p c (first.each c left);
    before = λ t c le left. ⊎_elim (λ was. inl was) (λ x. inr (p c x)) (first.before t c le left);
  }

-- what holds whatever was returned
pub on_err : {T E : Type 0} (P : Type 0) (r : Result T E) → P → OnErr r P
on_err P (Ok x) p = tt
on_err P (Err e) p = p

pub on_ok : {T E : Type 0} (P : Type 0) (r : Result T E) → P → OnOk r P
on_ok P (Ok x) p = p
on_ok P (Err e) p = tt

-- what all images before have, those of fewer after have
pub still_leaves : (old new P : List ℕ → Type 0) → Leaves old P → Leaves new old → Leaves new P
still_leaves old new P all fewer c left = all c (fewer c left)

-- The first of the deadlines as they are stored is the soonest of all, and the next one to be taken where it is due.
use Rattle.std.proofs.Common.{◌≡◌, ℕ, ◌≤◌, ◌<◌, inl, inr, Bool, true, false, cond, nat_lt, nat_le, List, [], ◌∷◌, map, Option, Some, None, IfSome, refl, sym, ap, ◌∙◌, arith}
use Rattle.std.specs.Prelude.{slice_get}
use Rattle.std.specs.List.{AllByRecursion}
use Rattle.std.specs.List.Sorted.{IsStrictlySortedBy}
use Rattle.std.specs.Map.{keys_of}
use Rattle.std.specs.declared.cmp.Ordering.TheVariants.{Less}
use Rattle.std.proofs.lemmas.Bool.Decides.{nat_tests}
use Rattle.std.proofs.lemmas.Map.Keys.{sorted_head}
use Rattle.std.proofs.lemmas.Option.{none-some, same_Some}
use Rattle.mmtel_timers.specs.Deadlines.{Deadline, due, next_due, sooner, soonest}
use Rattle.mmtel_timers.specs.Queues.{Queued, by_arming, deadline_of, if_due, inserted_by_arming, number_of, queue_position_cmp, queue_view}
use Rattle.mmtel_timers.specs.declared.queues.QueuePosition.{QueuePosition}
use Rattle.mmtel_timers.proofs.Arranged.{all_by_arming, all_weaken}
use Rattle.mmtel_timers.proofs.QueuePositions.{comes}

-- what holds for all holds for the soonest
pub soonest_is : (P : Deadline → Type 0) (deadlines : List Deadline) → AllByRecursion P deadlines → IfSome (soonest deadlines) P
soonest_is P [] all = tt
soonest_is P (first ∷ rest) all = by_rest (soonest rest) (soonest_is P rest all.1)
  where
    by_test : (later : Deadline) (b : Bool) → P later → P (cond b later first)
    by_test later true there = there
    by_test later false there = all.0

    by_rest : (o : Option Deadline) → IfSome o P → P (sooner first o)
    by_rest None there = all.0
    by_rest (Some later) there = by_test later (nat_lt later.0 first.0) there

-- the other has no lesser moment, and a later one where it was armed before
abbrev Behind : Queued → Queued → Type 0
Behind q x = (q.0.at ≤ x.0.at) × (number_of x ≤ number_of q → q.0.at < x.0.at)

behind : (q x : Queued) → queue_position_cmp q.0 x.0 ≡ Less → Behind q x
behind q x less = elim (comes q.0 x.0 less) [
  | inl l ↦ (omega (arith, l), λ _. l)
  | inr p ↦ let a = p.0 in let n = p.1 in (omega (arith, a), λ o. let h : x.0.number ≤ q.0.number = o in absurd (omega (arith, n, h)))
]

behinds : (q : Queued) (qs : List Queued) → AllByRecursion (λ (y : QueuePosition). queue_position_cmp q.0 y ≡ Less) (keys_of qs) → AllByRecursion (Behind q) qs
behinds q [] less = tt
behinds q (x ∷ xs) less = (behind q x less.0, behinds q xs less.1)

module _ (q : Queued) where
  in_front : (qs : List Queued) → AllByRecursion (λ x. q.0.at ≤ x.0.at) qs → soonest (map (λ q. deadline_of q) (q ∷ qs)) ≡ Some (deadline_of q)
  in_front qs all = by_rest (soonest (map (λ q. deadline_of q) qs)) (soonest_is (λ (d : Deadline). q.0.at ≤ d.0) (map (λ q. deadline_of q) qs) (moments qs all))
    where
      moments : (xs : List Queued) → AllByRecursion (λ x. q.0.at ≤ x.0.at) xs → AllByRecursion (λ (d : Deadline). q.0.at ≤ d.0) (map (λ q. deadline_of q) xs)
      moments [] a = tt
      moments (x ∷ xs) a = (a.0, moments xs a.1)

      by_rest : (o : Option Deadline) → IfSome o (λ d. q.0.at ≤ d.0) → Some (sooner (deadline_of q) o) ≡ Some (deadline_of q)
      by_rest None least = refl
      by_rest (Some later) least =
          let l : q.0.at ≤ later.0 = least in
          let e : nat_lt later.0 q.0.at ≡ false = grind (arith, nat_tests) in
          ap (λ (b : Bool). Some (cond b later (deadline_of q))) e

  soonest_placed : (qs : List Queued) → AllByRecursion (Behind q) qs → soonest (map (λ q. deadline_of q) (inserted_by_arming q qs)) ≡ Some (deadline_of q)
  soonest_placed [] all = refl
  soonest_placed (x ∷ xs) all = by_test (soonest_placed xs all.1) (nat_lt (number_of q) (number_of x)) refl
    where
      by_test : soonest (map (λ q. deadline_of q) (inserted_by_arming q xs)) ≡ Some (deadline_of q) → (b : Bool) → nat_lt (number_of q) (number_of x) ≡ b
          → soonest (map (λ q. deadline_of q) (cond b (q ∷ x ∷ xs) (x ∷ inserted_by_arming q xs))) ≡ Some (deadline_of q)
      by_test later true e = in_front (x ∷ xs) (all_weaken (Behind q) (λ y. q.0.at ≤ y.0.at) (λ y b. b.0) (x ∷ xs) all)
      by_test later false e =
          let before : x.0.number ≤ q.0.number = grind (arith, nat_tests) in
          let l : q.0.at < x.0.at = all.0.1 before in
          let t : nat_lt q.0.at x.0.at ≡ true = grind (arith, nat_tests) in
          ap (λ (o : Option Deadline). Some (sooner (deadline_of x) o)) later ∙ ap (λ (b : Bool). Some (cond b (deadline_of q) (deadline_of x))) t

pub first_is_soonest : (qs : List Queued) (q : Queued) → slice_get qs 0 ≡ Some q → IsStrictlySortedBy queue_position_cmp (keys_of qs) → Some (deadline_of q) ≡ soonest (queue_view qs)
first_is_soonest [] q is sorted = absurd (none-some q is)
first_is_soonest (x ∷ xs) q is sorted =
    ap (λ (y : Queued). Some (deadline_of y)) (sym (same_Some x q is))
    ∙ sym (soonest_placed x (by_arming xs) (all_by_arming (Behind x) xs (behinds x xs (sorted_head queue_position_cmp x.0 (keys_of xs) sorted))))

-- ---- the next one to be taken

pub next_is_first : (now : ℕ) (deadlines : List Deadline) → next_due now deadlines ≡ if_due now (soonest deadlines)
next_is_first now [] = refl
next_is_first now (first ∷ rest) = by_rest (soonest rest) (nat_le first.0 now) refl (next_is_first now rest)
  where
    both : (later : Deadline) (b c d : Bool) → nat_le first.0 now ≡ b → nat_le later.0 now ≡ c → nat_lt later.0 first.0 ≡ d → next_due now rest ≡ cond c (Some later) None
        → soonest (cond b (first ∷ due now rest) (due now rest)) ≡ if_due now (Some (cond d later first))
    both later true true true e f g h =
        ap (λ (o : Option Deadline). Some (sooner first o)) h ∙ (ap (λ (t : Bool). Some (cond t later first)) g ∙ ap (λ (t : Bool). cond t (Some later) None) (sym f))
    both later true false true e f g h =
        let l : later.0 < first.0 = grind (arith, nat_tests, g) in
        let m : first.0 ≤ now = grind (arith, nat_tests, e) in
        let n : now < later.0 = grind (arith, nat_tests, f) in
        absurd (omega (arith, l, m, n))
    both later false c true e f g h = h ∙ ap (λ (t : Bool). cond t (Some later) None) (sym f)
    both later true true false e f g h =
        ap (λ (o : Option Deadline). Some (sooner first o)) h ∙ (ap (λ (t : Bool). Some (cond t later first)) g ∙ ap (λ (t : Bool). cond t (Some first) None) (sym e))
    both later true false false e f g h = ap (λ (o : Option Deadline). Some (sooner first o)) h ∙ ap (λ (t : Bool). cond t (Some first) None) (sym e)
    both later false true false e f g h =
        let l : first.0 ≤ later.0 = grind (arith, nat_tests, g) in
        let m : now < first.0 = grind (arith, nat_tests, e) in
        let n : later.0 ≤ now = grind (arith, nat_tests, f) in
        absurd (omega (arith, l, m, n))
    both later false false false e f g h = h ∙ ap (λ (t : Bool). cond t (Some first) None) (sym e)

    by_rest : (o : Option Deadline) (b : Bool) → nat_le first.0 now ≡ b → next_due now rest ≡ if_due now o → soonest (cond b (first ∷ due now rest) (due now rest)) ≡ if_due now (Some (sooner first o))
    by_rest None true e h = ap (λ (o : Option Deadline). Some (sooner first o)) h ∙ ap (λ (t : Bool). cond t (Some first) None) (sym e)
    by_rest None false e h = h ∙ ap (λ (t : Bool). cond t (Some first) None) (sym e)
    by_rest (Some later) b e h = both later b (nat_le later.0 now) (nat_lt later.0 first.0) e refl refl h

-- Successive deadlines terminate.
use Rattle.std.proofs.Common.{◌≡◌, ℕ, zero, suc, ◌+◌, ◌≤◌, ◌<◌, List, [], ◌∷◌, refl, true, false, Bool, ◌⊎◌, inl, inr, sym, ap, ◌∙◌, arith, cond, subst}
use Rattle.std.specs.Prelude.{Option, Some, None, ◌==◌, option_map, slice_get, sum_by}
use Rattle.std.specs.Option.{option_or}
use Rattle.std.proofs.lemmas.Bool.{cases_lt, eq-eqb, eqb-true}
use Rattle.std.proofs.lemmas.List.Recursion.{is_sum_by}
use Rattle.std.proofs.lemmas.Option.{none-some, same_Some}
use Rattle.mmtel_timers.specs.Schedules.{moments_of}
use Rattle.mmtel_timers.specs.declared.schedules.Schedule.TheVariants as schedule
use Rattle.mmtel_transaction.specs.Deadlines.{deadline, is_untimed, last_deadline, last_deadline_by, order_due, retransmission_by, slow_at, state_retransmission_at, step_due, timer_of}
use Rattle.mmtel_transaction.specs.declared.entries.TransactionTimer.{TransactionTimer}
use Rattle.mmtel_transaction.specs.declared.entries.Entry.{Entry}
use Rattle.mmtel_transaction.specs.declared.entries.State.{State}
use Rattle.mmtel_transaction.specs.declared.entries.State.TheVariants.{Proceeding, Calling, Trying, SlowProceeding, Completed, Absorbing}
use Rattle.mmtel_transaction.specs.declared.entries.State.TheVariants as states
use Rattle.mmtel_transaction.specs.declared.entries.ReliableResponse.{ReliableResponse}
use Rattle.mmtel_transaction.specs.Changes.{after_state_timer, after_timer}
use Rattle.mmtel_transaction.specs.Operations.{TransactionOp, DidFire, is_live, live, step_of}
use Rattle.mmtel_transaction.specs.Results.{DueEntryView, after_firing, next_due, upcoming_of}
use Rattle.mmtel_transaction.specs.Firings.{FiringsEnd, FiringsUseUp, MoreChangesNothing, NoneIsDue, UpcomingIsLeast, after_firings, reliable_remaining, remaining_by, state_remaining, time_remaining, total_remaining}
use Rattle.mmtel_transaction.specs.Table.{table_after_change}
use Rattle.mmtel_timers.specs.Shelves.{Has}
use Rattle.mmtel_transaction.proofs.Before.{counted_at, not_less, not_same}
use Rattle.mmtel_transaction.proofs.Foremost.{after_state_timer_by, before_end, busy_fired, fired_answer, foremost_there, is_idle_with, its_moment}
use Rattle.mmtel_transaction.proofs.Foremost.{retransmitted, retransmitted_at, retransmitted_later, state_timer_later, still_busy, timer_there, which}
use Rattle.mmtel_transaction.proofs.Having.{at_key, of_key, same_entry}
use Rattle.mmtel_transaction.proofs.Order.{first_of_all, is_next, none_due}
use Rattle.mmtel_transaction.proofs.Representation.{live_hit}

-- ---- the least one

upcoming_is : (o : Option DueEntryView) (at step : ℕ) → upcoming_of o ≡ Some (at, step) → (n : DueEntryView) × (o ≡ Some n) × (n.at ≡ at) × (step_due n.entry ≡ step)
upcoming_is None at step q = absurd (none-some (at, step) q)
upcoming_is (Some n) at step q = let w = same_Some (n.at, step_due n.entry) (at, step) q in (n, refl, ap (λ (x : ℕ × ℕ). x.0) w, ap (λ (x : ℕ × ℕ). x.1) w)

least_if : (at step : ℕ) (n : DueEntryView) (a : ℕ) (e : Entry) → n.at ≡ at → step_due n.entry ≡ step → (b : n.at ≤ a) → (n.at ≡ a → step_due n.entry ≤ step_due e) → (at < a) ⊎ ((at ≡ a) × (step ≤ step_due e))
least_if at step n a e p q b f = elim (cases_lt n.at a) [
  | inl l ↦ inl (omega (arith, p, l))
  | inr l ↦ let same : n.at ≡ a = omega (arith, l, b) in inr (omega (arith, same, p), omega (arith, f same, q))
]

pub upcoming_is_least : UpcomingIsLeast
upcoming_is_least h now at step q =
    let w = upcoming_is (next_due now (live h)) at step q in
    let n : DueEntryView = w.0 in
    let v = is_next now (live h) n w.1 in
    record {
      not_past = omega (arith, v.not_past, w.2);
      is_live = (n.entry, at_key h n.entry v.stands, v.moment ∙ ap (λ (x : ℕ). Some x) w.2, w.3);
      least = λ k a e f d.
          let b = first_of_all h now n w.1 a e (of_key h k e f).0 d in
          least_if at step n a e w.2 w.3 (not_less a (step_due e) (order_due e) n.at (step_due n.entry) (order_due n.entry) b)
          (λ s. (not_same a (step_due e) (order_due e) n.at (step_due n.entry) (order_due n.entry) b (sym s)).0);
    }

no_next : (o : Option DueEntryView) → upcoming_of o ≡ None → o ≡ None
no_next None q = refl
no_next (Some n) q = absurd (none-some (n.at, step_due n.entry) (sym q))

pub none_is_due : NoneIsDue
none_is_due h now key a e q f d = elim (cases_lt now a) [
  | inl l ↦ l
  | inr l ↦ absurd (none_due now (live h) a e (no_next (next_due now (live h)) q) d l (of_key h key e f).0)
]

-- ---- the remaining time falls

-- what is retransmitted is retransmitted before the last moment
within : (start a : ℕ) (ds : List ℕ) (k : ℕ) → ((d j : ℕ) → slice_get ds j ≡ Some d → d < 32000) → option_map (λ d. start + d) (slice_get ds k) ≡ Some a → a < start + 32000
within start a ds k f q = let w = counted_at start (slice_get ds k) a q in omega (arith, w.2, f w.0 k w.1)

abbrev pub AreBelow : ℕ → List ℕ → Type 0
AreBelow end [] = Unit {0}
AreBelow end (d ∷ ds) = (d < end) × AreBelow end ds

pub below_at : (end : ℕ) (ds : List ℕ) → AreBelow end ds → (d j : ℕ) → slice_get ds j ≡ Some d → d < end
below_at end [] b d j q = absurd (none-some d q)
below_at end (x ∷ ds) b d zero q = let w = same_Some x d q in omega (arith, w, b.0)
below_at end (x ∷ ds) b d (suc j) q = below_at end ds b.1 d j q

pub invites_below : AreBelow 32000 (moments_of schedule.Invite)
invites_below = (omega arith, (omega arith, (omega arith, (omega arith, (omega arith, (omega arith, tt))))))

pub others_below : AreBelow 32000 (moments_of schedule.Other)
others_below = (omega arith, (omega arith, (omega arith, (omega arith, (omega arith, (omega arith, (omega arith, (omega arith, (omega arith, (omega arith, tt))))))))))

answers_below : AreBelow 31501 (moments_of schedule.Invite)
answers_below = (omega arith, (omega arith, (omega arith, (omega arith, (omega arith, (omega arith, tt))))))

-- a state by which something is retransmitted has a last moment, which is later
has_last : (p : State) (start opened k a : ℕ) → retransmission_by p start opened k ≡ Some a → (last : ℕ) × (last_deadline_by p start opened ≡ Some last) × (a < last)
has_last Proceeding start opened k a q = absurd (none-some a q)
has_last Calling start opened k a q = (start + 32000, refl, within start a (moments_of schedule.Invite) k (below_at 32000 (moments_of schedule.Invite) invites_below) q)
has_last Trying start opened k a q = (start + 32000, refl, within start a (moments_of schedule.Other) k (below_at 32000 (moments_of schedule.Other) others_below) q)
has_last SlowProceeding start opened k a q = (opened + 32000, refl, (before_end (opened + 32000) (slow_at start k) a q).1)
has_last Completed start opened k a q = (start + 32000, refl, within start a (moments_of schedule.Other) k (below_at 32000 (moments_of schedule.Other) others_below) q)
has_last Absorbing start opened k a q = absurd (none-some a q)
has_last states.Confirmed start opened k a q = absurd (none-some a q)

some_left : (a : ℕ) (last : Option ℕ) → 1 ≤ remaining_by (Some a) last
some_left a None = omega arith
some_left a (Some l) = omega arith

less_if : (a last : ℕ) (o : Option ℕ) → a < last → ((b : ℕ) → o ≡ Some b → a < b) → suc (remaining_by o (Some last)) ≤ remaining_by (Some a) (Some last)
less_if a last None l f = omega (arith, l)
less_if a last (Some b) l f = omega (arith, l, f b refl)

-- a state whose deadline fires has less time remaining, if its transaction is still live
plan_less : (s a : ℕ) (e : Entry) → option_or (state_retransmission_at e) (last_deadline e) ≡ Some a → is_live (after_state_timer s e) ≡ true → suc (state_remaining (after_state_timer s e)) ≤ state_remaining e
plan_less s a e q l = either (state_retransmission_at e) refl
  where
    either : (o : Option ℕ) → state_retransmission_at e ≡ o → suc (state_remaining (after_state_timer s e)) ≤ state_remaining e
    either None f = absurd (let w : false ≡ true = ap (λ x. is_live (after_state_timer_by x s e)) (sym f) ∙ l in cc)
    either (Some b) f =
        let w = has_last e.state e.start e.at e.retransmissions b f in
        let same : b ≡ a = same_Some b a (ap (λ x. option_or x (last_deadline e)) (sym f) ∙ q) in
        let same_last : last_deadline (after_state_timer s e) ≡ Some w.0 = ap (λ x. last_deadline (after_state_timer_by x s e)) f ∙ w.1 in
        let less = less_if a w.0 (option_or (state_retransmission_at (after_state_timer s e)) (last_deadline (after_state_timer s e))) (omega (arith, same, w.2)) (λ c r. state_timer_later s a c e q l r) in
        subst (λ x. suc (remaining_by (option_or (state_retransmission_at (after_state_timer s e)) (last_deadline (after_state_timer s e))) x) ≤ state_remaining e) (sym same_last)
        (subst (λ x. suc (remaining_by (option_or (state_retransmission_at (after_state_timer s e)) (last_deadline (after_state_timer s e))) (Some w.0)) ≤ remaining_by x (last_deadline e)) (sym q)
        (subst (λ x. suc (remaining_by (option_or (state_retransmission_at (after_state_timer s e)) (last_deadline (after_state_timer s e))) (Some w.0)) ≤ remaining_by (Some a) x) (sym w.1) less))

-- so has a response that is retransmitted
moment_some : (o : Option TransactionTimer) (b : ℕ) → option_map (λ (a : TransactionTimer). a.at) o ≡ Some b → (c : TransactionTimer) × (o ≡ Some c) × (c.at ≡ b)
moment_some None b q = absurd (none-some b q)
moment_some (Some c) b q = (c, refl, same_Some c.at b q)

next_less : (a last : ℕ) (o : Option ℕ) → ((b : ℕ) → o ≡ Some b → (a < b) × (b ≤ last)) → suc (remaining_by o (Some last)) ≤ remaining_by (Some a) (Some last)
next_less a last None f = omega arith
next_less a last (Some b) f = let w = f b refl in omega (arith, w.0, w.1)

not_past_last : (x : ReliableResponse) (b : TransactionTimer) → timer_of x ≡ Some b → b.at ≤ x.start + 31500
not_past_last x b q =
    let w = counted_at x.start (slice_get (moments_of schedule.Invite) x.retransmissions) b.at (its_moment x b q) in
    let l = below_at 31501 (moments_of schedule.Invite) answers_below w.0 x.retransmissions w.1 in
    omega (arith, w.2, l)

again_less : (s : ℕ) (x : ReliableResponse) (a : TransactionTimer) → timer_of x ≡ Some a → suc (reliable_remaining (retransmitted s x)) ≤ reliable_remaining x
again_less s x a q =
    let less = next_less a.at (x.start + 31500) (option_map (λ (c : TransactionTimer). c.at) (timer_of (retransmitted s x))) (λ b r.
    let w = moment_some (timer_of (retransmitted s x)) b r in
    let l = retransmitted_later s x a w.0 q w.1 in
    let m = not_past_last (retransmitted s x) w.0 w.1 in
    (omega (arith, l, w.2), omega (arith, m, w.2))) in
    subst (λ (o : Option TransactionTimer). suc (reliable_remaining (retransmitted s x)) ≤ remaining_by (option_map (λ (c : TransactionTimer). c.at) o) (Some (x.start + 31500))) (sym q) less

abbrev answers_left : List ReliableResponse → ℕ
answers_left [] = 0
answers_left (x ∷ xs) = reliable_remaining x + answers_left xs

are_left : (xs : List ReliableResponse) → answers_left xs ≡ sum_by reliable_remaining xs
are_left xs = is_sum_by answers_left reliable_remaining refl (λ y ys. refl) xs

answers_less : (s place : ℕ) (xs : List ReliableResponse) (a : TransactionTimer) → timer_there xs place ≡ Some a → suc (answers_left (retransmitted_at s place xs)) ≤ answers_left xs
answers_less s place [] a q = absurd (none-some a q)
answers_less s zero (x ∷ xs) a q = let l = again_less s x a q in omega (arith, l)
answers_less s (suc place) (x ∷ xs) a q = let l = answers_less s place xs a q in omega (arith, l)

answers_some : (place : ℕ) (xs : List ReliableResponse) (a : TransactionTimer) → timer_there xs place ≡ Some a → 1 ≤ answers_left xs
answers_some place [] a q = absurd (none-some a q)
answers_some zero (x ∷ xs) a q =
    let l : 1 ≤ reliable_remaining x =
    subst (λ (o : Option TransactionTimer). 1 ≤ remaining_by (option_map (λ (c : TransactionTimer). c.at) o) (Some (x.start + 31500))) (sym q) (some_left a.at (Some (x.start + 31500))) in
    omega (arith, l)
answers_some (suc place) (x ∷ xs) a q = let l = answers_some place xs a q in omega (arith, l)

-- the remaining time of a transaction, by its state
idle_left : (e : Entry) → is_untimed e.state ≡ true → time_remaining e ≡ answers_left e.reliable
idle_left e t = ap (λ b. cond b (sum_by reliable_remaining e.reliable) (state_remaining e)) t ∙ sym (are_left e.reliable)

busy_left : (e : Entry) → is_untimed e.state ≡ false → time_remaining e ≡ state_remaining e
busy_left e t = ap (λ b. cond b (sum_by reliable_remaining e.reliable) (state_remaining e)) t

-- a transaction whose deadline fires has less time remaining, if it is still live
fired_less : (s a : ℕ) (e : Entry) → deadline e ≡ Some a → is_live (after_timer s e) ≡ true → suc (time_remaining (after_timer s e)) ≤ time_remaining e
fired_less s a e q l = elim (which e a q) [
  | inl w ↦
      let t = is_idle_with e w.0 w.1 in
      let same : time_remaining (after_timer s e) ≡ answers_left (retransmitted_at s w.0.0 e.reliable) =
      ap time_remaining (fired_answer e s w.0 w.1) ∙ idle_left (record e { reliable = retransmitted_at s w.0.0 e.reliable }) t in
      let before = idle_left e t in
      let less = answers_less s w.0.0 e.reliable w.0.1 (foremost_there e w.0 w.1) in
      omega (arith, same, before, less)
  | inr w ↦
      let is = busy_fired e s w.0 in
      let same : time_remaining (after_timer s e) ≡ state_remaining (after_state_timer s e) = ap time_remaining is ∙ busy_left (after_state_timer s e) (still_busy s e w.0) in
      let before = busy_left e w.0 in
      let less = plan_less s a e w.1 (ap is_live (sym is) ∙ l) in
      omega (arith, same, before, less)
]

fires_some : (a : ℕ) (e : Entry) → deadline e ≡ Some a → 1 ≤ time_remaining e
fires_some a e q = elim (which e a q) [
  | inl w ↦
      let before = idle_left e (is_idle_with e w.0 w.1) in
      let some = answers_some w.0.0 e.reliable w.0.1 (foremost_there e w.0 w.1) in
      omega (arith, before, some)
  | inr w ↦
      let before = busy_left e w.0 in
      let some : 1 ≤ state_remaining e = subst (λ x. 1 ≤ remaining_by x (last_deadline e)) (sym w.1) (some_left a (last_deadline e)) in
      omega (arith, before, some)
]

-- a sum over transactions falls where the term of the one that is changed falls
abbrev pub total : (Entry → ℕ) → List Entry → ℕ
total W [] = 0
total W (e ∷ es) = W e + total W es

pub is_total : (W : Entry → ℕ) (es : List Entry) → total W es ≡ sum_by W es
is_total W es = is_sum_by (total W) W refl (λ x xs. refl) es

module _ (W : Entry → ℕ) where
  settle_if : (l t : Bool) (x y : Entry) (es fs : List Entry) → (t ≡ true → l ≡ true → suc (W x) ≤ W y) → (t ≡ true → 1 ≤ W y) → (t ≡ false → suc (total W fs) ≤ total W es) →
      suc (total W (cond t (cond l (x ∷ es) es) (y ∷ fs))) ≤ total W (y ∷ es)
  settle_if true true x y es fs f g k = omega (arith, f refl refl)
  settle_if false true x y es fs f g k = omega (arith, g refl)
  settle_if l false x y es fs f g k = omega (arith, k refl)

  settle_less : (key : ℕ) (f : Entry → Entry) (es : List Entry) (e : Entry) → ((x : Entry) → Has x es → x.key ≡ key → x ≡ e) → Has e es → e.key ≡ key → (is_live (f e) ≡ true → suc (W (f e)) ≤ W e) →
      1 ≤ W e → suc (total W (table_after_change key f es)) ≤ total W es
  settle_less key f [] e one g k less some = absurd g
  settle_less key f (y ∷ es) e one g k less some = settle_if (is_live (f y)) (y.key == key) (f y) y es (table_after_change key f es)
      (λ t. let same : y ≡ e = one y (inl refl) (eqb-true y.key key t) in subst (λ x. is_live (f x) ≡ true → suc (W (f x)) ≤ W x) (sym same) less)
      (λ t. let same : y ≡ e = one y (inl refl) (eqb-true y.key key t) in subst (λ x. 1 ≤ W x) (sym same) some)
      (λ t. settle_less key f es e (λ x h. one x (inr h)) (later t g) k less some)
    where
      later : (y.key == key) ≡ false → Has e (y ∷ es) → Has e es
      later t (inl q) = absurd (let w : true ≡ false = sym (eq-eqb y.key key (ap (λ (x : Entry). x.key) (sym q) ∙ k)) ∙ t in cc)
      later t (inr h) = h

  -- once the next deadline fires
  pub fires_less : (h : List TransactionOp) (now : ℕ) (n : DueEntryView) → next_due now (live h) ≡ Some n →
      (is_live (after_timer (step_of h) n.entry) ≡ true → suc (W (after_timer (step_of h) n.entry)) ≤ W n.entry) → 1 ≤ W n.entry → suc (sum_by W (live (DidFire n.entry.key ∷ h))) ≤ sum_by W (live h)
  fires_less h now n q less some =
      let w = is_next now (live h) n q in
      let s = settle_less n.entry.key (after_timer (step_of h)) (live h) n.entry (λ x g k. same_entry h x n.entry g w.stands k) w.stands refl less some in
      subst (λ es. suc (sum_by W es) ≤ sum_by W (live h)) (sym (live_hit (DidFire n.entry.key) h n.entry.key (after_timer (step_of h)) (λ y. refl) refl))
      (omega (arith, s, is_total W (live h), is_total W (table_after_change n.entry.key (after_timer (step_of h)) (live h))))

pub firings_use_up : FiringsUseUp
firings_use_up h now n q = let w = is_next now (live h) n q in fires_less time_remaining h now n q (fired_less (step_of h) n.at n.entry w.moment) (fires_some n.at n.entry w.moment)

-- ---- they end

stays_none : (fuel now : ℕ) (h : List TransactionOp) → next_due now (live h) ≡ None → after_firings fuel now h ≡ h
unfolding after_firings
stays_none zero now h q = refl
stays_none (suc fuel) now h q = ap (λ o. after_firings fuel now (after_firing h o)) q ∙ stays_none fuel now h q

end_if : (now fuel : ℕ) (h : List TransactionOp) (o : Option DueEntryView) → next_due now (live h) ≡ o → total_remaining (live h) ≤ suc fuel →
    ((g : List TransactionOp) → total_remaining (live g) ≤ fuel → next_due now (live (after_firings fuel now g)) ≡ None) → next_due now (live (after_firings fuel now (after_firing h o))) ≡ None
end_if now fuel h None q l ih = ap (λ g. next_due now (live g)) (stays_none fuel now h q) ∙ q
end_if now fuel h (Some n) q l ih = ih (DidFire n.entry.key ∷ h) (omega (arith, l, firings_use_up h now n q))

none_if : (now : ℕ) (h : List TransactionOp) (o : Option DueEntryView) → next_due now (live h) ≡ o → total_remaining (live h) ≤ 0 → o ≡ None
none_if now h None q l = refl
none_if now h (Some n) q l = absurd (omega (arith, l, firings_use_up h now n q))

pub firings_end : FiringsEnd
unfolding after_firings
firings_end h now zero l = none_if now h (next_due now (live h)) refl l
firings_end h now (suc fuel) l = end_if now fuel h (next_due now (live h)) refl l (λ g. firings_end g now fuel)

pub more_changes_nothing : MoreChangesNothing
unfolding after_firings
more_changes_nothing h now zero more q = ap (λ n. after_firings n now h) (let a : 0 + more ≡ more = omega arith in a) ∙ stays_none more now h q
more_changes_nothing h now (suc fuel) more q =
    ap (λ n. after_firings n now h) (let a : suc fuel + more ≡ suc (fuel + more) = omega arith in a) ∙ more_changes_nothing (after_firing h (next_due now (live h))) now fuel more q

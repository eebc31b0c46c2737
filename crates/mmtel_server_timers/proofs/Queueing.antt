-- The timers as they are stored: the foremost one is the one that is chosen, one that is armed comes after the others, and one that is removed leaves the order of the others unchanged.
use Rattle.std.proofs.Common.{◌≡◌, ℕ, ◌+◌, ◌≤◌, ◌<◌, ◌⊎◌, inl, inr, Bool, true, false, cond, not, List, [], ◌∷◌, ◌++◌, append-nil, map, Option, Some, None, refl, sym, ap, ◌∙◌, subst, arith}
use Rattle.std.specs.Prelude.{◌==◌, nat_le}
use Rattle.std.specs.BTreeMap.{insert_entry, is_at}
use Rattle.std.specs.List.{AllByRecursion, filter}
use Rattle.std.specs.Map.{lookup, remove_entry, values_of}
use Rattle.std.specs.Option.{option_map}
use Rattle.std.specs.Ordering.{match_ordering, nat_cmp}
use Rattle.std.specs.declared.cmp.Ordering.{Ordering}
use Rattle.std.specs.declared.cmp.Ordering.TheVariants.{Greater}
use Rattle.std.proofs.lemmas.Bool.Decides.{nat_tests}
use Rattle.std.proofs.lemmas.Cmp.{ranked}
use Rattle.std.proofs.lemmas.List.{map-append}
use Rattle.std.proofs.lemmas.List.Elements.{filter-append}
use Rattle.std.proofs.lemmas.Option.{none-some, same_Some}
use Rattle.mmtel_timers.specs.Deadlines.{Deadline, after_arming, soonest, without}
use Rattle.mmtel_run_definitions.specs.Deadlines as run
use Rattle.mmtel_run_definitions.specs.Deadlines.{first_due_timer, first_timer, first_timer_if, is_sooner, rank}
use Rattle.mmtel_server_timers.specs.PendingTimers.{first_in, pending_in, queue_of, timer_in}
use Rattle.mmtel_server_timers.specs.Queue.{AreInOrder, NumberedTimer, TimersInvariant, deadline_of, due_by, earlier_of, earliest_timer, in_rank, in_ranks, key_of, of_rank, pending_of, rank_of, soonest_in, timer_at}
use Rattle.mmtel_server_timers.specs.declared.pending_timers.PendingTimer.{PendingTimer}
use Rattle.mmtel_server_timers.specs.declared.ranks.Ranks.{Ranks}
use Rattle.mmtel_server_timers.proofs.Leading.{Beats, Leads, Led, OfRank, all_weaken, both_led, found_number, is_number, other_number, own_number, rank_led, same_number}
use Rattle.mmtel_server_timers.proofs.Ranking.{Ranked, rank_is}
use Rattle.mmtel_server_timers.proofs.Sooner.{behind_one, in_front, is_late, none_due, not_earlier}

abbrev pub runs : List NumberedTimer → List run.PendingTimer
runs es = queue_of (values_of es)

-- ---- the one that precedes all is chosen

abbrev without_number : ℕ → List NumberedTimer → List NumberedTimer
without_number n = remove_entry (is_number n)

all_runs : (P : run.PendingTimer → Type 0) (es : List NumberedTimer) → AllByRecursion (λ e. P (pending_of e)) es → AllByRecursion P (runs es)
all_runs P [] all = tt
all_runs P (e ∷ es) all = (all.0, all_runs P es all.1)

module _ (now : ℕ) (q : NumberedTimer) where
  chosen_leads : (es : List NumberedTimer) → q.1.at ≤ now → lookup (is_number q.0) es ≡ Some q.1 → AllByRecursion (Beats q) es → AreInOrder es
      → first_due_timer now (runs es) ≡ Some (first_timer (pending_of q) (runs (without_number q.0 es)))
  chosen_leads [] due there beats follow = absurd (none-some q.1 there)
  chosen_leads (x ∷ xs) due there beats follow = by_test (is_number q.0 x.0) refl there (λ t. chosen_leads xs due t beats.1 follow.1)
    where
      by_test : (b : Bool) → is_number q.0 x.0 ≡ b → cond b (Some x.1) (lookup (is_number q.0) xs) ≡ Some q.1
          → (lookup (is_number q.0) xs ≡ Some q.1 → first_due_timer now (runs xs) ≡ Some (first_timer (pending_of q) (runs (without_number q.0 xs))))
          → first_due_timer now (pending_of x ∷ runs xs) ≡ Some (first_timer (pending_of q) (runs (cond b xs (x ∷ without_number q.0 xs))))
      by_test true e t later =
          let same : pending_of x ≡ pending_of q = ap pending_in (same_Some x.1 q.1 t) in
          ap (λ (a : run.PendingTimer). first_due_timer now (a ∷ runs xs)) same
          ∙ in_front now (pending_of q) due (runs xs)
          (all_runs (λ (a : run.PendingTimer). is_sooner a (pending_of q) ≡ false) xs (all_weaken (Beats q) (λ e. is_sooner (pending_of e) (pending_of q) ≡ false) (λ e b. b.0) xs beats.1))
      by_test false e t later =
          let numbers : AllByRecursion (λ e. x.0 < e.0) xs = all_weaken (λ e. (x.0 < e.0) × (x.1.step ≤ e.1.step)) (λ e. x.0 < e.0) (λ e l. l.0) xs follow.0 in
          let l : x.0 < q.0 = found_number x.0 q.0 q.1 xs t numbers in
          ap (first_timer_if (nat_le x.1.at now) (pending_of x) (runs xs)) (later t)
          ∙ behind_one (nat_le x.1.at now) (pending_of q) (pending_of x) (runs xs) (runs (without_number q.0 xs)) (beats.0.1 l)

  late_leads : (es : List NumberedTimer) → now < q.1.at → AllByRecursion (Beats q) es → first_due_timer now (runs es) ≡ None
  late_leads es late beats =
      none_due now (runs es) (all_runs (λ (a : run.PendingTimer). now < a.at) es (all_weaken (Beats q) (λ e. now < e.1.at) (λ e b.
      let l : q.1.at ≤ e.1.at = not_earlier (pending_of q) (pending_of e) (is_late (pending_of q) (pending_of e) b.0) in omega (arith, late, l)) es beats))

-- ---- the foremost one precedes all

module _ (next step : ℕ) (ranks : Ranks) (es : List NumberedTimer) (are : TimersInvariant next step ranks es) where
  abbrev UpTo1 : NumberedTimer → Type 0
  UpTo1 e = OfRank 0 e ⊎ OfRank 1 e

  abbrev UpTo2 : NumberedTimer → Type 0
  UpTo2 e = UpTo1 e ⊎ OfRank 2 e

  abbrev UpTo3 : NumberedTimer → Type 0
  UpTo3 e = UpTo2 e ⊎ OfRank 3 e

  abbrev AnyRank : NumberedTimer → Type 0
  AnyRank e = UpTo3 e ⊎ OfRank 4 e

  below_2 : (e : NumberedTimer) → UpTo1 e → rank_of e < 2
  below_2 e (inl z) = omega (arith, z)
  below_2 e (inr o) = omega (arith, o)

  below_3 : (e : NumberedTimer) → UpTo2 e → rank_of e < 3
  below_3 e (inl p) = let l : rank_of e < 2 = below_2 e p in omega (arith, l)
  below_3 e (inr t) = omega (arith, t)

  below_4 : (e : NumberedTimer) → UpTo3 e → rank_of e < 4
  below_4 e (inl p) = let l : rank_of e < 3 = below_3 e p in omega (arith, l)
  below_4 e (inr h) = omega (arith, h)

  by_its_rank : (e : NumberedTimer) → Ranked (timer_in e.1.timer) → AnyRank e
  by_its_rank e (inl z) = inl (inl (inl (inl z)))
  by_its_rank e (inr (inl o)) = inl (inl (inl (inr o)))
  by_its_rank e (inr (inr (inl t))) = inl (inl (inr t))
  by_its_rank e (inr (inr (inr (inl h)))) = inl (inr h)
  by_its_rank e (inr (inr (inr (inr f)))) = inr f

  any_rank : (e : NumberedTimer) → AnyRank e
  any_rank e = by_its_rank e (rank_is (timer_in e.1.timer))

  abbrev ranks_of : (no_replies no_pracks caps no_acks expiries : List Deadline) → Ranks
  ranks_of no_replies no_pracks caps no_acks expiries = record { no_replies = no_replies; no_pracks = no_pracks; caps = caps; no_acks = no_acks; expiries = expiries }

  abbrev first : ℕ → Option NumberedTimer
  first r = soonest_in (of_rank r es) es

  foremost_led : Led AnyRank (earliest_timer ranks es) es
  foremost_led =
      subst (λ (r : Ranks). Led AnyRank (earliest_timer r es) es) ranks_are (
      both_led UpTo3 (OfRank 4) (λ a b p q s. let l : rank_of a < 4 = below_4 a p in absurd (omega (arith, l, q, s))) es (earlier_of (earlier_of (earlier_of (first 0) (first 1)) (first 2)) (first 3)) (first 4)
      (both_led UpTo2 (OfRank 3) (λ a b p q s. let l : rank_of a < 3 = below_3 a p in absurd (omega (arith, l, q, s))) es (earlier_of (earlier_of (first 0) (first 1)) (first 2)) (first 3)
      (both_led UpTo1 (OfRank 2) (λ a b p q s. let l : rank_of a < 2 = below_2 a p in absurd (omega (arith, l, q, s))) es (earlier_of (first 0) (first 1)) (first 2)
      (both_led (OfRank 0) (OfRank 1) (λ a b p q s. absurd (omega (arith, p, q, s))) es (first 0) (first 1)
      (rank_led 0 es are.in_order) (rank_led 1 es are.in_order))
      (rank_led 2 es are.in_order))
      (rank_led 3 es are.in_order))
      (rank_led 4 es are.in_order))
    where
      ranks_are : ranks_of (of_rank 0 es) (of_rank 1 es) (of_rank 2 es) (of_rank 3 es) (of_rank 4 es) ≡ ranks
      ranks_are = λ i. ranks_of (sym are.no_replies i) (sym are.no_pracks i) (sym are.caps i) (sym are.no_acks i) (sym are.expiries i)

  beats_all : (q : NumberedTimer) → Leads AnyRank q es → AllByRecursion (Beats q) es
  beats_all q leads = all_weaken (λ e. AnyRank e → Beats q e) (Beats q) (λ e b. b (any_rank e)) es leads.beats

  none_kept : (xs : List NumberedTimer) → AllByRecursion (λ e. AnyRank e → ⊥) xs → xs ≡ []
  none_kept [] all = refl
  none_kept (x ∷ xs) all = absurd (all.0 (any_rank x))

  -- the statement about the one that is due
  abbrev Says : ℕ → Option NumberedTimer → Type 0
  Says now None = first_due_timer now (runs es) ≡ None
  Says now (Some q) = (first_due_timer now (runs es) ≡ Some (first_timer (pending_of q) (runs (without_number q.0 es)))) × (lookup (is_number q.0) es ≡ Some q.1)

  pub says : (now : ℕ) → Says now (due_by now (earliest_timer ranks es))
  says now = by_cases (earliest_timer ranks es) foremost_led
    where
      by_due : (q : NumberedTimer) (b : Bool) → nat_le q.1.at now ≡ b → Leads AnyRank q es → Says now (cond b (Some q) None)
      by_due q true e leads = (chosen_leads now q es (grind (arith, nat_tests)) leads.there (beats_all q leads) are.in_order, leads.there)
      by_due q false e leads = late_leads now q es (grind (arith, nat_tests)) (beats_all q leads)

      by_cases : (o : Option NumberedTimer) → Led AnyRank o es → Says now (due_by now o)
      by_cases None none = ap (λ (l : List NumberedTimer). first_due_timer now (runs l)) (none_kept es none)
      by_cases (Some q) leads = by_due q (nat_le q.1.at now) refl leads

  pub first_found : (now : ℕ) → option_map (λ q. pending_of q) (due_by now (earliest_timer ranks es)) ≡ first_in (first_due_timer now (runs es))
  first_found now = by_cases (due_by now (earliest_timer ranks es)) (says now)
    where
      by_cases : (o : Option NumberedTimer) → Says now o → option_map (λ q. pending_of q) o ≡ first_in (first_due_timer now (runs es))
      by_cases None none = sym (ap first_in none)
      by_cases (Some q) says = sym (ap first_in says.0)

  pub none_found : (now : ℕ) → None ≡ due_by now (earliest_timer ranks es) → None ≡ first_due_timer now (runs es)
  none_found now e = sym (subst (Says now) (sym e) (says now))

  pub taken_out : (now : ℕ) (q : NumberedTimer) → Some q ≡ due_by now (earliest_timer ranks es) → Some (first_timer (pending_of q) (runs (without_number q.0 es))) ≡ first_due_timer now (runs es)
  taken_out now q e = let said : Says now (Some q) = subst (Says now) (sym e) (says now) in sym said.0

-- ---- those of a rank once one is armed or removed

all_last : {X : Type 0} (P : X → Type 0) (xs : List X) (x : X) → AllByRecursion P xs → P x → AllByRecursion P (xs ++ x ∷ [])
all_last P [] x all one = (one, tt)
all_last P (y ∷ ys) x all one = (all.0, all_last P ys x all.1 one)

all_out : (P : NumberedTimer → Type 0) (n : ℕ) (es : List NumberedTimer) → AllByRecursion P es → AllByRecursion P (without_number n es)
all_out P n [] all = tt
all_out P n (x ∷ xs) all = by_test (is_number n x.0) (all_out P n xs all.1)
  where
    by_test : (b : Bool) → AllByRecursion P (without_number n xs) → AllByRecursion P (cond b xs (x ∷ without_number n xs))
    by_test true later = all.1
    by_test false later = (all.0, later)

module _ (r n : ℕ) where
  -- no number of these
  none_of : (es : List NumberedTimer) → AllByRecursion (λ e. e.0 ≡ n → ⊥) es → without (key_of n) (of_rank r es) ≡ of_rank r es
  none_of [] all = refl
  none_of (x ∷ xs) all = by_test (rank_of x == r) (none_of xs all.1)
    where
      other : (x.0 == n) ≡ false
      other = not_of (x.0 == n) refl
        where
          not_of : (b : Bool) → (x.0 == n) ≡ b → b ≡ false
          not_of false e = refl
          not_of true e = absurd (all.0 (grind (arith, nat_tests)))

      by_test : (b : Bool) → without (key_of n) (of_rank r xs) ≡ of_rank r xs
          → without (key_of n) (map (λ e. deadline_of e) (cond b (x ∷ filter (λ e. rank_of e == r) xs) (filter (λ e. rank_of e == r) xs)))
          ≡ map (λ e. deadline_of e) (cond b (x ∷ filter (λ e. rank_of e == r) xs) (filter (λ e. rank_of e == r) xs))
      by_test true later =
          ap (λ (t : Bool). cond (not t) (deadline_of x ∷ without (key_of n) (of_rank r xs)) (without (key_of n) (of_rank r xs))) other ∙ ap (λ (l : List Deadline). deadline_of x ∷ l) later
      by_test false later = later

  of_rank_out : (es : List NumberedTimer) → AreInOrder es → of_rank r (without_number n es) ≡ without (key_of n) (of_rank r es)
  of_rank_out [] follow = refl
  of_rank_out (x ∷ xs) follow = by_tests (is_number n x.0) (rank_of x == r) refl refl (of_rank_out xs follow.1)
    where
      left : List NumberedTimer
      left = without_number n xs

      of_xs : List Deadline
      of_xs = without (key_of n) (of_rank r xs)

      none : n ≡ x.0 → of_xs ≡ of_rank r xs
      none e = none_of xs (all_weaken (λ y. (x.0 < y.0) × (x.1.step ≤ y.1.step)) (λ y. y.0 ≡ n → ⊥) (λ y l s. let h = l.0 in omega (arith, e, h, s)) xs follow.0)

      here : (c : Bool) → (rank_of x == r) ≡ c → of_rank r (x ∷ left) ≡ map (λ e. deadline_of e) (cond c (x ∷ filter (λ e. rank_of e == r) left) (filter (λ e. rank_of e == r) left))
      here c f = ap (λ (t : Bool). map (λ e. deadline_of e) (cond t (x ∷ filter (λ e. rank_of e == r) left) (filter (λ e. rank_of e == r) left))) f

      tested : (t : Bool) → (x.0 == n) ≡ t → without (key_of n) (deadline_of x ∷ of_rank r xs) ≡ cond (not t) (deadline_of x ∷ of_xs) of_xs
      tested t g = ap (λ (t : Bool). cond (not t) (deadline_of x ∷ of_xs) of_xs) g

      by_tests : (b c : Bool) → is_number n x.0 ≡ b → (rank_of x == r) ≡ c → of_rank r left ≡ of_xs
          → of_rank r (cond b xs (x ∷ left)) ≡ without (key_of n) (map (λ e. deadline_of e) (cond c (x ∷ filter (λ e. rank_of e == r) xs) (filter (λ e. rank_of e == r) xs)))
      by_tests true true e f later =
          let s : n ≡ x.0 = same_number n x.0 e in
          let t : (x.0 == n) ≡ true = grind (arith, nat_tests, s) in
          sym (tested true t ∙ none s)
      by_tests true false e f later = sym (none (same_number n x.0 e))
      by_tests false true e f later = here true f ∙ (ap (λ (l : List Deadline). deadline_of x ∷ l) later ∙ sym (tested false (not_of (x.0 == n) refl)))
        where
          not_of : (b : Bool) → (x.0 == n) ≡ b → b ≡ false
          not_of false g = refl
          not_of true g =
              let s : n ≡ x.0 = grind (arith, nat_tests, g) in
              absurd (let t : true ≡ false = sym (subst (λ (m : ℕ). is_number n m ≡ true) s (own_number n)) ∙ e in cc)
      by_tests false false e f later = here false f ∙ later

  of_rank_more : (es : List NumberedTimer) (x : NumberedTimer) → of_rank r (es ++ x ∷ []) ≡ of_rank r es ++ cond (rank_of x == r) (deadline_of x ∷ []) []
  of_rank_more es x =
      ap (map (λ e. deadline_of e)) (filter-append (λ e. rank_of e == r) es (x ∷ []))
      ∙ (map-append (λ e. deadline_of e) (filter (λ e. rank_of e == r) es) (cond (rank_of x == r) (x ∷ []) [])
      ∙ ap (λ (l : List Deadline). of_rank r es ++ l) (by_test (rank_of x == r)))
    where
      by_test : (b : Bool) → map (λ e. deadline_of e) (cond b (x ∷ []) []) ≡ cond b (deadline_of x ∷ []) []
      by_test true = refl
      by_test false = refl

-- ---- one is removed

follow_out : (n : ℕ) (es : List NumberedTimer) → AreInOrder es → AreInOrder (without_number n es)
follow_out n [] follow = tt
follow_out n (x ∷ xs) follow = by_test (is_number n x.0) (follow_out n xs follow.1)
  where
    by_test : (b : Bool) → AreInOrder (without_number n xs) → AreInOrder (cond b xs (x ∷ without_number n xs))
    by_test true later = follow.1
    by_test false later = (all_out (λ y. (x.0 < y.0) × (x.1.step ≤ y.1.step)) n xs follow.0, later)

pub kept_out : (next step : ℕ) (ranks : Ranks) (es : List NumberedTimer) (n : ℕ) → TimersInvariant next step ranks es →
    TimersInvariant next step (in_ranks (without (key_of n)) ranks) (remove_entry (is_at (nat_cmp n)) es)
kept_out next step ranks es n are = record {
  in_order = follow_out n es are.in_order;
  below_next = all_out (λ e. (e.0 < next) × (e.1.step ≤ step)) n es are.below_next;
  no_replies = ap (without (key_of n)) are.no_replies ∙ sym (of_rank_out 0 n es are.in_order);
  no_pracks = ap (without (key_of n)) are.no_pracks ∙ sym (of_rank_out 1 n es are.in_order);
  caps = ap (without (key_of n)) are.caps ∙ sym (of_rank_out 2 n es are.in_order);
  no_acks = ap (without (key_of n)) are.no_acks ∙ sym (of_rank_out 3 n es are.in_order);
  expiries = ap (without (key_of n)) are.expiries ∙ sym (of_rank_out 4 n es are.in_order);
}

-- ---- one more is armed

one_more : (n : ℕ) (a : PendingTimer) (es : List NumberedTimer) → AllByRecursion (λ e. e.0 < n) es → insert_entry nat_cmp es n a ≡ es ++ (n, a) ∷ []
one_more n a [] all = refl
one_more n a (x ∷ xs) all =
    let l : x.0 < n = all.0 in
    let greater : nat_cmp n x.0 ≡ Greater = grind (arith, nat_tests, l) in
    ap (λ (o : Ordering). match_ordering o ((n, a) ∷ x ∷ xs) ((x.0, a) ∷ xs) (x ∷ insert_entry nat_cmp xs n a)) greater ∙ ap (λ (l : List NumberedTimer). x ∷ l) (one_more n a xs all.1)

last_out : (n : ℕ) (a : PendingTimer) (es : List NumberedTimer) → AllByRecursion (λ e. e.0 < n) es → without_number n (es ++ (n, a) ∷ []) ≡ es
last_out n a [] all = ap (λ (b : Bool). cond b [] ((n, a) ∷ [])) (own_number n)
last_out n a (x ∷ xs) all =
    let l : x.0 < n = all.0 in
    ap (λ (b : Bool). cond b (xs ++ (n, a) ∷ []) (x ∷ without_number n (xs ++ (n, a) ∷ []))) (other_number n x.0 (λ e. omega (arith, e, l))) ∙ ap (λ (l : List NumberedTimer). x ∷ l) (last_out n a xs all.1)

follow_last : (x : NumberedTimer) (es : List NumberedTimer) → AreInOrder es → AllByRecursion (λ e. (e.0 < x.0) × (e.1.step ≤ x.1.step)) es → AreInOrder (es ++ x ∷ [])
follow_last x [] follow all = (tt, tt)
follow_last x (y ∷ ys) follow all = (all_last (λ z. (y.0 < z.0) × (y.1.step ≤ z.1.step)) ys x follow.0 all.0, follow_last x ys follow.1 all.1)

module _ (next step : ℕ) (ranks : Ranks) (es : List NumberedTimer) (are : TimersInvariant next step ranks es) (a : PendingTimer) where
  abbrev new : NumberedTimer
  new = (next, a)

  numbers : AllByRecursion (λ e. e.0 < next) es
  numbers = all_weaken (λ e. (e.0 < next) × (e.1.step ≤ step)) (λ e. e.0 < next) (λ e l. l.0) es are.below_next

  pub put_back : remove_entry (is_at (nat_cmp next)) (insert_entry nat_cmp es next a) ≡ es
  put_back = ap (without_number next) (one_more next a es numbers) ∙ last_out next a es numbers

  pub seen_more : values_of (insert_entry nat_cmp es next a) ≡ values_of es ++ a ∷ []
  seen_more = ap values_of (one_more next a es numbers) ∙ map-append (λ e. e.1) es (new ∷ [])

  -- those of its rank have it after them, and those of other ranks are unchanged
  ranked_more : (k r : ℕ) (l : List Deadline) → k ≡ rank_of new → l ≡ of_rank r es → cond (k == r) (after_arming a.at (key_of next) l) l ≡ of_rank r (es ++ new ∷ [])
  ranked_more k r l is e =
      ap (λ (l : List Deadline). cond (k == r) (after_arming a.at (key_of next) l) l) e
      ∙ (by_test (k == r) refl
      ∙ sym (of_rank_more r next es new))
    where
      others : without (key_of next) (of_rank r es) ≡ of_rank r es
      others = none_of r next es (all_weaken (λ e. e.0 < next) (λ e. e.0 ≡ next → ⊥) (λ e l s. omega (arith, l, s)) es numbers)

      by_test : (b : Bool) → (k == r) ≡ b → cond b (after_arming a.at (key_of next) (of_rank r es)) (of_rank r es) ≡ of_rank r es ++ cond (rank_of new == r) (deadline_of new ∷ []) []
      by_test true t =
          ap (λ (l : List Deadline). l ++ (a.at, key_of next) ∷ []) others
          ∙ ap (λ (c : Bool). of_rank r es ++ cond c (deadline_of new ∷ []) []) (sym (subst (λ (m : ℕ). (m == r) ≡ true) is t))
      by_test false t =
          sym (append-nil (of_rank r es))
          ∙ ap (λ (c : Bool). of_rank r es ++ cond c (deadline_of new ∷ []) []) (sym (subst (λ (m : ℕ). (m == r) ≡ false) is t))

  pub kept_more : (k : ℕ) → k ≡ rank (timer_in a.timer) → step ≤ a.step → TimersInvariant (next + 1) a.step (in_rank k (after_arming a.at (key_of next)) ranks) (insert_entry nat_cmp es next a)
  kept_more k is later = subst (λ (l : List NumberedTimer). TimersInvariant (next + 1) a.step (in_rank k (after_arming a.at (key_of next)) ranks) l) (sym (one_more next a es numbers))
      (by_rank (rank_is (timer_in a.timer)))
    where
      in_order : AreInOrder (es ++ new ∷ [])
      in_order = follow_last new es are.in_order (all_weaken (λ e. (e.0 < next) × (e.1.step ≤ step)) (λ e. (e.0 < next) × (e.1.step ≤ a.step)) (λ e l. (l.0, let h = l.1 in omega (arith, h, later))) es are.below_next)

      before : AllByRecursion (λ e. (e.0 < next + 1) × (e.1.step ≤ a.step)) (es ++ new ∷ [])
      before = all_last (λ e. (e.0 < next + 1) × (e.1.step ≤ a.step)) es new
          (all_weaken (λ e. (e.0 < next) × (e.1.step ≤ step)) (λ e. (e.0 < next + 1) × (e.1.step ≤ a.step)) (λ e l. (let h = l.0 in omega (arith, h), let h = l.1 in omega (arith, h, later))) es are.below_next)
          (omega arith, omega arith)

      at_rank : (n : ℕ) → n ≡ rank_of new → in_rank n (after_arming a.at (key_of next)) ranks ≡ record {
        no_replies = cond (n == 0) (after_arming a.at (key_of next) ranks.no_replies) ranks.no_replies;
        no_pracks = cond (n == 1) (after_arming a.at (key_of next) ranks.no_pracks) ranks.no_pracks;
        caps = cond (n == 2) (after_arming a.at (key_of next) ranks.caps) ranks.caps;
        no_acks = cond (n == 3) (after_arming a.at (key_of next) ranks.no_acks) ranks.no_acks;
        expiries = cond (n == 4) (after_arming a.at (key_of next) ranks.expiries) ranks.expiries;
      } → TimersInvariant (next + 1) a.step (in_rank n (after_arming a.at (key_of next)) ranks) (es ++ new ∷ [])
      at_rank n e parts = subst (λ (r : Ranks). TimersInvariant (next + 1) a.step r (es ++ new ∷ [])) (sym parts) (record {
        in_order = in_order;
        below_next = before;
        no_replies = ranked_more n 0 ranks.no_replies e are.no_replies;
        no_pracks = ranked_more n 1 ranks.no_pracks e are.no_pracks;
        caps = ranked_more n 2 ranks.caps e are.caps;
        no_acks = ranked_more n 3 ranks.no_acks e are.no_acks;
        expiries = ranked_more n 4 ranks.expiries e are.expiries;
      })

      of_its : (n : ℕ) → rank (timer_in a.timer) ≡ n → TimersInvariant (next + 1) a.step (in_rank n (after_arming a.at (key_of next)) ranks) (es ++ new ∷ [])
          → TimersInvariant (next + 1) a.step (in_rank k (after_arming a.at (key_of next)) ranks) (es ++ new ∷ [])
      of_its n e = subst (λ (n : ℕ). TimersInvariant (next + 1) a.step (in_rank n (after_arming a.at (key_of next)) ranks) (es ++ new ∷ [])) (sym (is ∙ e))

      by_rank : Ranked (timer_in a.timer) → TimersInvariant (next + 1) a.step (in_rank k (after_arming a.at (key_of next)) ranks) (es ++ new ∷ [])
      by_rank (inl z) = of_its 0 z (at_rank 0 (sym z) refl)
      by_rank (inr (inl o)) = of_its 1 o (at_rank 1 (sym o) refl)
      by_rank (inr (inr (inl t))) = of_its 2 t (at_rank 2 (sym t) refl)
      by_rank (inr (inr (inr (inl h)))) = of_its 3 h (at_rank 3 (sym h) refl)
      by_rank (inr (inr (inr (inr f)))) = of_its 4 f (at_rank 4 (sym f) refl)

-- Deadlines as they are stored, after a key is armed and after it is disarmed.
use Rattle.std.proofs.Common.{◌≡◌, ℕ, ◌+◌, ◌<◌, ◌==◌, Bool, true, false, cond, not, List, [], ◌∷◌, ◌++◌, map, Option, Some, None, refl, sym, ap, ◌∙◌, subst, arith}
use Rattle.std.specs.BTreeMap.{insert_entry, is_at}
use Rattle.std.specs.List.{AllByRecursion, filter, list_any}
use Rattle.std.specs.List.Sorted.{IsStrictlySortedBy}
use Rattle.std.specs.Map.{keys_of, remove_entry}
use Rattle.std.specs.Ordering.{is_eq, nat_cmp}
use Rattle.std.specs.declared.cmp.Ordering.TheVariants.{Equal}
use Rattle.std.proofs.lemmas.Bool.Decides.{nat_tests}
use Rattle.std.proofs.lemmas.Bool.{or_parts}
use Rattle.std.proofs.lemmas.Cmp.{ranked}
use Rattle.std.proofs.lemmas.List.{map-append}
use Rattle.std.proofs.lemmas.List.Elements.{filter-append}
use Rattle.std.proofs.lemmas.Option.{same_Some}
use Rattle.mmtel_timers.specs.Deadlines.{after_arming, Deadline, is_of, IsEachOnce, without}
use Rattle.mmtel_timers.specs.Queues.{IsQueueState, Queued, by_arming, deadline_of, is_same, number_of, queue_view, queue_without, queue_position_at, queue_position_cmp, queue_position_of, ArePositionsBut}
use Rattle.mmtel_timers.specs.Shelves.{Rises}
use Rattle.mmtel_timers.specs.declared.deadlines.Key.{Key}
use Rattle.mmtel_timers.specs.declared.queues.QueuePosition.{QueuePosition}
use Rattle.mmtel_timers.proofs.Arranged.{all_by_arming, all_filter, all_more, all_weaken, by_arming_filter, one_more, rises_filter, rises_last}
use Rattle.mmtel_timers.proofs.Keys.{once-armed_last, once-filter}
use Rattle.mmtel_timers.proofs.Removal.{filter-none}
use Rattle.mmtel_timers.proofs.QueuePositions.{equal_tested, is_own, is_position, other_number, removed}

-- ---- the keys

same_is : (key other : Key) → is_same key other ≡ true → key.0 ≡ other.0
same_is key other e = ranked key.0 other.0 Equal (sym (equal_tested (nat_cmp key.0 other.0) e))

other_is : (key other : Key) → is_same key other ≡ false → key.0 ≡ other.0 → ⊥
other_is key other e same =
    let own : nat_cmp key.0 key.0 ≡ Equal = grind (arith, nat_tests) in
    let f : is_eq (nat_cmp key.0 other.0) ≡ true = ap (λ n. is_eq (nat_cmp key.0 n)) (sym same) ∙ ap is_eq own in
    let g : true ≡ false = sym f ∙ e in
    cc

-- ---- the deadlines of the other keys

abbrev pub others : Key → List Queued → List Queued
others key = filter (λ q. not (is_of key (deadline_of q)))

seen_others : (key : Key) (qs : List Queued) → map (λ q. deadline_of q) (others key qs) ≡ without key (map (λ q. deadline_of q) qs)
seen_others key [] = refl
seen_others key (q ∷ qs) = by_test (is_of key (deadline_of q)) (seen_others key qs)
  where
    by_test : (b : Bool) → map (λ q. deadline_of q) (others key qs) ≡ without key (map (λ q. deadline_of q) qs)
        → map (λ q. deadline_of q) (cond (not b) (q ∷ others key qs) (others key qs)) ≡ cond (not b) (deadline_of q ∷ without key (map (λ q. deadline_of q) qs)) (without key (map (λ q. deadline_of q) qs))
    by_test true later = later
    by_test false later = ap (λ (l : List Deadline). deadline_of q ∷ l) later

none_armed : (key : Key) (qs : List Queued) → queue_position_of key qs ≡ None → others key qs ≡ qs
none_armed key [] e = refl
none_armed key (q ∷ qs) e = by_test (is_of key (deadline_of q)) (none_armed key qs) e
  where
    by_test : (b : Bool) → (queue_position_of key qs ≡ None → others key qs ≡ qs) → cond b (Some q.0) (queue_position_of key qs) ≡ None → cond (not b) (q ∷ others key qs) (others key qs) ≡ q ∷ qs
    by_test true later f = absurd cc
    by_test false later f = ap (λ (l : List Queued). q ∷ l) (later f)

none_among : (key : Key) (qs : List Queued) → list_any (is_of key) (map (λ q. deadline_of q) qs) ≡ false → others key qs ≡ qs
none_among key [] e = refl
none_among key (q ∷ qs) e =
    let n = or_parts (is_of key (deadline_of q)) (list_any (is_of key) (map (λ q. deadline_of q) qs)) e in
    ap (λ (b : Bool). cond (not b) (q ∷ others key qs) (others key qs)) n.0 ∙ ap (λ (l : List Queued). q ∷ l) (none_among key qs n.1)

none_of_position : (turn : QueuePosition) (qs : List Queued) → AllByRecursion (λ x. turn.number < number_of x) qs → list_any (is_position turn) qs ≡ false
none_of_position turn [] all = refl
none_of_position turn (x ∷ xs) all =
    let l : turn.number < x.0.number = all.0 in
    rw (other_number turn x (λ e. let h : turn.number ≡ x.0.number = e in omega (arith, h, l))) (none_of_position turn xs all.1)

-- what holds for the numbers of all holds for the number that was found
found_number : (P : ℕ → Type 0) (key : Key) (turn : QueuePosition) (qs : List Queued) → queue_position_of key qs ≡ Some turn → AllByRecursion (λ x. P (number_of x)) qs → P turn.number
found_number P key turn [] f all = absurd cc
found_number P key turn (q ∷ qs) f all = by_test (is_of key (deadline_of q)) (λ g. found_number P key turn qs g all.1) f
  where
    by_test : (b : Bool) → (queue_position_of key qs ≡ Some turn → P turn.number) → cond b (Some q.0) (queue_position_of key qs) ≡ Some turn → P turn.number
    by_test true later g = subst (λ (t : QueuePosition). P t.number) (same_Some q.0 turn g) all.0
    by_test false later g = later g

-- removing the deadlines of the key's turn removes those of the key
left_out : (key : Key) (turn : QueuePosition) (qs : List Queued) → queue_position_of key qs ≡ Some turn → Rises (λ q. number_of q) qs → IsEachOnce (map (λ q. deadline_of q) qs) →
    filter (λ q. not (is_position turn q)) qs ≡ others key qs
left_out key turn [] f rises once = refl
left_out key turn (q ∷ qs) f rises once = by_test (is_of key (deadline_of q)) refl (λ g. left_out key turn qs g rises.1 once.1) f
  where
    by_test : (b : Bool) → is_of key (deadline_of q) ≡ b → (queue_position_of key qs ≡ Some turn → filter (λ q. not (is_position turn q)) qs ≡ others key qs) → cond b (Some q.0) (queue_position_of key qs) ≡ Some turn
        → cond (not (is_position turn q)) (q ∷ filter (λ q. not (is_position turn q)) qs) (filter (λ q. not (is_position turn q)) qs) ≡ cond (not b) (q ∷ others key qs) (others key qs)
    by_test true e later g =
        let same : q.0 ≡ turn = same_Some q.0 turn g in
        let own : is_position turn q ≡ true = subst (λ (t : QueuePosition). is_position t q ≡ true) same (is_own q) in
        let behind : AllByRecursion (λ x. turn.number < number_of x) qs = subst (λ (t : QueuePosition). AllByRecursion (λ x. t.number < number_of x) qs) same rises.0 in
        let number : q.1.0 ≡ key.0 = grind (arith, nat_tests) in
        let none : list_any (is_of key) (map (λ q. deadline_of q) qs) ≡ false = subst (λ n. list_any (λ (deadline : Deadline). deadline.1.0 == n) (map (λ q. deadline_of q) qs) ≡ false) number once.0 in
        ap (λ (c : Bool). cond (not c) (q ∷ filter (λ q. not (is_position turn q)) qs) (filter (λ q. not (is_position turn q)) qs)) own
        ∙ (filter-none (is_position turn) qs (none_of_position turn qs behind)
        ∙ sym (none_among key qs none))
    by_test false e later g =
        let less : q.0.number < turn.number = found_number (λ n. q.0.number < n) key turn qs g rises.0 in
        let other : is_position turn q ≡ false = other_number turn q (λ s. let h : turn.number ≡ q.0.number = s in omega (arith, h, less)) in
        ap (λ (c : Bool). cond (not c) (q ∷ filter (λ q. not (is_position turn q)) qs) (filter (λ q. not (is_position turn q)) qs)) other
        ∙ ap (λ (l : List Queued). q ∷ l) (later g)

-- ---- the turns of keys

position_of_others : (k key : Key) (qs : List Queued) → queue_position_of k (others key qs) ≡ cond (is_same key k) None (queue_position_of k qs)
position_of_others k key [] = by_test (is_same key k)
  where
    by_test : (c : Bool) → queue_position_of k [] ≡ cond c None (queue_position_of k [])
    by_test true = refl
    by_test false = refl
position_of_others k key (q ∷ qs) = by_tests (is_of key (deadline_of q)) (is_of k (deadline_of q)) (is_same key k) refl refl refl (position_of_others k key qs)
  where
    here : (b : Bool) → is_of k (deadline_of q) ≡ b → queue_position_of k (q ∷ others key qs) ≡ cond b (Some q.0) (queue_position_of k (others key qs))
    here b e = ap (λ (c : Bool). cond c (Some q.0) (queue_position_of k (others key qs))) e

    by_tests : (a b c : Bool) → is_of key (deadline_of q) ≡ a → is_of k (deadline_of q) ≡ b → is_same key k ≡ c → queue_position_of k (others key qs) ≡ cond c None (queue_position_of k qs)
        → queue_position_of k (cond (not a) (q ∷ others key qs) (others key qs)) ≡ cond c None (cond b (Some q.0) (queue_position_of k qs))
    by_tests true true true e f s later = later
    by_tests true true false e f s later =
        let one : q.1.0 ≡ key.0 = grind (arith, nat_tests, e) in
        let two : q.1.0 ≡ k.0 = grind (arith, nat_tests, f) in
        absurd (other_is key k s (sym one ∙ two))
    by_tests true false true e f s later = later
    by_tests true false false e f s later = later
    by_tests false true true e f s later =
        let same : key.0 ≡ k.0 = same_is key k s in
        let there : q.1.0 ≡ k.0 = grind (arith, nat_tests, f) in
        let own : is_of key (deadline_of q) ≡ true = grind (arith, nat_tests, same, there) in
        absurd (let g : true ≡ false = sym own ∙ e in cc)
    by_tests false true false e f s later = here true f
    by_tests false false true e f s later = here false f ∙ later
    by_tests false false false e f s later = here false f ∙ later

abbrev or_of : Option QueuePosition → Option QueuePosition → Option QueuePosition
or_of None o = o
or_of (Some turn) o = Some turn

or_none : (o : Option QueuePosition) → or_of o None ≡ o
or_none None = refl
or_none (Some turn) = refl

position_of_last : (k : Key) (qs : List Queued) (q : Queued) → queue_position_of k (qs ++ q ∷ []) ≡ or_of (queue_position_of k qs) (cond (is_of k (deadline_of q)) (Some q.0) None)
position_of_last k [] q = refl
position_of_last k (x ∷ xs) q = by_test (is_of k (deadline_of x)) (position_of_last k xs q)
  where
    by_test : (b : Bool) → queue_position_of k (xs ++ q ∷ []) ≡ or_of (queue_position_of k xs) (cond (is_of k (deadline_of q)) (Some q.0) None)
        → cond b (Some x.0) (queue_position_of k (xs ++ q ∷ [])) ≡ or_of (cond b (Some x.0) (queue_position_of k xs)) (cond (is_of k (deadline_of q)) (Some q.0) None)
    by_test true later = refl
    by_test false later = later

position_of_armed : (k key : Key) (turn : QueuePosition) (qs : List Queued) → queue_position_of k (others key qs ++ (turn, key) ∷ []) ≡ cond (is_same key k) (Some turn) (queue_position_of k qs)
position_of_armed k key turn qs =
    position_of_last k (others key qs) (turn, key)
    ∙ (ap (λ (o : Option QueuePosition). or_of o (cond (is_of k (turn.at, key)) (Some turn) None)) (position_of_others k key qs)
    ∙ by_test (is_same key k) refl)
  where
    by_test : (c : Bool) → is_same key k ≡ c → or_of (cond c None (queue_position_of k qs)) (cond (is_of k (turn.at, key)) (Some turn) None) ≡ cond c (Some turn) (queue_position_of k qs)
    by_test true e =
        let same : key.0 ≡ k.0 = same_is key k e in
        let own : is_of k (turn.at, key) ≡ true = grind (arith, nat_tests, same) in
        ap (λ (b : Bool). cond b (Some turn) None) own
    by_test false e =
        let other : is_of k (turn.at, key) ≡ false = not_of (key.0 == k.0) refl in
        ap (λ (b : Bool). or_of (queue_position_of k qs) (cond b (Some turn) None)) other ∙ or_none (queue_position_of k qs)
      where
        not_of : (b : Bool) → (key.0 == k.0) ≡ b → b ≡ false
        not_of false s = refl
        not_of true s = absurd (other_is key k e (grind (arith, nat_tests, s)))

-- ---- a key is armed

module _ (next at : ℕ) (key : Key) (queue : List Queued) (turns : List (Key × QueuePosition)) (are : IsQueueState next queue turns) where
  abbrev turn : QueuePosition
  turn = record { at = at; number = next }

  abbrev Armed : List Queued → Type 0
  Armed later = by_arming later ≡ others key (by_arming queue) ++ (turn, key) ∷ []

  abbrev more : List Queued
  more = insert_entry queue_position_cmp queue turn key

  armed_once : queue_position_of key (by_arming queue) ≡ None → Armed more
  armed_once none = one_more turn key queue are.below_next ∙ ap (λ (l : List Queued). l ++ (turn, key) ∷ []) (sym (none_armed key (by_arming queue) none))

  armed_again : (earlier : QueuePosition) → queue_position_of key (by_arming queue) ≡ Some earlier → IsStrictlySortedBy queue_position_cmp (keys_of more) → Armed (remove_entry (is_at (queue_position_cmp earlier)) more)
  armed_again earlier some sorted =
      let less : earlier.number < next = found_number (λ n. n < next) key earlier (by_arming queue) some (all_by_arming (λ q. number_of q < next) queue are.below_next) in
      let new : is_position earlier (turn, key) ≡ false = other_number earlier (turn, key) (λ e. let h : earlier.number ≡ next = e in omega (arith, h, less)) in
      ap by_arming (removed earlier more sorted)
      ∙ (by_arming_filter (λ q. not (is_position earlier q)) more
      ∙ (ap (filter (λ q. not (is_position earlier q))) (one_more turn key queue are.below_next)
      ∙ (filter-append (λ q. not (is_position earlier q)) (by_arming queue) ((turn, key) ∷ [])
      ∙ (ap (λ (b : Bool). filter (λ q. not (is_position earlier q)) (by_arming queue) ++ cond (not b) ((turn, key) ∷ []) []) new
      ∙ ap (λ (l : List Queued). l ++ (turn, key) ∷ []) (left_out key earlier (by_arming queue) some are.numbered are.once)))))

  counted_on : (qs : List Queued) → AllByRecursion (λ q. number_of q < next) qs → AllByRecursion (λ q. number_of q < next + 1) qs
  counted_on qs all = all_weaken (λ q. number_of q < next) (λ q. number_of q < next + 1) (λ q l. let h : q.0.number < next = l in omega (arith, h)) qs all

  before_more : AllByRecursion (λ q. number_of q < next + 1) more
  before_more = all_more turn key (λ q. number_of q < next + 1) queue are.below_next (omega arith) (counted_on queue are.below_next)

  module _ (earlier : Option QueuePosition) (was : earlier ≡ queue_position_at key turns) (sorted : IsStrictlySortedBy queue_position_cmp (keys_of more)) where
    armed : Armed (queue_without earlier more)
    armed = by_cases earlier (sym (was ∙ are.positions_of key))
      where
        by_cases : (o : Option QueuePosition) → queue_position_of key (by_arming queue) ≡ o → Armed (queue_without o more)
        by_cases None none = armed_once none
        by_cases (Some t) some = armed_again t some sorted

    before_armed : AllByRecursion (λ q. number_of q < next + 1) (queue_without earlier more)
    before_armed = by_cases earlier
      where
        by_cases : (o : Option QueuePosition) → AllByRecursion (λ q. number_of q < next + 1) (queue_without o more)
        by_cases None = before_more
        by_cases (Some t) =
            subst (λ (l : List Queued). AllByRecursion (λ q. number_of q < next + 1) l) (sym (removed t more sorted)) (all_filter (λ q. number_of q < next + 1) (λ q. not (is_position t q)) more before_more)

    pub seen_armed : queue_view (queue_without earlier more) ≡ after_arming at key (queue_view queue)
    seen_armed =
        ap (map (λ q. deadline_of q)) armed
        ∙ (map-append (λ q. deadline_of q) (others key (by_arming queue)) ((turn, key) ∷ [])
        ∙ ap (λ (l : List Deadline). l ++ (at, key) ∷ []) (seen_others key (by_arming queue)))

    pub kept_armed : (again : List (Key × QueuePosition)) → IsStrictlySortedBy queue_position_cmp (keys_of (queue_without earlier more)) → ArePositionsBut key (Some turn) turns again →
        IsQueueState (next + 1) (queue_without earlier more) again
    kept_armed again ordered says = record {
      sorted = ordered;
      below_next = before_armed;
      numbered = subst (λ (l : List Queued). Rises (λ q. number_of q) l) (sym armed) (rises_last (others key (by_arming queue)) (turn, key)
          (rises_filter (λ q. not (is_of key (deadline_of q))) (by_arming queue) are.numbered)
          (all_filter (λ q. number_of q < next) (λ q. not (is_of key (deadline_of q))) (by_arming queue) (all_by_arming (λ q. number_of q < next) queue are.below_next)));
      once = subst IsEachOnce (sym seen_armed) (once-armed_last at key (queue_view queue) are.once);
      positions_of = λ k.
          says k
          ∙ (ap (cond (is_same key k) (Some turn)) (are.positions_of k)
          ∙ (sym (position_of_armed k key turn (by_arming queue))
          ∙ ap (queue_position_of k) (sym armed)));
    }

-- ---- a key is disarmed

module _ (next : ℕ) (key : Key) (queue : List Queued) (turns : List (Key × QueuePosition)) (are : IsQueueState next queue turns) (turn : Option QueuePosition) (was : turn ≡ queue_position_at key turns) where
  arranged : by_arming (queue_without turn queue) ≡ others key (by_arming queue)
  arranged = by_cases turn (sym (was ∙ are.positions_of key))
    where
      by_cases : (o : Option QueuePosition) → queue_position_of key (by_arming queue) ≡ o → by_arming (queue_without o queue) ≡ others key (by_arming queue)
      by_cases None none = sym (none_armed key (by_arming queue) none)
      by_cases (Some t) some = ap by_arming (removed t queue are.sorted) ∙ (by_arming_filter (λ q. not (is_position t q)) queue ∙ left_out key t (by_arming queue) some are.numbered are.once)

  before_disarmed : AllByRecursion (λ q. number_of q < next) (queue_without turn queue)
  before_disarmed = by_cases turn
    where
      by_cases : (o : Option QueuePosition) → AllByRecursion (λ q. number_of q < next) (queue_without o queue)
      by_cases None = are.below_next
      by_cases (Some t) = subst (λ (l : List Queued). AllByRecursion (λ q. number_of q < next) l) (sym (removed t queue are.sorted))
          (all_filter (λ q. number_of q < next) (λ q. not (is_position t q)) queue are.below_next)

  pub seen_disarmed : queue_view (queue_without turn queue) ≡ without key (queue_view queue)
  seen_disarmed = ap (map (λ q. deadline_of q)) arranged ∙ seen_others key (by_arming queue)

  pub kept_disarmed : (left : List (Key × QueuePosition)) → IsStrictlySortedBy queue_position_cmp (keys_of (queue_without turn queue)) → ArePositionsBut key None turns left →
      IsQueueState next (queue_without turn queue) left
  kept_disarmed left ordered says = record {
    sorted = ordered;
    below_next = before_disarmed;
    numbered = subst (λ (l : List Queued). Rises (λ q. number_of q) l) (sym arranged) (rises_filter (λ q. not (is_of key (deadline_of q))) (by_arming queue) are.numbered);
    once = subst IsEachOnce (sym seen_disarmed) (once-filter (λ deadline. not (is_of key deadline)) (queue_view queue) are.once);
    positions_of = λ k.
        says k
        ∙ (ap (cond (is_same key k) None) (are.positions_of k)
        ∙ (sym (position_of_others k key (by_arming queue))
        ∙ ap (queue_position_of k) (sym arranged)));
  }

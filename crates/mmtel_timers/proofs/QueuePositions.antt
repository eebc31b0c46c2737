-- The turns of deadlines: their order, and those that are removed by turn.
use Rattle.std.proofs.Common.{◌≡◌, ℕ, ◌<◌, ◌⊎◌, inl, inr, Bool, true, false, cond, not, List, [], ◌∷◌, refl, sym, ap, ◌∙◌, arith}
use Rattle.std.specs.BTreeMap.{insert_entry, is_at}
use Rattle.std.specs.List.{AllByRecursion, filter, list_any}
use Rattle.std.specs.List.Sorted.{IsStrictlySortedBy}
use Rattle.std.specs.Map.{keys_of, remove_entry}
use Rattle.std.specs.Ordering.{is_eq, match_ordering, nat_cmp, ordering_then}
use Rattle.std.specs.declared.cmp.Ordering.{Ordering}
use Rattle.std.specs.declared.cmp.Ordering.TheVariants.{Less, Equal, Greater}
use Rattle.std.proofs.lemmas.Bool.Decides.{nat_tests}
use Rattle.std.proofs.lemmas.Cmp.{ranked}
use Rattle.std.proofs.lemmas.Map.Keys.{sorted_head, sorted_tail}
use Rattle.mmtel_timers.specs.Queues.{Queued, number_of, queue_position_cmp}
use Rattle.mmtel_timers.specs.declared.deadlines.Key.{Key}
use Rattle.mmtel_timers.specs.declared.queues.QueuePosition.{QueuePosition}
use Rattle.mmtel_timers.proofs.Removal.{filter-none}

pub none_sorted : IsStrictlySortedBy queue_position_cmp []
unfolding IsStrictlySortedBy
none_sorted = tt

-- ---- one turn and another

pub then_less : (o p : Ordering) → ordering_then o p ≡ Less → (o ≡ Less) ⊎ ((o ≡ Equal) × (p ≡ Less))
then_less Less p e = inl refl
then_less Equal p e = inr (refl, e)
then_less Greater p e = absurd (let f : Greater ≡ Less = e in cc)

then_equal : (o p : Ordering) → ordering_then o p ≡ Equal → (o ≡ Equal) × (p ≡ Equal)
then_equal Less p e = absurd (let f : Less ≡ Equal = e in cc)
then_equal Equal p e = (refl, e)
then_equal Greater p e = absurd (let f : Greater ≡ Equal = e in cc)

abbrev pub Comes : QueuePosition → QueuePosition → Type 0
Comes x y = (x.at < y.at) ⊎ ((x.at ≡ y.at) × (x.number < y.number))

pub comes : (x y : QueuePosition) → queue_position_cmp x y ≡ Less → Comes x y
comes x y e = elim (then_less (nat_cmp x.at y.at) (nat_cmp x.number y.number) e) [
  | inl a ↦ inl (ranked x.at y.at Less (sym a))
  | inr p ↦ inr (ranked x.at y.at Equal (sym p.0), ranked x.number y.number Less (sym p.1))
]

pub same_position : (x y : QueuePosition) → queue_position_cmp x y ≡ Equal → (x.at ≡ y.at) × (x.number ≡ y.number)
same_position x y e =
    let both = then_equal (nat_cmp x.at y.at) (nat_cmp x.number y.number) e in
    (ranked x.at y.at Equal (sym both.0), ranked x.number y.number Equal (sym both.1))

same_number : (n : ℕ) → nat_cmp n n ≡ Equal
same_number n = grind (arith, nat_tests)

pub own_position : (x : QueuePosition) → queue_position_cmp x x ≡ Equal
own_position x = ap (λ o. ordering_then o (nat_cmp x.number x.number)) (same_number x.at) ∙ same_number x.number

pub equal_tested : (o : Ordering) → is_eq o ≡ true → o ≡ Equal
equal_tested Less e = absurd cc
equal_tested Equal e = refl
equal_tested Greater e = absurd cc

pub not_equal : (o : Ordering) → (o ≡ Equal → ⊥) → is_eq o ≡ false
not_equal Less n = refl
not_equal Equal n = absurd (n refl)
not_equal Greater n = refl

-- ---- those of one turn

abbrev pub is_position : QueuePosition → Queued → Bool
is_position turn q = is_eq (queue_position_cmp turn q.0)

pub is_own : (q : Queued) → is_position q.0 q ≡ true
is_own q = ap is_eq (own_position q.0)

pub other_number : (turn : QueuePosition) (q : Queued) → (turn.number ≡ number_of q → ⊥) → is_position turn q ≡ false
other_number turn q n = not_equal (queue_position_cmp turn q.0) (λ e. n (same_position turn q.0 e).1)

module _ (turn : QueuePosition) where
  none_behind : (q : Queued) (qs : List Queued) → is_position turn q ≡ true → AllByRecursion (λ (y : QueuePosition). queue_position_cmp q.0 y ≡ Less) (keys_of qs) → list_any (is_position turn) qs ≡ false
  none_behind q [] own less = refl
  none_behind q (x ∷ xs) own less =
      let here = same_position turn q.0 (equal_tested (queue_position_cmp turn q.0) own) in
      let other : is_position turn x ≡ false = not_equal (queue_position_cmp turn x.0) (λ e.
      let there = same_position turn x.0 e in
      elim (comes q.0 x.0 less.0) [
        | inl l ↦ let a = here.0 in let b = there.0 in omega (arith, a, b, l)
        | inr p ↦ let a = here.1 in let b = there.1 in let l = p.1 in omega (arith, a, b, l)
      ]) in
      rw other (none_behind q xs own less.1)

  -- removing the first one removes all
  pub removed : (qs : List Queued) → IsStrictlySortedBy queue_position_cmp (keys_of qs) → remove_entry (is_at (queue_position_cmp turn)) qs ≡ filter (λ q. not (is_position turn q)) qs
  removed [] sorted = refl
  removed (q ∷ qs) sorted = by_test (removed qs (sorted_tail queue_position_cmp q.0 (keys_of qs) sorted)) (is_position turn q) refl
    where
      by_test : remove_entry (is_at (queue_position_cmp turn)) qs ≡ filter (λ q. not (is_position turn q)) qs → (b : Bool) → is_position turn q ≡ b
          → cond b qs (q ∷ remove_entry (is_at (queue_position_cmp turn)) qs) ≡ cond (not b) (q ∷ filter (λ q. not (is_position turn q)) qs) (filter (λ q. not (is_position turn q)) qs)
      by_test later true own = sym (filter-none (is_position turn) qs (none_behind q qs own (sorted_head queue_position_cmp q.0 (keys_of qs) sorted)))
      by_test later false other = ap (λ (l : List Queued). q ∷ l) later

  -- inserting one and removing it again
  pub put_back : (key : Key) (qs : List Queued) → AllByRecursion (λ q. number_of q < turn.number) qs → remove_entry (is_at (queue_position_cmp turn)) (insert_entry queue_position_cmp qs turn key) ≡ qs
  put_back key [] before = ap (λ (o : Ordering). cond (is_eq o) [] ((turn, key) ∷ [])) (own_position turn)
  put_back key (q ∷ qs) before = by_order (put_back key qs before.1) (queue_position_cmp turn q.0) refl
    where
      by_order : remove_entry (is_at (queue_position_cmp turn)) (insert_entry queue_position_cmp qs turn key) ≡ qs → (o : Ordering) → queue_position_cmp turn q.0 ≡ o
          → remove_entry (is_at (queue_position_cmp turn)) (match_ordering o ((turn, key) ∷ q ∷ qs) ((q.0, key) ∷ qs) (q ∷ insert_entry queue_position_cmp qs turn key)) ≡ q ∷ qs
      by_order later Less e = ap (λ (o : Ordering). cond (is_eq o) (q ∷ qs) ((turn, key) ∷ remove_entry (is_at (queue_position_cmp turn)) (q ∷ qs))) (own_position turn)
      by_order later Equal e = absurd (let h = (same_position turn q.0 e).1 in let l = before.0 in omega (arith, h, l))
      by_order later Greater e =
          ap (λ (o : Ordering). cond (is_eq o) (insert_entry queue_position_cmp qs turn key) (q ∷ remove_entry (is_at (queue_position_cmp turn)) (insert_entry queue_position_cmp qs turn key))) e
          ∙ ap (λ (l : List Queued). q ∷ l) later

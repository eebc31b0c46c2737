-- Deadlines by the number of their arming: those that are removed, and one that comes last.
use Rattle.std.proofs.Common.{◌≡◌, ◌≤◌, ◌<◌, Bool, true, false, cond, nat_lt, List, [], ◌∷◌, ◌++◌, refl, sym, ap, ◌∙◌, arith}
use Rattle.std.specs.BTreeMap.{insert_entry}
use Rattle.std.specs.List.{AllByRecursion, filter}
use Rattle.std.specs.Ordering.{match_ordering}
use Rattle.std.specs.declared.cmp.Ordering.{Ordering}
use Rattle.std.specs.declared.cmp.Ordering.TheVariants.{Less, Equal, Greater}
use Rattle.std.proofs.lemmas.Bool.Decides.{nat_tests}
use Rattle.mmtel_timers.specs.Queues.{Queued, by_arming, inserted_by_arming, number_of, queue_position_cmp}
use Rattle.mmtel_timers.specs.Shelves.{Rises}
use Rattle.mmtel_timers.specs.declared.deadlines.Key.{Key}
use Rattle.mmtel_timers.specs.declared.queues.QueuePosition.{QueuePosition}
use Rattle.mmtel_timers.proofs.QueuePositions.{same_position}

-- ---- facts about all

pub all_weaken : {X : Type 0} (P Q : X → Type 0) → ((x : X) → P x → Q x) → (xs : List X) → AllByRecursion P xs → AllByRecursion Q xs
all_weaken P Q f [] all = tt
all_weaken P Q f (x ∷ xs) all = (f x all.0, all_weaken P Q f xs all.1)

pub all_filter : {X : Type 0} (P : X → Type 0) (p : X → Bool) (xs : List X) → AllByRecursion P xs → AllByRecursion P (filter p xs)
all_filter P p [] all = tt
all_filter {X} P p (x ∷ xs) all = by_test (p x) (all_filter P p xs all.1)
  where
    by_test : (b : Bool) → AllByRecursion P (filter p xs) → AllByRecursion P (cond b (x ∷ filter p xs) (filter p xs))
    by_test true later = (all.0, later)
    by_test false later = later

pub all_inserted : (P : Queued → Type 0) (q : Queued) (qs : List Queued) → P q → AllByRecursion P qs → AllByRecursion P (inserted_by_arming q qs)
all_inserted P q [] one all = (one, tt)
all_inserted P q (x ∷ xs) one all = by_test (all_inserted P q xs one all.1) (nat_lt (number_of q) (number_of x))
  where
    by_test : AllByRecursion P (inserted_by_arming q xs) → (b : Bool) → AllByRecursion P (cond b (q ∷ x ∷ xs) (x ∷ inserted_by_arming q xs))
    by_test later true = (one, all)
    by_test later false = (all.0, later)

pub all_by_arming : (P : Queued → Type 0) (qs : List Queued) → AllByRecursion P qs → AllByRecursion P (by_arming qs)
all_by_arming P [] all = tt
all_by_arming P (q ∷ qs) all = all_inserted P q (by_arming qs) all.0 (all_by_arming P qs all.1)

-- ---- their numbers do not fall

abbrev InOrder : List Queued → Type 0
InOrder [] = Unit {0}
InOrder (x ∷ xs) = AllByRecursion (λ y. number_of x ≤ number_of y) xs × InOrder xs

in_order_inserted : (q : Queued) (qs : List Queued) → InOrder qs → InOrder (inserted_by_arming q qs)
in_order_inserted q [] order = (tt, tt)
in_order_inserted q (x ∷ xs) order = by_test (in_order_inserted q xs order.1) (nat_lt (number_of q) (number_of x)) refl
  where
    by_test : InOrder (inserted_by_arming q xs) → (b : Bool) → nat_lt (number_of q) (number_of x) ≡ b → InOrder (cond b (q ∷ x ∷ xs) (x ∷ inserted_by_arming q xs))
    by_test later true e =
        let less : q.0.number < x.0.number = grind (arith, nat_tests) in
        ((omega (arith, less), all_weaken (λ y. number_of x ≤ number_of y) (λ y. number_of q ≤ number_of y) (λ y l. omega (arith, less, l)) xs order.0), order)
    by_test later false e =
        let least : x.0.number ≤ q.0.number = grind (arith, nat_tests) in
        (all_inserted (λ y. number_of x ≤ number_of y) q xs least order.0, later)

in_order_all : (qs : List Queued) → InOrder (by_arming qs)
in_order_all [] = tt
in_order_all (q ∷ qs) = in_order_inserted q (by_arming qs) (in_order_all qs)

-- ---- some are removed

inserted_front : (q : Queued) (qs : List Queued) → AllByRecursion (λ y. number_of q < number_of y) qs → inserted_by_arming q qs ≡ q ∷ qs
inserted_front q [] all = refl
inserted_front q (x ∷ xs) all =
    let l : q.0.number < x.0.number = all.0 in
    let e : nat_lt q.0.number x.0.number ≡ true = grind (arith, nat_tests) in
    ap (λ (b : Bool). cond b (q ∷ x ∷ xs) (x ∷ inserted_by_arming q xs)) e

behind_one : (q x : Queued) (l left : List Queued) (a b : Bool) → l ≡ cond b (inserted_by_arming q left) left → nat_lt (number_of q) (number_of x) ≡ false
    → cond a (x ∷ l) l ≡ cond b (inserted_by_arming q (cond a (x ∷ left) left)) (cond a (x ∷ left) left)
behind_one q x l left true true h e = ap (λ (k : List Queued). x ∷ k) h ∙ sym (ap (λ (c : Bool). cond c (q ∷ x ∷ left) (x ∷ inserted_by_arming q left)) e)
behind_one q x l left true false h e = ap (λ (k : List Queued). x ∷ k) h
behind_one q x l left false b h e = h

filter_inserted : (p : Queued → Bool) (q : Queued) (qs : List Queued) → InOrder qs → filter p (inserted_by_arming q qs) ≡ cond (p q) (inserted_by_arming q (filter p qs)) (filter p qs)
filter_inserted p q [] order = refl
filter_inserted p q (x ∷ xs) order = by_test (filter_inserted p q xs order.1) (nat_lt (number_of q) (number_of x)) refl
  where
    by_test : filter p (inserted_by_arming q xs) ≡ cond (p q) (inserted_by_arming q (filter p xs)) (filter p xs) → (b : Bool) → nat_lt (number_of q) (number_of x) ≡ b
        → filter p (cond b (q ∷ x ∷ xs) (x ∷ inserted_by_arming q xs)) ≡ cond (p q) (inserted_by_arming q (filter p (x ∷ xs))) (filter p (x ∷ xs))
    by_test later true e =
        let less : q.0.number < x.0.number = grind (arith, nat_tests) in
        let all : AllByRecursion (λ y. number_of q < number_of y) (x ∷ xs) =
        (less, all_weaken (λ y. number_of x ≤ number_of y) (λ y. number_of q < number_of y) (λ y l. omega (arith, less, l)) xs order.0) in
        ap (λ (l : List Queued). cond (p q) l (filter p (x ∷ xs))) (sym (inserted_front q (filter p (x ∷ xs)) (all_filter (λ y. number_of q < number_of y) p (x ∷ xs) all)))
    by_test later false e = behind_one q x (filter p (inserted_by_arming q xs)) (filter p xs) (p x) (p q) later e

pub by_arming_filter : (p : Queued → Bool) (qs : List Queued) → by_arming (filter p qs) ≡ filter p (by_arming qs)
by_arming_filter p [] = refl
by_arming_filter p (q ∷ qs) = by_test (p q) (by_arming_filter p qs) ∙ sym (filter_inserted p q (by_arming qs) (in_order_all qs))
  where
    by_test : (b : Bool) → by_arming (filter p qs) ≡ filter p (by_arming qs) → by_arming (cond b (q ∷ filter p qs) (filter p qs)) ≡ cond b (inserted_by_arming q (filter p (by_arming qs))) (filter p (by_arming qs))
    by_test true later = ap (inserted_by_arming q) later
    by_test false later = later

pub rises_filter : (p : Queued → Bool) (qs : List Queued) → Rises (λ q. number_of q) qs → Rises (λ q. number_of q) (filter p qs)
rises_filter p [] rises = tt
rises_filter p (q ∷ qs) rises = by_test (p q) (rises_filter p qs rises.1)
  where
    by_test : (b : Bool) → Rises (λ q. number_of q) (filter p qs) → Rises (λ q. number_of q) (cond b (q ∷ filter p qs) (filter p qs))
    by_test true later = (all_filter (λ x. number_of q < number_of x) p qs rises.0, later)
    by_test false later = later

-- ---- one comes last

all_last : (P : Queued → Type 0) (qs : List Queued) (q : Queued) → AllByRecursion P qs → P q → AllByRecursion P (qs ++ q ∷ [])
all_last P [] q all one = (one, tt)
all_last P (x ∷ xs) q all one = (all.0, all_last P xs q all.1 one)

pub rises_last : (qs : List Queued) (q : Queued) → Rises (λ q. number_of q) qs → AllByRecursion (λ x. number_of x < number_of q) qs → Rises (λ q. number_of q) (qs ++ q ∷ [])
rises_last [] q rises all = (tt, tt)
rises_last (x ∷ xs) q rises all = (all_last (λ y. number_of x < number_of y) xs q rises.0 all.0, rises_last xs q rises.1 all.1)

inserted_last : (q : Queued) (qs : List Queued) → AllByRecursion (λ x. number_of x < number_of q) qs → inserted_by_arming q qs ≡ qs ++ q ∷ []
inserted_last q [] all = refl
inserted_last q (x ∷ xs) all =
    let l : x.0.number < q.0.number = all.0 in
    let e : nat_lt q.0.number x.0.number ≡ false = grind (arith, nat_tests) in
    ap (λ (b : Bool). cond b (q ∷ x ∷ xs) (x ∷ inserted_by_arming q xs)) e ∙ ap (λ (l : List Queued). x ∷ l) (inserted_last q xs all.1)

inserted_before : (e q : Queued) (qs : List Queued) → number_of e < number_of q → inserted_by_arming e (qs ++ q ∷ []) ≡ inserted_by_arming e qs ++ q ∷ []
inserted_before e q [] l = let t : nat_lt e.0.number q.0.number ≡ true = grind (arith, nat_tests) in ap (λ (b : Bool). cond b (e ∷ q ∷ []) (q ∷ e ∷ [])) t
inserted_before e q (x ∷ xs) l = by_test (inserted_before e q xs l) (nat_lt (number_of e) (number_of x))
  where
    by_test : inserted_by_arming e (xs ++ q ∷ []) ≡ inserted_by_arming e xs ++ q ∷ [] → (b : Bool) →
        cond b (e ∷ x ∷ (xs ++ q ∷ [])) (x ∷ inserted_by_arming e (xs ++ q ∷ [])) ≡ cond b (e ∷ x ∷ xs) (x ∷ inserted_by_arming e xs) ++ q ∷ []
    by_test later true = refl
    by_test later false = ap (λ (l : List Queued). x ∷ l) later

module _ (turn : QueuePosition) (key : Key) where
  abbrev Earlier : Queued → Type 0
  Earlier x = number_of x < turn.number

  not_same : (x : Queued) → Earlier x → queue_position_cmp turn x.0 ≡ Equal → ⊥
  not_same x l e = let h = (same_position turn x.0 e).1 in omega (arith, h, l)

  pub one_more : (qs : List Queued) → AllByRecursion Earlier qs → by_arming (insert_entry queue_position_cmp qs turn key) ≡ by_arming qs ++ (turn, key) ∷ []
  one_more [] all = refl
  one_more (x ∷ xs) all = by_order (one_more xs all.1) (queue_position_cmp turn x.0) refl
    where
      by_order : by_arming (insert_entry queue_position_cmp xs turn key) ≡ by_arming xs ++ (turn, key) ∷ [] → (o : Ordering) → queue_position_cmp turn x.0 ≡ o
          → by_arming (match_ordering o ((turn, key) ∷ x ∷ xs) ((x.0, key) ∷ xs) (x ∷ insert_entry queue_position_cmp xs turn key)) ≡ by_arming (x ∷ xs) ++ (turn, key) ∷ []
      by_order later Less e = inserted_last (turn, key) (by_arming (x ∷ xs)) (all_by_arming Earlier (x ∷ xs) all)
      by_order later Equal e = absurd (not_same x all.0 e)
      by_order later Greater e = ap (inserted_by_arming x) later ∙ inserted_before x (turn, key) (by_arming xs) all.0

  pub all_more : (P : Queued → Type 0) (qs : List Queued) → AllByRecursion Earlier qs → P (turn, key) → AllByRecursion P qs → AllByRecursion P (insert_entry queue_position_cmp qs turn key)
  all_more P [] early one all = (one, tt)
  all_more P (x ∷ xs) early one all = by_order (all_more P xs early.1 one all.1) (queue_position_cmp turn x.0) refl
    where
      by_order : AllByRecursion P (insert_entry queue_position_cmp xs turn key) → (o : Ordering) → queue_position_cmp turn x.0 ≡ o
          → AllByRecursion P (match_ordering o ((turn, key) ∷ x ∷ xs) ((x.0, key) ∷ xs) (x ∷ insert_entry queue_position_cmp xs turn key))
      by_order later Less e = (one, all)
      by_order later Equal e = absurd (not_same x early.0 e)
      by_order later Greater e = (all.0, later)

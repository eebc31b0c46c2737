-- The first deadline key of the transactions is that of the next deadline.
use Rattle.std.proofs.Common.{◌≡◌, ℕ, ◌-◌, ◌^◌, ◌<◌, ◌≤◌, Bool, true, false, cond, ◌&&◌, ◌||◌, nat_lt, List, [], ◌∷◌, refl, sym, ap, ◌∙◌, subst, arith, ◌⊎◌, inl, inr, Some, None, Option}
use Rattle.std.specs.Prelude.{slice_get, option_map, nat_le, ◌==◌}
use Rattle.std.specs.Ordering.{nat_cmp, ordering_then}
use Rattle.std.specs.declared.cmp.Ordering.{Ordering}
use Rattle.std.specs.declared.cmp.Ordering.TheVariants.{Less, Equal, Greater}
use Rattle.std.proofs.lemmas.Bool.{eq-eqb, eqb-true}
use Rattle.std.proofs.lemmas.Bool.Decides.{nat_tests}
use Rattle.std.proofs.lemmas.Cmp.{ranked}
use Rattle.std.proofs.lemmas.Option.{none-some, same_Some}
use Rattle.mmtel_timers.specs.Shelves.{Has, IsIndex, Rises}
use Rattle.mmtel_timers.proofs.Lookups.{find_has, find_misses}
use Rattle.mmtel_timers.proofs.Ordered.{all_has}
use Rattle.mmtel_transaction.specs.declared.entries.Entry.{Entry}
use Rattle.mmtel_transaction.specs.declared.match_keys.DeadlineKey.{DeadlineKey}
use Rattle.mmtel_transaction.specs.Deadlines.{deadline, order_due, step_due}
use Rattle.mmtel_transaction.specs.Results.{by_key, due_one, is_before, is_of, DueEntryView, next_due, sooner}
use Rattle.mmtel_transaction.specs.Indexes.{deadline_cmp, deadline_key, due_first, indexed_deadline, or_never}
use Rattle.mmtel_transaction.proofs.Changing.{one_key}

-- what comes first is not after
last_false : (i j : ℕ) (k r : Ordering) → r ≡ nat_cmp i j → ordering_then r k ≡ Less → nat_lt j i ≡ false
last_false i j k Less e q = let l : i < j = ranked i j Less e in grind (arith, nat_tests)
last_false i j k Equal e q = let l : i ≡ j = ranked i j Equal e in grind (arith, nat_tests)
last_false i j k Greater e q = absurd cc

mid_false : (s t i j : ℕ) (k r : Ordering) → r ≡ nat_cmp s t → ordering_then r (ordering_then (nat_cmp i j) k) ≡ Less → (nat_lt t s || ((t == s) && nat_lt j i)) ≡ false
mid_false s t i j k Less e q =
    let l : s < t = ranked s t Less e in
    let a : nat_lt t s ≡ false = grind (arith, nat_tests) in
    let b : (t == s) ≡ false = grind (arith, nat_tests) in
    rw (a, b) refl
mid_false s t i j k Equal e q =
    let l : s ≡ t = ranked s t Equal e in
    let a : nat_lt t s ≡ false = grind (arith, nat_tests) in
    let b : (t == s) ≡ true = grind (arith, nat_tests) in
    rw (a, b) (last_false i j k (nat_cmp i j) refl q)
mid_false s t i j k Greater e q = absurd cc

pub top_false : (a b s t i j : ℕ) (k r : Ordering) → r ≡ nat_cmp a b → ordering_then r (ordering_then (nat_cmp s t) (ordering_then (nat_cmp i j) k)) ≡ Less →
    (nat_lt b a || ((b == a) && (nat_lt t s || ((t == s) && nat_lt j i)))) ≡ false
top_false a b s t i j k Less e q =
    let l : a < b = ranked a b Less e in
    let f : nat_lt b a ≡ false = grind (arith, nat_tests) in
    let g : (b == a) ≡ false = grind (arith, nat_tests) in
    rw (f, g) refl
top_false a b s t i j k Equal e q =
    let l : a ≡ b = ranked a b Equal e in
    let f : nat_lt b a ≡ false = grind (arith, nat_tests) in
    let g : (b == a) ≡ true = grind (arith, nat_tests) in
    rw (f, g) (mid_false s t i j k (nat_cmp s t) refl q)
top_false a b s t i j k Greater e q = absurd cc

-- and of two whose keys are in the other order, before
last_true : (i j k l : ℕ) (r : Ordering) → r ≡ nat_cmp i j → ordering_then r (nat_cmp k l) ≡ Less → l < k → nat_lt i j ≡ true
last_true i j k l Less e q m = let n : i < j = ranked i j Less e in grind (arith, nat_tests)
last_true i j k l Equal e q m = let n : k < l = ranked k l Less (sym q) in absurd (omega (arith, n, m))
last_true i j k l Greater e q m = absurd cc

mid_true : (s t i j k l : ℕ) (r : Ordering) → r ≡ nat_cmp s t → ordering_then r (ordering_then (nat_cmp i j) (nat_cmp k l)) ≡ Less → l < k → (nat_lt s t || ((s == t) && nat_lt i j)) ≡ true
mid_true s t i j k l Less e q m =
    let n : s < t = ranked s t Less e in
    let a : nat_lt s t ≡ true = grind (arith, nat_tests) in
    rw a refl
mid_true s t i j k l Equal e q m =
    let n : s ≡ t = ranked s t Equal e in
    let a : nat_lt s t ≡ false = grind (arith, nat_tests) in
    let b : (s == t) ≡ true = grind (arith, nat_tests) in
    rw (a, b) (last_true i j k l (nat_cmp i j) refl q m)
mid_true s t i j k l Greater e q m = absurd cc

pub top_true : (a b s t i j k l : ℕ) (r : Ordering) → r ≡ nat_cmp a b → ordering_then r (ordering_then (nat_cmp s t) (ordering_then (nat_cmp i j) (nat_cmp k l))) ≡ Less → l < k →
    (nat_lt a b || ((a == b) && (nat_lt s t || ((s == t) && nat_lt i j)))) ≡ true
top_true a b s t i j k l Less e q m =
    let n : a < b = ranked a b Less e in
    let f : nat_lt a b ≡ true = grind (arith, nat_tests) in
    rw f refl
top_true a b s t i j k l Equal e q m =
    let n : a ≡ b = ranked a b Equal e in
    let f : nat_lt a b ≡ false = grind (arith, nat_tests) in
    let g : (a == b) ≡ true = grind (arith, nat_tests) in
    rw (f, g) (mid_true s t i j k l (nat_cmp s t) refl q m)
top_true a b s t i j k l Greater e q m = absurd cc

-- the moment of what comes first is not later
pub not_later : (a b : ℕ) (k r : Ordering) → r ≡ nat_cmp a b → ordering_then r k ≡ Less → a ≤ b
not_later a b k Less e q = let l : a < b = ranked a b Less e in omega (arith, l)
not_later a b k Equal e q = let l : a ≡ b = ranked a b Equal e in omega (arith, l)
not_later a b k Greater e q = absurd cc

abbrev waits_with : Option ℕ → Entry → DeadlineKey
waits_with o e = record { at = or_never o; step = step_due e; order = order_due e; key = e.key }

-- the next deadline is one of those
one_has : (now : ℕ) (e : Entry) (n : DueEntryView) (o : Option ℕ) → deadline e ≡ o → due_one now e o ≡ Some n → (e ≡ n.entry) × (deadline n.entry ≡ Some n.at)
one_has now e n None d q = absurd (none-some n q)
one_has now e n (Some a) d q = by_test (nat_le a now) q
  where
    by_test : (b : Bool) → cond b (Some (record { at = a; entry = e })) None ≡ Some n → (e ≡ n.entry) × (deadline n.entry ≡ Some n.at)
    by_test true s = let w = same_Some (record { at = a; entry = e }) n s in (ap (λ (x : DueEntryView). x.entry) w, subst (λ (x : DueEntryView). deadline x.entry ≡ Some x.at) w d)
    by_test false s = absurd (none-some n s)

sooner_is : (x y : Option DueEntryView) (n : DueEntryView) → sooner x y ≡ Some n → (x ≡ Some n) ⊎ (y ≡ Some n)
sooner_is None y n q = inr q
sooner_is (Some x) None n q = inl q
sooner_is (Some x) (Some y) n q = by_test (is_before y.at y.entry x.at x.entry) q
  where
    by_test : (b : Bool) → Some (cond b y x) ≡ Some n → (Some x ≡ Some n) ⊎ (Some y ≡ Some n)
    by_test true s = inr s
    by_test false s = inl s

pub next_has : (now : ℕ) (es : List Entry) (n : DueEntryView) → next_due now es ≡ Some n → Has n.entry es × (deadline n.entry ≡ Some n.at)
next_has now [] n q = absurd (none-some n q)
next_has now (e ∷ es) n q = elim (sooner_is (due_one now e (deadline e)) (next_due now es) n q) [
  | inl w ↦ let u = one_has now e n (deadline e) refl w in (inl (sym u.0), u.1)
  | inr w ↦ let u = next_has now es n w in (inr u.0, u.1)
]

-- where each deadline is later, none is due
not_due : (now : ℕ) (e : Entry) (o : Option ℕ) → ((a : ℕ) → o ≡ Some a → now < a) → due_one now e o ≡ None
not_due now e None l = refl
not_due now e (Some a) l = let m : now < a = l a refl in let t : nat_le a now ≡ false = grind (arith, nat_tests) in rw t refl

pub none_due : (now : ℕ) (es : List Entry) → ((e : Entry) (a : ℕ) → Has e es → deadline e ≡ Some a → now < a) → next_due now es ≡ None
none_due now [] l = refl
none_due now (e ∷ es) l = rw (not_due now e (deadline e) (λ a q. l e a (inl refl) q), none_due now es (λ d a h q. l d a (inr h) q)) refl

-- the least is the next one
module _ (now a : ℕ) (e : Entry) (d : deadline e ≡ Some a) (soon : a ≤ now) where
  abbrev first : DueEntryView
  first = record { at = a; entry = e }

  opened_key : due_one now e (deadline e) ≡ Some first
  opened_key = let t : nat_le a now ≡ true = grind (arith, nat_tests) in ap (due_one now e) d ∙ ap (λ b. cond b (Some first) None) t

  abbrev IsLeast : List Entry → Type 0
  IsLeast es = (x : Entry) (b : ℕ) → Has x es → deadline x ≡ Some b → (x.key ≡ e.key) ⊎ (deadline_cmp (waits_with (Some a) e) (waits_with (Some b) x) ≡ Less)

  stays : (es : List Entry) (o : Option DueEntryView) → next_due now es ≡ o → ((x : Entry) → Has x es → e.key < x.key) → IsLeast es → sooner (Some first) o ≡ Some first
  stays es None q r m = refl
  stays es (Some n) q r m =
      let u = next_has now es n q in
      elim (m n.entry n.at u.0 u.1) [
        | inl w ↦ let l : e.key < n.entry.key = r n.entry u.0 in absurd (omega (arith, w, l))
        | inr w ↦ let f : is_before n.at n.entry a e ≡ false = top_false a n.at (step_due e) (step_due n.entry) (order_due e) (order_due n.entry) (nat_cmp e.key n.entry.key) (nat_cmp a n.at) refl w in
            ap (λ t. Some (cond t n first)) f
      ]

  comes : (x : Entry) (es : List Entry) (o : Option ℕ) → deadline x ≡ o → x.key < e.key → IsLeast (x ∷ es) → sooner (due_one now x o) (Some first) ≡ Some first
  comes x es None q k m = refl
  comes x es (Some b) q k m = by_test (nat_le b now)
    where
      earlier : is_before a e b x ≡ true
      earlier = elim (m x b (inl refl) q) [
        | inl w ↦ absurd (omega (arith, w, k))
        | inr w ↦ top_true a b (step_due e) (step_due x) (order_due e) (order_due x) e.key x.key (nat_cmp a b) refl w k
      ]

      by_test : (t : Bool) → sooner (cond t (Some (record { at = b; entry = x })) None) (Some first) ≡ Some first
      by_test true = ap (λ t. Some (cond t first (record { at = b; entry = x }))) earlier
      by_test false = refl

  pub least_next : (es : List Entry) → Has e es → Rises (λ (x : Entry). x.key) es → IsLeast es → next_due now es ≡ Some first
  least_next [] h r m = absurd h
  least_next (x ∷ es) (inl q) r m =
      let o : due_one now x (deadline x) ≡ Some first = subst (λ (y : Entry). due_one now y (deadline y) ≡ Some first) q opened_key in
      let k : (y : Entry) → Has y es → e.key < y.key = λ y g. subst (λ (z : Entry). z.key < y.key) (sym q) (all_has (λ (z : Entry). x.key < z.key) es y r.0 g) in
      rw o (stays es (next_due now es) refl k (λ y b g s. m y b (inr g) s))
  least_next (x ∷ es) (inr h) r m =
      rw (least_next es h r.1 (λ y b g s. m y b (inr g) s)) (comes x es (deadline x) refl (all_has (λ (z : Entry). x.key < z.key) es e r.0 h) m)

-- the first deadline key of transactions
abbrev pub moment_and_key : Option DueEntryView → Option (ℕ × ℕ)
moment_and_key o = option_map (λ (n : DueEntryView). (n.at, n.entry.key)) o

module _ (now : ℕ) (few : now < 2 ^ 64) (es : List Entry) (rises : Rises (λ (x : Entry). x.key) es) where
  first_less : (x : DeadlineKey) (xs : List DeadlineKey) → IsIndex indexed_deadline deadline_cmp es (x ∷ xs) → (e : Entry) → Has e es → (deadline_key e ≡ x) ⊎ (deadline_cmp x (deadline_key e) ≡ Less)
  first_less x xs i e h = elim (i.all e (deadline_key e) h refl) [
    | inl q ↦ inl q
    | inr g ↦ inr (all_has (λ y. deadline_cmp x y ≡ Less) xs (deadline_key e) i.ascends.0 g)
  ]

  with : (e : Entry) (a : ℕ) → deadline e ≡ Some a → deadline_key e ≡ waits_with (Some a) e
  with e a q = ap (λ o. waits_with o e) q

  later : (x : DeadlineKey) (xs : List DeadlineKey) → IsIndex indexed_deadline deadline_cmp es (x ∷ xs) → now < x.at → next_due now es ≡ None
  later x xs i l = none_due now es (λ e a h q.
      let at : (deadline_key e).at ≡ a = ap (λ (y : DeadlineKey). y.at) (with e a q) in
      elim (first_less x xs i e h) [
        | inl w ↦ let s : (deadline_key e).at ≡ x.at = ap (λ (y : DeadlineKey). y.at) w in omega (arith, l, s, at)
        | inr w ↦ let s : x.at ≤ (deadline_key e).at = not_later x.at (deadline_key e).at _ (nat_cmp x.at (deadline_key e).at) refl w in omega (arith, l, s, at)
      ])

  soon_is : (x : DeadlineKey) (xs : List DeadlineKey) → IsIndex indexed_deadline deadline_cmp es (x ∷ xs) → x.at ≤ now → (e : Entry) → Has e es → deadline_key e ≡ x → (o : Option ℕ) → deadline e ≡ o →
      Some (x.at, x.key) ≡ moment_and_key (next_due now es)
  soon_is x xs i l e h q None d =
      let at : (deadline_key e).at ≡ 2 ^ 128 - 1 = ap or_never d in
      let s : (deadline_key e).at ≡ x.at = ap (λ (y : DeadlineKey). y.at) q in
      absurd (omega (arith, at, s, l, few))
  soon_is x xs i l e h q (Some a) d =
      let is : x ≡ waits_with (Some a) e = sym q ∙ with e a d in
      let at : x.at ≡ a = ap (λ (y : DeadlineKey). y.at) is in
      let m : (y : Entry) (b : ℕ) → Has y es → deadline y ≡ Some b → (y.key ≡ e.key) ⊎ (deadline_cmp (waits_with (Some a) e) (waits_with (Some b) y) ≡ Less) =
      λ y b g s. elim (first_less x xs i y g) [
        | inl w ↦ inl (ap (λ (z : DeadlineKey). z.key) (w ∙ sym q))
        | inr w ↦ inr (subst (λ (z : DeadlineKey). deadline_cmp z (waits_with (Some b) y) ≡ Less) is (subst (λ (z : DeadlineKey). deadline_cmp x z ≡ Less) (with y b s) w))
      ] in
      let n : next_due now es ≡ Some (record { at = a; entry = e }) = least_next now a e d (omega (arith, at, l)) es h rises m in
      ap (λ (z : DeadlineKey). Some (z.at, z.key)) is ∙ ap moment_and_key (sym n)

  no_deadline : IsIndex indexed_deadline deadline_cmp es [] → next_due now es ≡ None
  no_deadline i = none_due now es (λ e a h q. absurd (i.all e (deadline_key e) h refl))

  pub next_first : (xs : List DeadlineKey) → IsIndex indexed_deadline deadline_cmp es xs → due_first now (slice_get xs 0) ≡ moment_and_key (next_due now es)
  next_first [] i = ap moment_and_key (sym (no_deadline i))
  next_first (x ∷ xs) i = by_test (nat_le x.at now) refl
    where
      by_test : (b : Bool) → nat_le x.at now ≡ b → cond b (Some (x.at, x.key)) None ≡ moment_and_key (next_due now es)
      by_test true t =
          let l : x.at ≤ now = grind (arith, nat_tests) in
          let u = i.only x (inl refl) in
          soon_is x xs i l u.0 u.1 (same_Some (deadline_key u.0) x u.2) (deadline u.0) refl
      by_test false t =
          let l : now < x.at = grind (arith, nat_tests) in
          ap moment_and_key (sym (later x xs i l))

-- the first that is due, and its transaction
pub next_is : (now : ℕ) (es : List Entry) → Rises (λ (x : Entry). x.key) es → (at k : ℕ) → Some (at, k) ≡ moment_and_key (next_due now es) → (x : Entry) → Some x ≡ by_key k es →
    Some (record { at = at; entry = x }) ≡ next_due now es
next_is now es r at k q x f = by_cases (next_due now es) refl q
  where
    by_cases : (o : Option DueEntryView) → next_due now es ≡ o → Some (at, k) ≡ moment_and_key o → Some (record { at = at; entry = x }) ≡ next_due now es
    by_cases None n s = absurd (none-some (at, k) (sym s))
    by_cases (Some n) e s =
        let pair : (at, k) ≡ (n.at, n.entry.key) = same_Some (at, k) (n.at, n.entry.key) s in
        let there = next_has now es n e in
        let found = find_has (is_of k) es x (sym f) in
        let key : x.key ≡ n.entry.key = eqb-true x.key k found.1 ∙ ap (λ (p : ℕ × ℕ). p.1) pair in
        let same : x ≡ n.entry = one_key es x n.entry r found.0 there.0 key in
        ap Some (ap (λ (a : ℕ). record { at = a; entry = x }) (ap (λ (p : ℕ × ℕ). p.0) pair) ∙ ap (λ (y : Entry). record { at = n.at; entry = y }) same) ∙ sym e

pub next_lost : (now : ℕ) (es : List Entry) → Rises (λ (x : Entry). x.key) es → (at k : ℕ) → Some (at, k) ≡ moment_and_key (next_due now es) → None ≡ by_key k es → ⊥
next_lost now es r at k q f = by_cases (next_due now es) refl q
  where
    by_cases : (o : Option DueEntryView) → next_due now es ≡ o → Some (at, k) ≡ moment_and_key o → ⊥
    by_cases None n s = none-some (at, k) (sym s)
    by_cases (Some n) e s =
        let pair : (at, k) ≡ (n.at, n.entry.key) = same_Some (at, k) (n.at, n.entry.key) s in
        find_misses (is_of k) es n.entry (sym f) ((next_has now es n e).0) (eq-eqb n.entry.key k (sym (ap (λ (p : ℕ × ℕ). p.1) pair)))

pub none_next : (now : ℕ) (es : List Entry) → None ≡ moment_and_key (next_due now es) → None ≡ next_due now es
none_next now es q = by_cases (next_due now es) q
  where
    by_cases : (o : Option DueEntryView) → None ≡ moment_and_key o → None ≡ o
    by_cases None s = refl
    by_cases (Some n) s = absurd (none-some _ s)

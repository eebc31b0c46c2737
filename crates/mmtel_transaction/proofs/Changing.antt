-- The tables of transactions where one is added, changed or removed.
use Rattle.std.proofs.Common.{◌≡◌, ℕ, suc, zero, ◌+◌, ◌≤◌, ◌<◌, Bool, true, false, cond, not, List, [], ◌∷◌, ◌++◌, length, get_or}
use Rattle.std.proofs.Common.{set, map, refl, sym, ap, ◌∙◌, subst, arith, ◌⊎◌, inl, inr, Some, None, Option, insert, remove}
use Rattle.std.specs.Prelude.{◌==◌, nat_lt, slice_get, count_by}
use Rattle.std.specs.List.{AllByRecursion, position, position_or_len}
use Rattle.std.specs.Cmp.Lexicographic.{slice_cmp}
use Rattle.std.specs.Ordering.{nat_cmp, ordering_then}
use Rattle.std.specs.declared.cmp.Ordering.{Ordering}
use Rattle.std.specs.declared.cmp.Ordering.TheVariants.{Less, Equal, Greater}
use Rattle.std.proofs.lemmas.Bool.Decides.{nat_tests}
use Rattle.std.proofs.lemmas.Cmp.{ranked}
use Rattle.std.proofs.lemmas.List.Edits.{length-insert, length-remove}
use Rattle.std.proofs.lemmas.List.Elements.{All-from_recursion}
use Rattle.std.proofs.lemmas.List.Sums.{sum_by-cons}
use Rattle.std.proofs.lemmas.Option.{none-some, same_Some, slice_get_within}
use Rattle.mmtel_timers.specs.Shelves.{Has, IsIndex, Rises}
use Rattle.mmtel_timers.proofs.Ordered.{all_has, not_both, Place}
use Rattle.mmtel_timers.proofs.Indexed.{Gains, Loses, Matches, index_in, index_out, index_past, index_same, index_without}
use Rattle.mmtel_transaction.specs.declared.entries.Entry.{Entry}
use Rattle.mmtel_transaction.specs.declared.match_keys.MatchKey.{MatchKey}
use Rattle.mmtel_transaction.specs.declared.match_keys.DeadlineKey.{DeadlineKey}
use Rattle.mmtel_transaction.specs.Results.{is_of}
use Rattle.mmtel_transaction.specs.Changes.{change_of_key, with_reliable_if}
use Rattle.mmtel_transaction.specs.Operations.{is_live}
use Rattle.mmtel_transaction.specs.Table.{table_after_change}
use Rattle.mmtel_transaction.specs.Indexes.{AreTables, call_match, client_match, deadline_cmp, deadline_key, indexed_call, indexed_client, indexed_deadline, indexed_server, match_cmp, server_match}
use Rattle.mmtel_transaction.proofs.Having.{has_append_back, has_left, has_map, has_map_back, has_right}
use Rattle.mmtel_transaction.proofs.Lists.{Keeps}
use Rattle.mmtel_transaction.proofs.Naming.{deadlines_total, matches_total}

abbrev pub key_of_entry : Entry → ℕ
key_of_entry e = e.key

-- one more at the end
last_back : (x e : Entry) (es : List Entry) → Has x (es ++ e ∷ []) → (x ≡ e) ⊎ Has x es
last_back x e es h = elim (has_append_back x es (e ∷ []) h) [
  | inl a ↦ inr a
  | inr b ↦ elim b [
    | inl q ↦ inl q
    | inr f ↦ absurd f
  ]
]

gains_last : (e : Entry) (es : List Entry) → Gains e es (es ++ e ∷ [])
gains_last e es = record { kept = λ x h. has_left x es (e ∷ []) h; added = has_right e es (e ∷ []) (inl refl); back = λ x h. last_back x e es h }

all_last : (P : Entry → Type 0) (es : List Entry) (e : Entry) → AllByRecursion P es → P e → AllByRecursion P (es ++ e ∷ [])
all_last P [] e a p = (p, tt)
all_last P (x ∷ es) e a p = (a.0, all_last P es e a.1 p)

pub rises_last : (es : List Entry) (e : Entry) → Rises key_of_entry es → ((x : Entry) → Has x es → x.key < e.key) → Rises key_of_entry (es ++ e ∷ [])
rises_last [] e r l = (tt, tt)
rises_last (x ∷ es) e r l = (all_last (λ y. x.key < y.key) es e r.0 (l x (inl refl)), rises_last es e r.1 (λ y h. l y (inr h)))

count_cons : (p : Entry → Bool) (x : Entry) (es : List Entry) → count_by p (x ∷ es) ≡ cond (p x) 1 0 + count_by p es
count_cons p x es = sum_by-cons (λ (y : Entry). cond (p y) 1 0) x es

pub count_last : (p : Entry → Bool) (es : List Entry) (e : Entry) → count_by p (es ++ e ∷ []) ≡ count_by p es + cond (p e) 1 0
count_last p [] e = omega (arith, count_cons p e [])
count_last p (x ∷ es) e = omega (arith, count_last p es e, count_cons p x (es ++ e ∷ []), count_cons p x es)

-- match keys, and deadline keys, that are equal in order have the same transaction number
last_key : (a b c : Ordering) (i j : ℕ) → ordering_then a (ordering_then b (ordering_then c (nat_cmp i j))) ≡ Equal → i ≡ j
last_key Less b c i j q = absurd cc
last_key Greater b c i j q = absurd cc
last_key Equal Less c i j q = absurd cc
last_key Equal Greater c i j q = absurd cc
last_key Equal Equal Less i j q = absurd cc
last_key Equal Equal Greater i j q = absurd cc
last_key Equal Equal Equal i j q = ranked i j Equal (sym q)

last_of_four : (a b c d : Ordering) (i j : ℕ) → ordering_then a (ordering_then b (ordering_then c (ordering_then d (nat_cmp i j)))) ≡ Equal → i ≡ j
last_of_four Less b c d i j q = absurd cc
last_of_four Greater b c d i j q = absurd cc
last_of_four Equal b c d i j q = last_key b c d i j q

last_of_five : (o a b c d : Ordering) (i j : ℕ) → ordering_then o (ordering_then a (ordering_then b (ordering_then c (ordering_then d (nat_cmp i j))))) ≡ Equal → i ≡ j
last_of_five Less a b c d i j q = absurd cc
last_of_five Greater a b c d i j q = absurd cc
last_of_five Equal a b c d i j q = last_of_four a b c d i j q

pub name_key : (x y : MatchKey) → match_cmp x y ≡ Equal → x.key ≡ y.key
name_key x y q = last_of_five (nat_cmp x.hash y.hash) (slice_cmp nat_cmp x.id y.id) (slice_cmp nat_cmp x.from y.from) (slice_cmp nat_cmp x.method y.method) (nat_cmp x.number y.number) x.key y.key q

pub waits_key : (x y : DeadlineKey) → deadline_cmp x y ≡ Equal → x.key ≡ y.key
waits_key x y q = last_key (nat_cmp x.at y.at) (nat_cmp x.step y.step) (nat_cmp x.order y.order) x.key y.key q

-- one number belongs to one transaction
pub one_key : (es : List Entry) (e d : Entry) → Rises key_of_entry es → Has e es → Has d es → e.key ≡ d.key → e ≡ d
one_key [] e d r h k q = absurd h
one_key (x ∷ es) e d r (inl a) (inl b) q = a ∙ sym b
one_key (x ∷ es) e d r (inl a) (inr k) q =
    let l : x.key < d.key = all_has (λ (y : Entry). x.key < y.key) es d r.0 k in
    let s : e.key ≡ x.key = ap key_of_entry a in
    absurd (omega (arith, l, s, q))
one_key (x ∷ es) e d r (inr h) (inl b) q =
    let l : x.key < e.key = all_has (λ (y : Entry). x.key < y.key) es e r.0 h in
    let s : d.key ≡ x.key = ap key_of_entry b in
    absurd (omega (arith, l, s, q))
one_key (x ∷ es) e d r (inr h) (inr k) q = one_key es e d r.1 h k q

-- those of other keys
abbrev pub rest : ℕ → List Entry → List Entry
rest k [] = []
rest k (e ∷ es) = cond (e.key == k) (rest k es) (e ∷ rest k es)

is_same : (i k : ℕ) → (i == k) ≡ true → i ≡ k
is_same i k q = grind (arith, nat_tests)

is_other : (i k : ℕ) → (i == k) ≡ false → i ≡ k → ⊥
is_other i k q e = let w : (i == k) ≡ true = grind (arith, nat_tests) in not_both (i == k) w q

is_equal : (i k : ℕ) → i ≡ k → (i == k) ≡ true
is_equal i k e = grind (arith, nat_tests)

rest_back : (k : ℕ) (e : Entry) (es : List Entry) → Has e (rest k es) → Has e es × (e.key ≡ k → ⊥)
rest_back k e [] h = absurd h
rest_back k e (x ∷ es) h = by_test (x.key == k) refl (rest_back k e es) h
  where
    by_test : (b : Bool) → (x.key == k) ≡ b → (Has e (rest k es) → Has e es × (e.key ≡ k → ⊥)) → Has e (cond b (rest k es) (x ∷ rest k es)) → Has e (x ∷ es) × (e.key ≡ k → ⊥)
    by_test true t ih g = let w = ih g in (inr w.0, w.1)
    by_test false t ih (inl q) = (inl q, λ s. is_other x.key k t (ap key_of_entry (sym q) ∙ s))
    by_test false t ih (inr g) = let w = ih g in (inr w.0, w.1)

rest_has : (k : ℕ) (e : Entry) (es : List Entry) → Has e es → (e.key == k) ≡ false → Has e (rest k es)
rest_has k e [] h n = absurd h
rest_has k e (x ∷ es) (inl q) n = first (x.key == k) (ap (λ (y : Entry). y.key == k) (sym q) ∙ n)
  where
    first : (b : Bool) → b ≡ false → Has e (cond b (rest k es) (x ∷ rest k es))
    first true t = absurd cc
    first false t = inl q
rest_has k e (x ∷ es) (inr h) n = later (x.key == k) (rest_has k e es h n)
  where
    later : (b : Bool) → Has e (rest k es) → Has e (cond b (rest k es) (x ∷ rest k es))
    later true g = g
    later false g = inr g

pub loses_rest : (k : ℕ) (old : Entry) (es : List Entry) → Rises key_of_entry es → Has old es → old.key ≡ k → Loses old es (rest k es)
loses_rest k old es r h q = record {
  kept = λ e g. by_test e g (e.key == k) refl;
  there = h;
  back = λ e g. (rest_back k e es g).0;
  gone = λ e g s. (rest_back k e es g).1 (ap key_of_entry s ∙ q);
}
  where
    by_test : (e : Entry) → Has e es → (b : Bool) → (e.key == k) ≡ b → (e ≡ old) ⊎ Has e (rest k es)
    by_test e g true t = inl (one_key es e old r g h (is_same e.key k t ∙ sym q))
    by_test e g false t = inr (rest_has k e es g t)

-- none has a key less than those that rise from above it
no_rest : (k : ℕ) (es : List Entry) → AllByRecursion (λ (y : Entry). k < y.key) es → rest k es ≡ es
no_rest k [] a = refl
no_rest k (e ∷ es) a =
    let l : k < e.key = a.0 in
    let n : (e.key == k) ≡ false = grind (arith, nat_tests) in
    rw (n, no_rest k es a.1) refl

-- what is true of all is true of those
all_rest : (P : Entry → Type 0) (k : ℕ) (es : List Entry) → AllByRecursion P es → AllByRecursion P (rest k es)
all_rest P k [] a = a
all_rest P k (e ∷ es) a = by_test (e.key == k) (all_rest P k es a.1)
  where
    by_test : (b : Bool) → AllByRecursion P (rest k es) → AllByRecursion P (cond b (rest k es) (e ∷ rest k es))
    by_test true ih = ih
    by_test false ih = (a.0, ih)

rises_rest : (k : ℕ) (es : List Entry) → Rises key_of_entry es → Rises key_of_entry (rest k es)
rises_rest k [] r = r
rises_rest k (e ∷ es) r = by_test (e.key == k) (rises_rest k es r.1)
  where
    by_test : (b : Bool) → Rises key_of_entry (rest k es) → Rises key_of_entry (cond b (rest k es) (e ∷ rest k es))
    by_test true ih = ih
    by_test false ih = (all_rest (λ (y : Entry). e.key < y.key) k es r.0, ih)

count_rest : (p : Entry → Bool) (k : ℕ) (old : Entry) (es : List Entry) → Rises key_of_entry es → Has old es → old.key ≡ k → count_by p (rest k es) + cond (p old) 1 0 ≡ count_by p es
count_rest p k old [] r h q = absurd h
count_rest p k old (x ∷ es) r (inl s) q =
    let key : x.key ≡ k = ap key_of_entry (sym s) ∙ q in
    let none : rest k es ≡ es = no_rest k es (subst (λ i. AllByRecursion (λ (y : Entry). i < y.key) es) key r.0) in
    let done : rest k (x ∷ es) ≡ es = rw (is_equal x.key k key) none in
    let a : count_by p (rest k (x ∷ es)) ≡ count_by p es = ap (count_by p) done in
    let b : ◌≡◌ {A = ℕ} (cond (p old) 1 0) (cond (p x) 1 0) = ap (λ (e : Entry). cond {A = ℕ} (p e) 1 0) s in
    omega (arith, a, b, count_cons p x es)
count_rest p k old (x ∷ es) r (inr h) q =
    let l : x.key < old.key = all_has (λ (y : Entry). x.key < y.key) es old r.0 h in
    let n : (x.key == k) ≡ false = grind (arith, nat_tests) in
    let ih = count_rest p k old es r.1 h q in
    let done : rest k (x ∷ es) ≡ x ∷ rest k es = rw n refl in
    let a : count_by p (rest k (x ∷ es)) ≡ count_by p (x ∷ rest k es) = ap (count_by p) done in
    omega (arith, a, count_cons p x (rest k es), ih, count_cons p x es)

-- transactions of which each changes, and keeps its match keys
module _ (f : Entry → Entry) (keeps : (e : Entry) → Keeps e (f e)) where
  all_mapped : (i : ℕ) (es : List Entry) → AllByRecursion (λ (y : Entry). i < y.key) es → AllByRecursion (λ (y : Entry). i < y.key) (map f es)
  all_mapped i [] a = a
  all_mapped i (e ∷ es) a = (subst (λ j. i < j) (sym ((keeps e).key)) a.0, all_mapped i es a.1)

  pub rises_mapped : (es : List Entry) → Rises key_of_entry es → Rises key_of_entry (map f es)
  rises_mapped [] r = r
  rises_mapped (e ∷ es) r = (subst (λ i. AllByRecursion (λ (y : Entry). i < y.key) (map f es)) (sym ((keeps e).key)) (all_mapped e.key es r.0), rises_mapped es r.1)

  count_mapped : (p : Entry → Bool) → ((e : Entry) → p (f e) ≡ p e) → (es : List Entry) → count_by p (map f es) ≡ count_by p es
  count_mapped p same [] = refl
  count_mapped p same (e ∷ es) = count_cons p (f e) (map f es) ∙ (ap (λ b. cond b 1 0 + count_by p (map f es)) (same e) ∙ (ap (λ c. cond (p e) 1 0 + c) (count_mapped p same es) ∙ sym (count_cons p e es)))

  matches_mapped : {X : Type 0} (item : Entry → Option X) → ((e : Entry) → item (f e) ≡ item e) → (es : List Entry) → Matches item es (map f es)
  matches_mapped item same es = record {
    there = λ e h. (f e, has_map f e es h, same e);
    back = λ d h. let w = has_map_back f d es h in (w.0, w.1, ap item w.2 ∙ same w.0);
  }

  server_kept : (e : Entry) → indexed_server (f e) ≡ indexed_server e
  server_kept e = let w = keeps e in rw (w.server, w.head, w.key) refl

  client_kept : (e : Entry) → indexed_client (f e) ≡ indexed_client e
  client_kept e = let w = keeps e in rw (w.server, w.head, w.key) refl

  call_kept : (e : Entry) → indexed_call (f e) ≡ indexed_call e
  call_kept e = let w = keeps e in rw (w.server, w.head, w.key) refl

  pub tables_mapped : (es : List Entry) (ss cs ts : List MatchKey) (ds fs : List DeadlineKey) → AreTables es ss cs ts ds → IsIndex indexed_deadline deadline_cmp (map f es) fs → AreTables (map f es) ss cs ts fs
  tables_mapped es ss cs ts ds fs t due = record {
    rises = rises_mapped es t.rises;
    servers = index_same indexed_server match_cmp matches_total es (map f es) ss t.servers (matches_mapped indexed_server server_kept es);
    clients = index_same indexed_client match_cmp matches_total es (map f es) cs t.clients (matches_mapped indexed_client client_kept es);
    calls = index_same indexed_call match_cmp matches_total es (map f es) ts t.calls (matches_mapped indexed_call call_kept es);
    due = due;
    server_count = t.server_count ∙ sym (count_mapped (λ (e : Entry). e.is_server) (λ e. (keeps e).server) es);
    client_count = t.client_count ∙ sym (count_mapped (λ (e : Entry). not e.is_server) (λ e. ap not ((keeps e).server)) es);
  }

of_waits : (es : List Entry) (old : Entry) → Rises key_of_entry es → Has old es → (e : Entry) → Has e es → indexed_deadline e ≡ Some (deadline_key old) → e ≡ old
of_waits es old r h e g s = one_key es e old r g h (ap (λ (y : DeadlineKey). y.key) (same_Some (deadline_key e) (deadline_key old) s))

-- the transaction of a key changes
module _ (k : ℕ) (f : Entry → Entry) where
  pub hit_own : (e : Entry) → e.key ≡ k → change_of_key k f e ≡ f e
  hit_own e q = rw (is_equal e.key k q) refl

  pub hit_other : (e : Entry) → (e.key == k) ≡ false → change_of_key k f e ≡ e
  hit_other e n = rw n refl

  none_hit : (es : List Entry) → AllByRecursion (λ (y : Entry). k < y.key) es → map (change_of_key k f) es ≡ es
  none_hit [] a = refl
  none_hit (e ∷ es) a =
      let l : k < e.key = a.0 in
      let n : (e.key == k) ≡ false = grind (arith, nat_tests) in
      rw (hit_other e n, none_hit es a.1) refl

  -- as it is at the position where it was changed
  pub set_hit : (es : List Entry) (i : ℕ) (d x : Entry) → Rises key_of_entry es → i < length es → (get_or es i d).key ≡ k → x ≡ f (get_or es i d) → set es i x ≡ map (change_of_key k f) es
  set_hit [] i d x r l q s = absurd (omega (arith, l))
  set_hit (e ∷ es) zero d x r l q s = ap (λ y. y ∷ es) (s ∙ sym (hit_own e q)) ∙ ap (λ ys. change_of_key k f e ∷ ys) (sym (none_hit es (subst (λ i. AllByRecursion (λ (y : Entry). i < y.key) es) q r.0)))
  set_hit (e ∷ es) (suc i) d x r l q s =
      let less : e.key < (get_or es i d).key = All-from_recursion (λ (y : Entry). e.key < y.key) es r.0 i d (omega (arith, l)) in
      let n : (e.key == k) ≡ false = grind (arith, nat_tests) in
      ap (λ ys. e ∷ ys) (set_hit es i d x r.1 (omega (arith, l)) q s) ∙ ap (λ y. y ∷ map (change_of_key k f) es) (sym (hit_other e n))

  gains_hit : (old : Entry) (es : List Entry) → Rises key_of_entry es → Has old es → old.key ≡ k → Gains (f old) (rest k es) (map (change_of_key k f) es)
  gains_hit old es r h q = record {
    kept = λ e g.
        let w = rest_back k e es g in
        subst (λ (y : Entry). Has y (map (change_of_key k f) es)) (hit_other e (other e.key k w.1)) (has_map (change_of_key k f) e es w.0);
    added = subst (λ (y : Entry). Has y (map (change_of_key k f) es)) (hit_own old q) (has_map (change_of_key k f) old es h);
    back = λ e g. let w = has_map_back (change_of_key k f) e es g in by_test e w.0 w.1 w.2 (w.0.key == k) refl;
  }
    where
      other : (i j : ℕ) → (i ≡ j → ⊥) → (i == j) ≡ false
      other i j n = either (i == j) refl
        where
          either : (b : Bool) → (i == j) ≡ b → (i == j) ≡ false
          either true t = absurd (n (is_same i j t))
          either false t = t

      by_test : (e x : Entry) → Has x es → e ≡ change_of_key k f x → (b : Bool) → (x.key == k) ≡ b → (e ≡ f old) ⊎ Has e (rest k es)
      by_test e x g s true t = inl (s ∙ (hit_own x (is_same x.key k t) ∙ ap f (one_key es x old r g h (is_same x.key k t ∙ sym q))))
      by_test e x g s false t = inr (subst (λ (y : Entry). Has y (rest k es)) (sym (s ∙ hit_other x t)) (rest_has k x es g t))

  -- its deadline key is removed at one position and inserted at another
  pub due_hit : (old : Entry) (es : List Entry) (ds : List DeadlineKey) (p q : ℕ) → Rises key_of_entry es → IsIndex indexed_deadline deadline_cmp es ds →
      Has old es → old.key ≡ k → slice_get ds p ≡ Some (deadline_key old) → Place deadline_cmp deadlines_total q (deadline_key (f old)) (remove ds p) →
      IsIndex indexed_deadline deadline_cmp (map (change_of_key k f) es) (insert (remove ds p) q (deadline_key (f old)))
  due_hit old es ds p q r due h key at place = index_in indexed_deadline deadline_cmp deadlines_total (f old) (deadline_key (f old)) (rest k es) (map (change_of_key k f) es) (remove ds p) q
      (index_out indexed_deadline deadline_cmp deadlines_total old (deadline_key old) es (rest k es) ds p due (loses_rest k old es r h key) refl (of_waits es old r h) at)
      (gains_hit old es r h key) refl place

  -- a change that ends the transaction removes it
  pub settle_over : (old : Entry) (es : List Entry) → Rises key_of_entry es → Has old es → old.key ≡ k → is_live (f old) ≡ false → table_after_change k f es ≡ rest k es
  settle_over old [] r h q o = absurd h
  settle_over old (x ∷ es) r (inl s) q o =
      let key : x.key ≡ k = ap key_of_entry (sym s) ∙ q in
      let dead : is_live (f x) ≡ false = ap (λ e. is_live (f e)) (sym s) ∙ o in
      rw (is_equal x.key k key, dead) (sym (no_rest k es (subst (λ i. AllByRecursion (λ (y : Entry). i < y.key) es) key r.0)))
  settle_over old (x ∷ es) r (inr h) q o =
      let l : x.key < old.key = all_has (λ (y : Entry). x.key < y.key) es old r.0 h in
      let n : (x.key == k) ≡ false = grind (arith, nat_tests) in
      rw (n, settle_over old es r.1 h q o) refl

-- where none has the key, none changes
absent_if : (k n : ℕ) (f : Entry → Entry) (e : Entry) (es : List Entry) (b : Bool) → suc (length es) ≤ cond (not b) (1 + n) 0 → (length es ≤ n → map (change_of_key k f) es ≡ es) →
    cond b (f e) e ∷ map (change_of_key k f) es ≡ e ∷ es
absent_if k n f e es true l ih = absurd (omega (arith, l))
absent_if k n f e es false l ih = ap (λ xs. e ∷ xs) (ih (omega (arith, l)))

absent_at : (k : ℕ) (f : Entry → Entry) (es : List Entry) → length es ≤ position_or_len (is_of k) es → map (change_of_key k f) es ≡ es
absent_at k f [] l = refl
absent_at k f (e ∷ es) l = absent_if k (position_or_len (is_of k) es) f e es (is_of k e) l (absent_at k f es)

past : (b : Bool) (n : ℕ) → cond b (Some n) None ≡ None → b ≡ false
past true n q = cc
past false n q = refl

pub not_hit : (k : ℕ) (f : Entry → Entry) (es : List Entry) → position (is_of k) es ≡ None → map (change_of_key k f) es ≡ es
not_hit k f es p =
    let w : nat_lt (position_or_len (is_of k) es) (length es) ≡ false = past (nat_lt (position_or_len (is_of k) es) (length es)) (position_or_len (is_of k) es) p in
    absent_at k f es (grind (arith, nat_tests))

-- where nothing changes
pub hit_none : (k : ℕ) (es : List Entry) → es ≡ map (change_of_key k (with_reliable_if None)) es
hit_none k [] = refl
hit_none k (e ∷ es) = either (e.key == k) (hit_none k es)
  where
    either : (b : Bool) → es ≡ map (change_of_key k (with_reliable_if None)) es → e ∷ es ≡ cond b e e ∷ map (change_of_key k (with_reliable_if None)) es
    either true ih = ap (λ xs. e ∷ xs) ih
    either false ih = ap (λ xs. e ∷ xs) ih

-- whose match key is an item
server_if : (e : Entry) (n x : MatchKey) (b : Bool) → cond b (Some n) None ≡ Some x → n ≡ x
server_if e n x true q = same_Some n x q
server_if e n x false q = absurd (none-some x q)

client_if : (e : Entry) (n x : MatchKey) (b : Bool) → cond b None (Some n) ≡ Some x → n ≡ x
client_if e n x false q = same_Some n x q
client_if e n x true q = absurd (none-some x q)

of_server : (es : List Entry) (old : Entry) → Rises key_of_entry es → Has old es → (e : Entry) → Has e es → indexed_server e ≡ Some (server_match old) → e ≡ old
of_server es old r h e g s = one_key es e old r g h (ap (λ (y : MatchKey). y.key) (server_if e (server_match e) (server_match old) e.is_server s))

of_call : (es : List Entry) (old : Entry) → Rises key_of_entry es → Has old es → (e : Entry) → Has e es → indexed_call e ≡ Some (call_match old) → e ≡ old
of_call es old r h e g s = one_key es e old r g h (ap (λ (y : MatchKey). y.key) (server_if e (call_match e) (call_match old) e.is_server s))

of_client : (es : List Entry) (old : Entry) → Rises key_of_entry es → Has old es → (e : Entry) → Has e es → indexed_client e ≡ Some (client_match old) → e ≡ old
of_client es old r h e g s = one_key es e old r g h (ap (λ (y : MatchKey). y.key) (client_if e (client_match e) (client_match old) e.is_server s))

one_less : (n m i : ℕ) → i + 1 ≡ n → n ≡ m → (j : ℕ) → j + 1 ≡ m → i ≡ j
one_less n m i a b j c = omega (arith, a, b, c)

abbrev is_a_server : Entry → Bool
is_a_server e = e.is_server

abbrev is_a_client : Entry → Bool
is_a_client e = not e.is_server

-- a server transaction ends: its match keys and its deadline key are removed
pub server_over : (k : ℕ) (old : Entry) (es : List Entry) (ss cs ts : List MatchKey) (ds : List DeadlineKey) (p q o : ℕ) → AreTables es ss cs ts ds → Has old es → old.key ≡ k → old.is_server ≡ true →
    slice_get ds p ≡ Some (deadline_key old) → slice_get ss q ≡ Some (server_match old) → slice_get ts o ≡ Some (call_match old) → AreTables (rest k es) (remove ss q) cs (remove ts o) (remove ds p)
server_over k old es ss cs ts ds p q o t h key kind at named called =
    let less : Loses old es (rest k es) = loses_rest k old es t.rises h key in
    let gone : count_by is_a_server (rest k es) + 1 ≡ count_by is_a_server es = subst (λ b. count_by is_a_server (rest k es) + cond b 1 0 ≡ count_by is_a_server es) kind (count_rest is_a_server k old es t.rises h key) in
    let stay : count_by is_a_client (rest k es) + 0 ≡ count_by is_a_client es =
    subst (λ b. count_by is_a_client (rest k es) + cond (not b) 1 0 ≡ count_by is_a_client es) kind (count_rest is_a_client k old es t.rises h key) in
    record {
      rises = rises_rest k es t.rises;
      servers = index_out indexed_server match_cmp matches_total old (server_match old) es (rest k es) ss q t.servers less (ap (λ b. cond b (Some (server_match old)) None) kind) (of_server es old t.rises h) named;
      clients = index_without indexed_client match_cmp matches_total old es (rest k es) cs t.clients less (ap (λ b. cond b None (Some (client_match old))) kind);
      calls = index_out indexed_call match_cmp matches_total old (call_match old) es (rest k es) ts o t.calls less (ap (λ b. cond b (Some (call_match old)) None) kind) (of_call es old t.rises h) called;
      due = index_out indexed_deadline deadline_cmp deadlines_total old (deadline_key old) es (rest k es) ds p t.due less refl (of_waits es old t.rises h) at;
      server_count = one_less (length ss) _ (length (remove ss q)) (length-remove ss q (slice_get_within ss q (server_match old) named)) t.server_count _ gone;
      client_count = omega (arith, t.client_count, stay);
    }

-- a client transaction ends: its match key and its deadline key are removed
pub client_over : (k : ℕ) (old : Entry) (es : List Entry) (ss cs ts : List MatchKey) (ds : List DeadlineKey) (p q : ℕ) → AreTables es ss cs ts ds → Has old es → old.key ≡ k → old.is_server ≡ false →
    slice_get ds p ≡ Some (deadline_key old) → slice_get cs q ≡ Some (client_match old) → AreTables (rest k es) ss (remove cs q) ts (remove ds p)
client_over k old es ss cs ts ds p q t h key kind at named =
    let less : Loses old es (rest k es) = loses_rest k old es t.rises h key in
    let stay : count_by is_a_server (rest k es) + 0 ≡ count_by is_a_server es = subst (λ b. count_by is_a_server (rest k es) + cond b 1 0 ≡ count_by is_a_server es) kind (count_rest is_a_server k old es t.rises h key) in
    let gone : count_by is_a_client (rest k es) + 1 ≡ count_by is_a_client es =
    subst (λ b. count_by is_a_client (rest k es) + cond (not b) 1 0 ≡ count_by is_a_client es) kind (count_rest is_a_client k old es t.rises h key) in
    record {
      rises = rises_rest k es t.rises;
      servers = index_without indexed_server match_cmp matches_total old es (rest k es) ss t.servers less (ap (λ b. cond b (Some (server_match old)) None) kind);
      clients = index_out indexed_client match_cmp matches_total old (client_match old) es (rest k es) cs q t.clients less (ap (λ b. cond b None (Some (client_match old))) kind) (of_client es old t.rises h) named;
      calls = index_without indexed_call match_cmp matches_total old es (rest k es) ts t.calls less (ap (λ b. cond b (Some (call_match old)) None) kind);
      due = index_out indexed_deadline deadline_cmp deadlines_total old (deadline_key old) es (rest k es) ds p t.due less refl (of_waits es old t.rises h) at;
      server_count = omega (arith, t.server_count, stay);
      client_count = one_less (length cs) _ (length (remove cs q)) (length-remove cs q (slice_get_within cs q (client_match old) named)) t.client_count _ gone;
    }

-- one more transaction
below : (e u : Entry) (n y : MatchKey) → n ≡ y → n.key ≡ u.key → u.key < e.key → y.key ≡ e.key → ⊥
below e u n y is own less same = let key : n.key ≡ y.key = ap (λ (z : MatchKey). z.key) is in omega (arith, key, own, less, same)

pub below_server : (e : Entry) (es : List Entry) (ss : List MatchKey) → IsIndex indexed_server match_cmp es ss → ((x : Entry) → Has x es → x.key < e.key) → (y : MatchKey) → Has y ss →
    match_cmp y (server_match e) ≡ Equal → ⊥
below_server e es ss i l y h q = let u = i.only y h in below e u.0 (server_match u.0) y (server_if u.0 (server_match u.0) y u.0.is_server u.2) refl (l u.0 u.1) (name_key y (server_match e) q)

pub below_client : (e : Entry) (es : List Entry) (cs : List MatchKey) → IsIndex indexed_client match_cmp es cs → ((x : Entry) → Has x es → x.key < e.key) → (y : MatchKey) → Has y cs →
    match_cmp y (client_match e) ≡ Equal → ⊥
below_client e es cs i l y h q = let u = i.only y h in below e u.0 (client_match u.0) y (client_if u.0 (client_match u.0) y u.0.is_server u.2) refl (l u.0 u.1) (name_key y (client_match e) q)

pub below_call : (e : Entry) (es : List Entry) (ts : List MatchKey) → IsIndex indexed_call match_cmp es ts → ((x : Entry) → Has x es → x.key < e.key) → (y : MatchKey) → Has y ts → match_cmp y (call_match e) ≡ Equal → ⊥
below_call e es ts i l y h q = let u = i.only y h in below e u.0 (call_match u.0) y (server_if u.0 (call_match u.0) y u.0.is_server u.2) refl (l u.0 u.1) (name_key y (call_match e) q)

pub below_waits : (e : Entry) (es : List Entry) (ds : List DeadlineKey) → IsIndex indexed_deadline deadline_cmp es ds → ((x : Entry) → Has x es → x.key < e.key) → (y : DeadlineKey) → Has y ds →
    deadline_cmp y (deadline_key e) ≡ Equal → ⊥
below_waits e es ds i l y h q =
    let u = i.only y h in
    let key : y.key ≡ u.0.key = ap (λ (z : DeadlineKey). z.key) (sym (same_Some (deadline_key u.0) y u.2)) in
    let same : y.key ≡ e.key = waits_key y (deadline_key e) q in
    let less : u.0.key < e.key = l u.0 u.1 in
    omega (arith, key, same, less)

module _ (e : Entry) (es : List Entry) (ss cs ts : List MatchKey) (ds : List DeadlineKey) (t : AreTables es ss cs ts ds) (above : (x : Entry) → Has x es → x.key < e.key) where
  scheduled_moment : (p : Entry → Bool) (b : Bool) → p e ≡ b → count_by p (es ++ e ∷ []) ≡ count_by p es + cond b 1 0
  scheduled_moment p b q = count_last p es e ∙ ap (λ c. count_by p es + cond c 1 0) q

  pub server_more : (p q o : ℕ) → e.is_server ≡ true → p ≤ length ss → Place match_cmp matches_total p (server_match e) ss → Place match_cmp matches_total o (call_match e) ts →
      Place deadline_cmp deadlines_total q (deadline_key e) ds → AreTables (es ++ e ∷ []) (insert ss p (server_match e)) cs (insert ts o (call_match e)) (insert ds q (deadline_key e))
  server_more p q o kind le place called due =
      let one : count_by is_a_server (es ++ e ∷ []) ≡ count_by is_a_server es + 1 = scheduled_moment is_a_server true kind in
      let none : count_by is_a_client (es ++ e ∷ []) ≡ count_by is_a_client es + 0 = scheduled_moment is_a_client false (ap not kind) in
      record {
        rises = rises_last es e t.rises above;
        servers = index_in indexed_server match_cmp matches_total e (server_match e) es (es ++ e ∷ []) ss p t.servers (gains_last e es) (ap (λ b. cond b (Some (server_match e)) None) kind) place;
        clients = index_past indexed_client match_cmp matches_total e es (es ++ e ∷ []) cs t.clients (gains_last e es) (ap (λ b. cond b None (Some (client_match e))) kind);
        calls = index_in indexed_call match_cmp matches_total e (call_match e) es (es ++ e ∷ []) ts o t.calls (gains_last e es) (ap (λ b. cond b (Some (call_match e)) None) kind) called;
        due = index_in indexed_deadline deadline_cmp deadlines_total e (deadline_key e) es (es ++ e ∷ []) ds q t.due (gains_last e es) refl due;
        server_count = omega (arith, length-insert ss p (server_match e) le, t.server_count, one);
        client_count = omega (arith, t.client_count, none);
      }

  pub client_more : (p q : ℕ) → e.is_server ≡ false → p ≤ length cs → Place match_cmp matches_total p (client_match e) cs → Place deadline_cmp deadlines_total q (deadline_key e) ds →
      AreTables (es ++ e ∷ []) ss (insert cs p (client_match e)) ts (insert ds q (deadline_key e))
  client_more p q kind le place due =
      let none : count_by is_a_server (es ++ e ∷ []) ≡ count_by is_a_server es + 0 = scheduled_moment is_a_server false kind in
      let one : count_by is_a_client (es ++ e ∷ []) ≡ count_by is_a_client es + 1 = scheduled_moment is_a_client true (ap not kind) in
      record {
        rises = rises_last es e t.rises above;
        servers = index_past indexed_server match_cmp matches_total e es (es ++ e ∷ []) ss t.servers (gains_last e es) (ap (λ b. cond b (Some (server_match e)) None) kind);
        clients = index_in indexed_client match_cmp matches_total e (client_match e) es (es ++ e ∷ []) cs p t.clients (gains_last e es) (ap (λ b. cond b None (Some (client_match e))) kind) place;
        calls = index_past indexed_call match_cmp matches_total e es (es ++ e ∷ []) ts t.calls (gains_last e es) (ap (λ b. cond b (Some (call_match e)) None) kind);
        due = index_in indexed_deadline deadline_cmp deadlines_total e (deadline_key e) es (es ++ e ∷ []) ds q t.due (gains_last e es) refl due;
        server_count = omega (arith, t.server_count, none);
        client_count = omega (arith, length-insert cs p (client_match e) le, t.client_count, one);
      }

-- The position of the transaction of a key among transactions whose keys rise.
use Rattle.std.proofs.Common.{◌≡◌, ℕ, zero, suc, ◌+◌, ◌-◌, ◌≤◌, ◌<◌, Bool, true, false, cond, not, List, [], ◌∷◌, length, get_or, set}
use Rattle.std.proofs.Common.{remove, ◌++◌, refl, sym, ap, ◌∙◌, subst, arith, inl, inr, Some, None, Option, Result, Ok, Err, IfOk, IfErr}
use Rattle.std.specs.Prelude.{◌==◌, nat_lt, slice_get, option_map, Box}
use Rattle.std.specs.List.{AllByRecursion, find, position, position_or_len}
use Rattle.std.specs.List.Sorted.{IsSearchInRange, IsBinarySearchResult}
use Rattle.std.specs.Ordering.{nat_cmp, ordering_index}
use Rattle.std.specs.declared.cmp.Ordering.TheVariants.{Less, Equal, Greater}
use Rattle.std.proofs.lemmas.Bool.{cases_lt, eq-eqb, eqb-true, false_from_ne_true}
use Rattle.std.proofs.lemmas.Bool.Decides.{nat_tests}
use Rattle.std.proofs.lemmas.Cmp.{ranked}
use Rattle.std.proofs.lemmas.List.{map-set}
use Rattle.std.proofs.lemmas.List.Folds.{find_at}
use Rattle.std.proofs.lemmas.List.Quantifiers.{position-Some}
use Rattle.std.proofs.lemmas.Option.{none-some, same_Some, slice_get-get_or, slice_get-map, slice_get_past}
use Rattle.std.proofs.lemmas.List.Elements.{All-from_recursion}
use Rattle.mmtel_timers.specs.Shelves.{Has, Rises, unboxed_items}
use Rattle.mmtel_timers.proofs.Lookups.{find_has, find_misses}
use Rattle.mmtel_timers.proofs.Unboxed.{length_unboxed, read_unboxed, remove_unboxed}
use Rattle.mmtel_transaction.specs.declared.entries.Entry.{Entry}
use Rattle.mmtel_transaction.specs.Results.{by_key, is_of}
use Rattle.mmtel_transaction.proofs.Changing.{one_key}

module _ {E : Type 0} (key : E → ℕ) where
  abbrev is : ℕ → E → Bool
  is k e = key e == k

  rises_at : (es : List E) (i j : ℕ) (d : E) → Rises key es → i < j → j < length es → key (get_or es i d) < key (get_or es j d)
  rises_at [] i j d r l lt = absurd (omega (arith, lt))
  rises_at (x ∷ es) i zero d r l lt = absurd (omega (arith, l))
  rises_at (x ∷ es) zero (suc j) d r l lt = All-from_recursion (λ (y : E). key x < key y) es r.0 j d (omega (arith, lt))
  rises_at (x ∷ es) (suc i) (suc j) d r l lt = rises_at es i j d r.1 (omega (arith, l)) (omega (arith, lt))

  never_falls : (es : List E) (i j : ℕ) (d : E) → Rises key es → i ≤ j → j < length es → key (get_or es i d) ≤ key (get_or es j d)
  never_falls es i j d r le lt = elim (cases_lt i j) [
    | inl l ↦ let m = rises_at es i j d r l lt in omega (arith, m)
    | inr g ↦ let same : i ≡ j = omega (arith, le, g) in let q : key (get_or es i d) ≡ key (get_or es j d) = ap (λ n. key (get_or es n d)) same in omega (arith, q)
  ]

  index_rises : (a b k : ℕ) → a ≤ b → ordering_index (nat_cmp a k) ≤ ordering_index (nat_cmp b k)
  index_rises a b k l = grind (arith, nat_tests)

  pos_at : (k : ℕ) (es : List E) (i : ℕ) (d : E) → Rises key es → i < length es → key (get_or es i d) ≡ k → position_or_len (is k) es ≡ i
  pos_at k [] i d r l q = absurd (omega (arith, l))
  pos_at k (x ∷ es) zero d r l q = let t : (key x == k) ≡ true = grind (arith, nat_tests) in rw t refl
  pos_at k (x ∷ es) (suc i) d r l q =
      let less : key x < key (get_or es i d) = All-from_recursion (λ (y : E). key x < key y) es r.0 i d (omega (arith, l)) in
      let t : (key x == k) ≡ false = grind (arith, nat_tests) in
      rw t (omega (arith, pos_at k es i d r.1 (omega (arith, l)) q))

  pos_none : (k : ℕ) (es : List E) → ((j : ℕ) (d : E) → j < length es → key (get_or es j d) ≡ k → ⊥) → position_or_len (is k) es ≡ length es
  pos_none k [] n = refl
  pos_none k (x ∷ es) n =
      let t : (key x == k) ≡ false = false_from_ne_true (key x == k) (λ q. n 0 x (omega arith) (grind (arith, nat_tests))) in
      rw t (omega (arith, pos_none k es (λ j d l q. n (suc j) d (omega (arith, l)) q)))

  at_len : (i n : ℕ) → i < n → nat_lt i n ≡ true
  at_len i n l = grind (arith, nat_tests)

  past_len : (n : ℕ) → nat_lt n n ≡ false
  past_len n = grind (arith, nat_tests)

  found_at : (k : ℕ) (es : List E) (i : ℕ) → Rises key es → i < length es → ((d : E) → nat_cmp (key (get_or es i d)) k ≡ Equal) → position (is k) es ≡ Some i
  found_at k [] i r l q = absurd (omega (arith, l))
  found_at k (x ∷ es) i r l q =
      let p : position_or_len (is k) (x ∷ es) ≡ i = pos_at k (x ∷ es) i x r l (ranked _ k Equal (sym (q x))) in
      ap (λ n. cond (nat_lt n (length (x ∷ es))) (Some n) None) p ∙ ap (λ b. cond b (Some i) None) (at_len i (length (x ∷ es)) l)

  pub placed : (k : ℕ) (es : List E) (i : ℕ) (e : E) → Rises key es → i < length es → e ≡ get_or es i e → key e ≡ k → position (is k) es ≡ Some i
  placed k es i e rises inside at same =
      let p : position_or_len (is k) es ≡ i = pos_at k es i e rises inside (ap key (sym at) ∙ same) in
      ap (λ n. cond (nat_lt n (length es)) (Some n) None) p ∙ ap (λ b. cond b (Some i) None) (at_len i (length es) inside)

  pub searched : (k : ℕ) (es : List E) (r : Result ℕ ℕ) → Rises key es → IsSearchInRange r (length es) → IsBinarySearchResult (λ (e : E). nat_cmp (key e) k) es r →
      record { found : IfOk r (λ i. position (is k) es ≡ Some i); absent : IfErr r (λ i. position (is k) es ≡ None) }
  searched k es (Ok i) rises range equal = record { found = found_at k es i rises range equal; absent = tt }
  searched k es (Err i) rises range parted =
      let parts = parted (λ i j d le lt. index_rises (key (get_or es i d)) (key (get_or es j d)) k (never_falls es i j d rises le lt)) in
      let p : position_or_len (is k) es ≡ length es = pos_none k es (λ j d l q. elim (cases_lt j i) [
        | inl m ↦ let less : key (get_or es j d) < k = ranked (key (get_or es j d)) k Less (sym (parts.0 j d (omega arith) m)) in omega (arith, less, q)
        | inr m ↦ let more : k < key (get_or es j d) = ranked (key (get_or es j d)) k Greater (sym (parts.1 j d m l)) in omega (arith, more, q)
      ]) in
      record {
        found = tt;
        absent = ap (λ n. cond (nat_lt n (length es)) (Some n) None) p ∙ ap (λ b. cond b (Some (length es)) None) (past_len (length es));
      }

-- the same of boxes
rises_boxed : {A : Type 0} (i : ℕ) (bs : List (Box Entry A)) → AllByRecursion (λ (e : Entry). i < e.key) (unboxed_items bs) → AllByRecursion (λ (b : Box Entry A). i < b.value.key) bs
rises_boxed i [] a = tt
rises_boxed i (b ∷ bs) a = (a.0, rises_boxed i bs a.1)

boxes_rise : {A : Type 0} (bs : List (Box Entry A)) → Rises (λ (e : Entry). e.key) (unboxed_items bs) → Rises (λ (b : Box Entry A). b.value.key) bs
boxes_rise [] r = tt
boxes_rise (b ∷ bs) r = (rises_boxed b.value.key bs r.0, boxes_rise bs r.1)

pos_unboxed : {A : Type 0} (k : ℕ) (bs : List (Box Entry A)) → position_or_len (is_of k) (unboxed_items bs) ≡ position_or_len (λ (b : Box Entry A). b.value.key == k) bs
pos_unboxed k [] = refl
pos_unboxed k (b ∷ bs) = ap (λ n. cond (not (b.value.key == k)) (1 + n) 0) (pos_unboxed k bs)

position_unboxed : {A : Type 0} (k : ℕ) (bs : List (Box Entry A)) → position (is_of k) (unboxed_items bs) ≡ position (λ (b : Box Entry A). b.value.key == k) bs
position_unboxed k bs = ap (λ n. cond (nat_lt n (length (unboxed_items bs))) (Some n) None) (pos_unboxed k bs)
    ∙ ap (λ m. cond (nat_lt (position_or_len (λ b. b.value.key == k) bs) m) (Some (position_or_len (λ b. b.value.key == k) bs)) None) (length_unboxed bs)

pub searched_boxes : {A : Type 0} (k : ℕ) (bs : List (Box Entry A)) (r : Result ℕ ℕ) → Rises (λ (e : Entry). e.key) (unboxed_items bs) →
    IsSearchInRange r (length bs) → IsBinarySearchResult (λ (b : Box Entry A). nat_cmp b.value.key k) bs r →
    record { found : IfOk r (λ i. position (is_of k) (unboxed_items bs) ≡ Some i); absent : IfErr r (λ i. position (is_of k) (unboxed_items bs) ≡ None) }
searched_boxes k bs (Ok i) rises range said =
    let w = searched (λ (b : Box Entry _). b.value.key) k bs (Ok i) (boxes_rise bs rises) range said in
    record { found = position_unboxed k bs ∙ w.found; absent = tt }
searched_boxes k bs (Err i) rises range said =
    let w = searched (λ (b : Box Entry _). b.value.key) k bs (Err i) (boxes_rise bs rises) range said in
    record { found = tt; absent = position_unboxed k bs ∙ w.absent }

-- a box of the key, at its position
pub placed_box : {A : Type 0} (k : ℕ) (bs : List (Box Entry A)) (i : ℕ) (b : Box Entry A) → Rises (λ (e : Entry). e.key) (unboxed_items bs) → i < length bs → b ≡ get_or bs i b → b.value.key ≡ k →
    position (is_of k) (unboxed_items bs) ≡ Some i
placed_box k bs i b rises inside at same = position_unboxed k bs ∙ placed (λ (c : Box Entry _). c.value.key) k bs i b (boxes_rise bs rises) inside at same

pub set_unboxed : {X A : Type 0} (bs : List (Box X A)) (i : ℕ) (b : Box X A) → unboxed_items (set bs i b) ≡ set (unboxed_items bs) i b.value
set_unboxed bs i b = map-set (λ c. c.value) bs i b

pub push_unboxed : {X A : Type 0} (bs : List (Box X A)) (b : Box X A) → unboxed_items (bs ++ b ∷ []) ≡ unboxed_items bs ++ b.value ∷ []
push_unboxed [] b = refl
push_unboxed (c ∷ bs) b = ap (λ xs. c.value ∷ xs) (push_unboxed bs b)

pub box_at : {A : Type 0} (k : ℕ) (bs : List (Box Entry A)) (i : ℕ) (b : Box Entry A) (x : Entry) → position (is_of k) (unboxed_items bs) ≡ Some i → b ≡ get_or bs i b → x ≡ b.value → x ≡ get_or (unboxed_items bs) i x
box_at k bs i b x at e q = read_unboxed bs i b x (unboxed_items bs) (position-Some (is_of k) (unboxed_items bs) i x at).0 e q refl

pub removed_boxed : {X A : Type 0} (bs cs : List (Box X A)) (i : ℕ) (b : Box X A) → cs ≡ remove (set bs i b) i → unboxed_items cs ≡ remove (set (unboxed_items bs) i b.value) i
removed_boxed bs cs i b e = ap unboxed_items e ∙ (remove_unboxed (set bs i b) i ∙ ap (λ xs. remove xs i) (set_unboxed bs i b))

-- the transaction of a key is the one at its position
pub found_there : (k : ℕ) (es : List Entry) (i : ℕ) (x : Entry) → position (is_of k) es ≡ Some i → x ≡ get_or es i x → Some x ≡ by_key k es
found_there k es i x at q =
    let inside : i < length es = (position-Some (is_of k) es i x at).0 in
    ap Some q ∙ (sym (slice_get-get_or es i x inside) ∙ (ap (slice_get es) (sym (place_of (nat_lt (position_or_len (is_of k) es) (length es)) (position_or_len (is_of k) es) at)) ∙ sym (find_at (is_of k) es)))
  where
    place_of : (b : Bool) (n : ℕ) → cond b (Some n) None ≡ Some i → n ≡ i
    place_of true n s = same_Some n i s
    place_of false n s = absurd (none-some i s)

pub not_there : (k : ℕ) (es : List Entry) → position (is_of k) es ≡ None → None ≡ by_key k es
not_there k es at = sym (find_at (is_of k) es ∙ slice_get_past es (position_or_len (is_of k) es) (past (nat_lt (position_or_len (is_of k) es) (length es)) refl at))
  where
    past : (b : Bool) → nat_lt (position_or_len (is_of k) es) (length es) ≡ b → cond b (Some (position_or_len (is_of k) es)) None ≡ None → length es ≤ position_or_len (is_of k) es
    past true l s = absurd (none-some (position_or_len (is_of k) es) (sym s))
    past false l s = grind (arith, nat_tests)

-- what is found by a test is found by its key
pub by_its_key : (q : Entry → Bool) (es : List Entry) (k : ℕ) → Rises (λ (e : Entry). e.key) es → Some k ≡ option_map (λ (e : Entry). e.key) (find q es) → by_key k es ≡ find q es
by_its_key q es k r s = by_cases (find q es) refl s
  where
    again : (e : Entry) → Has e es → e.key ≡ k → (o : Option Entry) → by_key k es ≡ o → o ≡ Some e
    again e h same None n = absurd (find_misses (is_of k) es e n h (eq-eqb e.key k same))
    again e h same (Some x) n =
        let f = find_has (is_of k) es x n in
        ap Some (one_key es x e r f.0 h (eqb-true x.key k f.1 ∙ sym same))

    by_cases : (o : Option Entry) → find q es ≡ o → Some k ≡ option_map (λ (e : Entry). e.key) o → by_key k es ≡ find q es
    by_cases None n s = absurd (none-some k (sym s))
    by_cases (Some e) n s =
        let f = find_has q es e n in
        again e f.0 (sym (same_Some k e.key s)) (by_key k es) refl ∙ sym n

pub nothing_found : (q : Entry → Bool) (es : List Entry) → None ≡ option_map (λ (e : Entry). e.key) (find q es) → None ≡ find q es
nothing_found q es s = by_cases (find q es) s
  where
    by_cases : (o : Option Entry) → None ≡ option_map (λ (e : Entry). e.key) o → None ≡ o
    by_cases None s = refl
    by_cases (Some e) s = absurd (none-some e.key s)

-- the last one, in its block
pub last_boxed : {A : Type 0} (bs : List (Box Entry A)) (b : Box Entry A) (x : Entry) → Some b ≡ slice_get bs (length bs - 1) → x ≡ b.value → slice_get (unboxed_items bs) (length (unboxed_items bs) - 1) ≡ Some x
last_boxed bs b x at is =
    ap (λ n. slice_get (unboxed_items bs) (n - 1)) (length_unboxed bs)
    ∙ (slice_get-map (λ (c : Box Entry _). c.value) bs (length bs - 1) ∙ (ap (option_map (λ (c : Box Entry _). c.value)) (sym at) ∙ ap Some (sym is)))

pub last_of_queue : {X : Type 0} (xs : List X) (x : X) (n : ℕ) → n ≡ length xs → 0 < n → x ≡ get_or xs (n - 1) x → Some x ≡ slice_get xs (length xs - 1)
last_of_queue xs x n long some at =
    let within : n - 1 < length xs = omega (arith, long, some) in
    ap Some at ∙ (sym (slice_get-get_or xs (n - 1) x within) ∙ ap (λ m. slice_get xs (m - 1)) long)

-- the last one has the greatest key
later_last : (x y : Entry) (es : List Entry) (last : Entry) → slice_get (x ∷ y ∷ es) (length (x ∷ y ∷ es) - 1) ≡ Some last → slice_get (y ∷ es) (length (y ∷ es) - 1) ≡ Some last
later_last x y es last q =
    let a : length (x ∷ y ∷ es) - 1 ≡ suc (length es) = omega arith in
    let b : length es ≡ length (y ∷ es) - 1 = omega arith in
    subst (λ n. slice_get (y ∷ es) n ≡ Some last) b (subst (λ n. slice_get (x ∷ y ∷ es) n ≡ Some last) a q)

pub last_greatest : (es : List Entry) (last : Entry) → Rises (λ (e : Entry). e.key) es → slice_get es (length es - 1) ≡ Some last → (k : ℕ) → last.key < k → (e : Entry) → Has e es → e.key < k
last_greatest [] last r q k l e h = absurd h
last_greatest (x ∷ []) last r q k l e (inl s) = let a : e.key ≡ last.key = ap (λ (y : Entry). y.key) (s ∙ same_Some x last q) in omega (arith, a, l)
last_greatest (x ∷ []) last r q k l e (inr f) = absurd f
last_greatest (x ∷ y ∷ es) last r q k l e (inr h) = last_greatest (y ∷ es) last r.1 (later_last x y es last q) k l e h
last_greatest (x ∷ y ∷ es) last r q k l e (inl s) =
    let a : e.key ≡ x.key = ap (λ (z : Entry). z.key) s in
    let b : x.key < y.key = r.0.0 in
    let c : y.key < k = last_greatest (y ∷ es) last r.1 (later_last x y es last q) k l y (inl refl) in
    omega (arith, a, b, c)

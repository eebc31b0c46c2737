-- The index, through each change: each call, or each conference, is found by each of its marks.
use Rattle.std.proofs.Common.{◌≡◌, ℕ, zero, suc, ◌+◌, ◌<◌, ◌≤◌, Bool, true, false, not, cond, List, [], ◌∷◌, ◌++◌}
use Rattle.std.proofs.Common.{length, get_or, Option, Some, None, refl, sym, ap, ◌∙◌, subst, arith, inl, inr, ◌⊎◌, drop, take}
use Rattle.std.proofs.lemmas.Bool.{and_from, and_parts, eq-eqb, eqb-true}
use Rattle.std.proofs.lemmas.Bool.Decides.{nat_tests}
use Rattle.std.proofs.lemmas.Cmp.{nat_cmp_total, ranked, tied_itself}
use Rattle.std.proofs.lemmas.List.{take_more}
use Rattle.std.proofs.lemmas.Option.{none-some, same_Some}
use Rattle.std.specs.Prelude.{◌||◌, ◌&&◌, ◌==◌, ⊤, filter, flat_map, is_some, nat_lt, position, remove, set, slice_get, IfSome}
use Rattle.std.specs.BTreeSet.{contains}
use Rattle.std.specs.BTreeMap.{is_at}
use Rattle.std.specs.List.{AllByRecursion, list_any, position_or_len}
use Rattle.std.specs.Option.{option_map}
use Rattle.std.specs.Ordering.{MatchOrdering, is_eq, is_gt, nat_cmp, ordering_then}
use Rattle.std.specs.declared.cmp.Ordering.{Ordering}
use Rattle.std.specs.declared.cmp.Ordering.TheVariants.{Less, Equal, Greater}
use Rattle.mmtel_output.specs.Marks.{AreBelow, AreMarked, AreUnmarked, Ascend, Has, Holds, HoldsAll, MarkUpdate, holds, is_same, key_cmp, key_of}
use Rattle.mmtel_output.specs.declared.index.Index.{Index}
use Rattle.mmtel_output.specs.declared.marks.Key.{Key}
use Rattle.mmtel_output.specs.declared.marks.Mark.{Mark}
use Rattle.mmtel_output.specs.declared.marks.Mark.TheVariants.{Branch, ClientTransaction, LocalTag, ServerTransaction}

-- ---- keys

kind_same : (m : Mark) (n : ℕ) → (key_of m n).kind ≡ (key_of m 0).kind
kind_same (Branch told) n = refl
kind_same (ClientTransaction told) n = refl
kind_same (ServerTransaction told) n = refl
kind_same (LocalTag told) n = refl

hash_same : (m : Mark) (n : ℕ) → (key_of m n).hash ≡ (key_of m 0).hash
hash_same (Branch told) n = refl
hash_same (ClientTransaction told) n = refl
hash_same (ServerTransaction told) n = refl
hash_same (LocalTag told) n = refl

owner_is : (m : Mark) (n : ℕ) → (key_of m n).owner ≡ n
owner_is (Branch told) n = refl
owner_is (ClientTransaction told) n = refl
owner_is (ServerTransaction told) n = refl
owner_is (LocalTag told) n = refl

module _ (k t c l u d : ℕ) where
  abbrev UpTo : Type 0
  UpTo = (k < l) ⊎ ((k ≡ l) × ((t < u) ⊎ ((t ≡ u) × (c ≤ d))))

  up_to : is_gt (ordering_then (nat_cmp k l) (ordering_then (nat_cmp t u) (nat_cmp c d))) ≡ false → UpTo
  up_to = first (nat_cmp k l) (ranked k l (nat_cmp k l) refl)
    where
      third : (o : Ordering) → MatchOrdering o (c < d) (c ≡ d) (d < c) → is_gt o ≡ false → c ≤ d
      third Less r e = omega (arith, r)
      third Equal r e = omega (arith, r)
      third Greater r e = absurd (let f : true ≡ false = e in cc)

      second : (o : Ordering) → MatchOrdering o (t < u) (t ≡ u) (u < t) → is_gt (ordering_then o (nat_cmp c d)) ≡ false → (t < u) ⊎ ((t ≡ u) × (c ≤ d))
      second Less r e = inl r
      second Equal r e = inr (r, third (nat_cmp c d) (ranked c d (nat_cmp c d) refl) e)
      second Greater r e = absurd (let f : true ≡ false = e in cc)

      first : (o : Ordering) → MatchOrdering o (k < l) (k ≡ l) (l < k) → is_gt (ordering_then o (ordering_then (nat_cmp t u) (nat_cmp c d))) ≡ false → UpTo
      first Less r e = inl r
      first Equal r e = inr (r, second (nat_cmp t u) (ranked t u (nat_cmp t u) refl) e)
      first Greater r e = absurd (let f : true ≡ false = e in cc)

reached : (k t n : ℕ) → is_gt (ordering_then (nat_cmp k k) (ordering_then (nat_cmp t t) (nat_cmp 0 n))) ≡ false
reached k t n =
    ap (λ o. is_gt (ordering_then o (ordering_then (nat_cmp t t) (nat_cmp 0 n)))) (tied_itself nat_cmp_total k)
    ∙ (ap (λ o. is_gt (ordering_then o (nat_cmp 0 n))) (tied_itself nat_cmp_total t) ∙ low (nat_cmp 0 n) (ranked 0 n (nat_cmp 0 n) refl))
  where
    low : (o : Ordering) → MatchOrdering o (0 < n) (0 ≡ n) (n < 0) → is_gt o ≡ false
    low Less r = refl
    low Equal r = refl
    low Greater r = absurd (omega (arith, r))

in_reach : (m : Mark) (n : ℕ) → is_gt (key_cmp (key_of m 0) (key_of m n)) ≡ false
in_reach (Branch told) n = reached 0 told n
in_reach (ClientTransaction told) n = reached 1 told n
in_reach (ServerTransaction told) n = reached 2 told n
in_reach (LocalTag told) n = reached 3 told n

-- the first key of a mark has that mark, and the least of its numbers
least : (k t c l u d n : ℕ) → UpTo k t 0 l u d → UpTo l u d k t n → (l ≡ k) × (u ≡ t) × (d ≤ n)
least k t c l u d n a b = elim a [
  | inl x ↦ elim b [
    | inl y ↦ absurd (omega (arith, x, y))
    | inr y ↦ let h = y.0 in absurd (omega (arith, x, h))
  ]
  | inr x ↦ elim b [
    | inl y ↦ let h = x.0 in absurd (omega (arith, h, y))
    | inr y ↦ elim x.1 [
      | inl v ↦ elim y.1 [
        | inl w ↦ absurd (omega (arith, v, w))
        | inr w ↦ let h = w.0 in absurd (omega (arith, v, h))
      ]
      | inr v ↦ elim y.1 [
        | inl w ↦ let h = v.0 in absurd (omega (arith, h, w))
        | inr w ↦ (y.0, w.0, w.1)
      ]
    ]
  ]
]

module _ (m : Mark) (n : ℕ) (first : Key) where
  abbrev IsFirst : Type 0
  IsFirst = (first.kind ≡ (key_of m 0).kind) × (first.hash ≡ (key_of m 0).hash) × (first.owner ≤ n)

  pub is_first : is_gt (key_cmp (key_of m 0) first) ≡ false → is_gt (key_cmp first (key_of m n)) ≡ false → IsFirst
  is_first low high =
      let from = key_of m 0 in
      let a = up_to from.kind from.hash from.owner first.kind first.hash first.owner low in
      let b = up_to first.kind first.hash first.owner (key_of m n).kind (key_of m n).hash (key_of m n).owner high in
      least from.kind from.hash 0 first.kind first.hash first.owner n
      (subst (λ (c : ℕ). UpTo from.kind from.hash c first.kind first.hash first.owner) (owner_is m 0) a)
      (subst (λ (k : ℕ). UpTo first.kind first.hash first.owner k from.hash n) (kind_same m n)
      (subst (λ (t : ℕ). UpTo first.kind first.hash first.owner (key_of m n).kind t n) (hash_same m n)
      (subst (λ (c : ℕ). UpTo first.kind first.hash first.owner (key_of m n).kind (key_of m n).hash c) (owner_is m n) b)))

-- a key that is to be deleted is not held
abbrev goes : Index → Key → Bool
goes index q = list_any (is_same q) index.pending_removals.items

-- a key is held where one is missing, or where it is in the index and not to be deleted
held : (index : Index) (q : Key) → (not index.is_complete || (contains key_cmp index.keys q && not (goes index q))) ≡ true → Holds index q
unfolding holds
held index q e = e

held_by : (index : Index) (q : Key) → Holds index q → (not index.is_complete || (contains key_cmp index.keys q && not (goes index q))) ≡ true
unfolding holds
held_by index q e = e

-- what the range from a mark on implies for the first of it
module _ (index : Index) (m : Mark) (whole : index.is_complete ≡ true) (n : ℕ) (there : Holds index (key_of m n)) where
  kept_there : contains key_cmp index.keys (key_of m n) ≡ true
  kept_there = (and_parts (contains key_cmp index.keys (key_of m n)) (not (goes index (key_of m n)))
      (ap (λ (w : Bool). not w || (contains key_cmp index.keys (key_of m n) && not (goes index (key_of m n)))) (sym whole) ∙ held_by index (key_of m n) there)).0

  pub no_first : {G : Type 0} → ((q : Key) → (is_gt (key_cmp (key_of m 0) q) ≡ false) × ⊤ → contains key_cmp index.keys q ≡ false) → G
  no_first none = absurd (let e : true ≡ false = sym kept_there ∙ none (key_of m n) (in_reach m n, tt) in cc)

  pub first_at : (r : List Key) (first : Key) (t : List Key) → r ≡ first ∷ t → IfSome (slice_get r 0) (λ k. ((is_gt (key_cmp (key_of m 0) k) ≡ false) × ⊤) × (contains key_cmp index.keys k ≡ true))
      → ((q : Key) → (is_gt (key_cmp (key_of m 0) q) ≡ false) × ⊤ → contains key_cmp index.keys q ≡ true → IfSome (slice_get r 0) (λ k. is_gt (key_cmp k q) ≡ false)) → IsFirst m n first
  first_at r first t is within all =
      is_first m n first
      (subst (λ (l : List Key). IfSome (slice_get l 0) (λ k. ((is_gt (key_cmp (key_of m 0) k) ≡ false) × ⊤) × (contains key_cmp index.keys k ≡ true))) is within).0.0
      (subst (λ (l : List Key). IfSome (slice_get l 0) (λ k. is_gt (key_cmp k (key_of m n)) ≡ false)) is (all (key_of m n) (in_reach m n, tt) kept_there))

-- ---- a mark is inserted, or removed

then_equal : (o p : Ordering) → ordering_then o p ≡ Equal → p ≡ Equal
then_equal Less p e = absurd (let f : Less ≡ Equal = e in cc)
then_equal Equal p e = e
then_equal Greater p e = absurd (let f : Greater ≡ Equal = e in cc)

same_owner : (x y : Key) → key_cmp x y ≡ Equal → x.owner ≡ y.owner
same_owner x y e = ranked x.owner y.owner Equal (sym (then_equal (nat_cmp x.hash y.hash) _ (then_equal (nat_cmp x.kind y.kind) _ e)))

not_at : (m : Mark) (n : ℕ) (q : Key) → (q.owner ≡ n → ⊥) → is_at (key_cmp (key_of m n)) q ≡ false
not_at m n q other = go (key_cmp (key_of m n) q) refl
  where
    go : (o : Ordering) → key_cmp (key_of m n) q ≡ o → is_eq o ≡ false
    go Less e = refl
    go Equal e = absurd (other (sym (same_owner (key_of m n) q e) ∙ owner_is m n))
    go Greater e = refl

first_equal : (o p : Ordering) → ordering_then o p ≡ Equal → o ≡ Equal
first_equal Less p e = absurd (let f : Less ≡ Equal = e in cc)
first_equal Equal p e = refl
first_equal Greater p e = absurd (let f : Greater ≡ Equal = e in cc)

-- keys that are equal in order are the same
one_key : (x q : Key) → key_cmp x q ≡ Equal → is_same q x ≡ true
one_key x q e =
    let rest = then_equal (nat_cmp x.kind q.kind) _ e in
    let kind : x.kind ≡ q.kind = ranked x.kind q.kind Equal (sym (first_equal (nat_cmp x.kind q.kind) _ e)) in
    let told : x.hash ≡ q.hash = ranked x.hash q.hash Equal (sym (first_equal (nat_cmp x.hash q.hash) _ rest)) in
    and_from _ _ (and_from _ _ (eq-eqb q.kind x.kind (sym kind)) (eq-eqb q.hash x.hash (sym told))) (eq-eqb q.owner x.owner (sym (same_owner x q e)))

pub same_at : (x q : Key) → is_same q x ≡ false → is_at (key_cmp x) q ≡ false
same_at x q other = go (key_cmp x q) refl
  where
    go : (o : Ordering) → key_cmp x q ≡ o → is_eq o ≡ false
    go Less e = refl
    go Equal e = absurd (let f : true ≡ false = sym (one_key x q e) ∙ other in cc)
    go Greater e = refl

-- keys of two owners differ
owners_differ : (x q : Key) → (q.owner ≡ x.owner → ⊥) → is_same q x ≡ false
owners_differ x q other = go (is_same q x) refl
  where
    go : (b : Bool) → is_same q x ≡ b → is_same q x ≡ false
    go true e = absurd (other (eqb-true q.owner x.owner (and_parts ((q.kind == x.kind) && (q.hash == x.hash)) (q.owner == x.owner) e).1))
    go false e = e

-- a key is not to be deleted where it is neither among those that are nor the last of them
neither : (a b : Bool) → (a || b) ≡ false → (a ≡ false) × (b ≡ false)
neither true b e = absurd (let f : true ≡ false = e in cc)
neither false b e = (refl, e)

both_not : (a b : Bool) → a ≡ false → b ≡ false → (a || b) ≡ false
both_not true b e f = absurd (let g : true ≡ false = e in cc)
both_not false b e f = f

pub last_goes : (k : Key) (ks : List Key) (x : Key) → list_any (is_same k) (ks ++ x ∷ []) ≡ false → (list_any (is_same k) ks ≡ false) × (is_same k x ≡ false)
last_goes k [] x e = (refl, (neither (is_same k x) false e).0)
last_goes k (y ∷ ks) x e =
    let w = neither (is_same k y) (list_any (is_same k) (ks ++ x ∷ [])) e in
    let v = last_goes k ks x w.1 in
    (both_not (is_same k y) (list_any (is_same k) ks) w.0 v.0, v.1)

stays_with : (k : Key) (ks : List Key) (x : Key) → list_any (is_same k) ks ≡ false → is_same k x ≡ false → list_any (is_same k) (ks ++ x ∷ []) ≡ false
stays_with k [] x e f = both_not (is_same k x) false f refl
stays_with k (y ∷ ks) x e f =
    let w = neither (is_same k y) (list_any (is_same k) ks) e in
    both_not (is_same k y) (list_any (is_same k) (ks ++ x ∷ [])) w.0 (stays_with k ks x w.1 f)

module _ (x : Key) where
  abbrev pub kept_of : List Key → List Key
  kept_of ks = filter (λ k. not (is_same x k)) ks

  -- what is still to be deleted where one key no longer is, was to be deleted before
  stays_in : (k : Key) (ks : List Key) → list_any (is_same k) ks ≡ false → list_any (is_same k) (kept_of ks) ≡ false
  stays_in k [] e = refl
  stays_in k (y ∷ ks) e = let w = neither (is_same k y) (list_any (is_same k) ks) e in go (is_same x y) w.0 (stays_in k ks w.1)
    where
      go : (b : Bool) → is_same k y ≡ false → list_any (is_same k) (kept_of ks) ≡ false → list_any (is_same k) (cond (not b) (y ∷ kept_of ks) (kept_of ks)) ≡ false
      go true f rest = rest
      go false f rest = both_not (is_same k y) (list_any (is_same k) (kept_of ks)) f rest

  stays_itself : (ks : List Key) → list_any (is_same x) (kept_of ks) ≡ false
  stays_itself [] = refl
  stays_itself (y ∷ ks) = go (is_same x y) refl (stays_itself ks)
    where
      go : (b : Bool) → is_same x y ≡ b → list_any (is_same x) (kept_of ks) ≡ false → list_any (is_same x) (cond (not b) (y ∷ kept_of ks) (kept_of ks)) ≡ false
      go true e rest = rest
      go false e rest = both_not (is_same x y) (list_any (is_same x) (kept_of ks)) e rest

-- still held, where what was in the index and not to be deleted still is
module _ (old new : Index) (whole : new.is_complete ≡ old.is_complete) (q : Key) (stands : contains key_cmp old.keys q ≡ true → goes old q ≡ false → (contains key_cmp new.keys q ≡ true) × (goes new q ≡ false)) where
  held_on : Holds old q → Holds new q
  held_on h = held new q (go old.is_complete new.is_complete whole (held_by old q h))
    where
      not_true : (b : Bool) → not b ≡ true → b ≡ false
      not_true true e = absurd (let f : false ≡ true = e in cc)
      not_true false e = refl

      go : (w v : Bool) → v ≡ w → (not w || (contains key_cmp old.keys q && not (goes old q))) ≡ true → (not v || (contains key_cmp new.keys q && not (goes new q))) ≡ true
      go false v e h = ap (λ x. not x || (contains key_cmp new.keys q && not (goes new q))) e
      go true v e h =
          let w = and_parts (contains key_cmp old.keys q) (not (goes old q)) h in
          let s = stands w.0 (not_true (goes old q) w.1) in
          ap (λ x. not x || (contains key_cmp new.keys q && not (goes new q))) e ∙ and_from _ _ s.0 (ap not s.1)

holds_so : (v b g : Bool) → b ≡ true → g ≡ false → (not v || (b && not g)) ≡ true
holds_so false b g e f = refl
holds_so true b g e f = and_from _ _ e (ap not f)

either_way : (b : Bool) → cond b true true ≡ true
either_way false = refl
either_way true = refl

-- what was to be deleted is deleted
pub index_after_removal : (old new : Index) (q : Key) → new.is_complete ≡ old.is_complete → new.pending_removals.items ≡ [] →
    ((k : Key) → contains key_cmp old.keys k ≡ true → goes old k ≡ false → contains key_cmp new.keys k ≡ true) → Holds old q → Holds new q
index_after_removal old new q whole gone others h = held_on old new whole q (λ there stays. (others q there stays, ap (list_any (is_same q)) gone)) h

module _ (m : Mark) (n : ℕ) (old new : Index) where
  pub put_in : (s : Bool) → new.is_complete ≡ old.is_complete → ((q : Key) → contains key_cmp new.keys q ≡ cond (is_at (key_cmp (key_of m n)) q) true (contains key_cmp old.keys q))
      → contains key_cmp new.keys (key_of m n) ≡ true → new.pending_removals.items ≡ kept_of (key_of m n) old.pending_removals.items → MarkUpdate s n (m ∷ []) old new
  put_in s whole puts there stay_on = record {
    others = λ q other h. stay q h;
    kept = λ e q h. stay q h;
    noted = λ e x has. elim has [
      | inl f ↦ subst (λ (z : Mark). Holds new (key_of z n)) (sym f)
          (held new (key_of m n)
          (holds_so new.is_complete (contains key_cmp new.keys (key_of m n)) (goes new (key_of m n)) there (ap (list_any (is_same (key_of m n))) stay_on ∙ stays_itself (key_of m n) old.pending_removals.items)))
      | inr f ↦ absurd f
    ];
  }
    where
      stay : (q : Key) → Holds old q → Holds new q
      stay q h = held_on old new whole q (λ e g. (
        puts q ∙ (ap (λ (x : Bool). cond (is_at (key_cmp (key_of m n)) q) true x) e ∙ either_way (is_at (key_cmp (key_of m n)) q)),
        ap (list_any (is_same q)) stay_on ∙ stays_in (key_of m n) q old.pending_removals.items g,
      )) h

  -- a key is to be deleted from now on, or is deleted at once where memory runs out
  pub goes_on : (mid : Index) → ((q : Key) → Holds old q → Holds mid q) → new.is_complete ≡ mid.is_complete → new.keys ≡ mid.keys →
      new.pending_removals.items ≡ mid.pending_removals.items ++ key_of m n ∷ [] → MarkUpdate false n (m ∷ []) old new
  goes_on mid before whole same more = record {
    others = λ q other h. held_on mid new whole q (λ e g. (
      ap (λ k. contains key_cmp k q) same ∙ e,
      ap (list_any (is_same q)) more ∙ stays_with q mid.pending_removals.items (key_of m n) g (owners_differ (key_of m n) q (λ o. other (o ∙ owner_is m n))),
    )) (before q h);
    kept = λ e. absurd (let f : false ≡ true = e in cc);
    noted = λ e. absurd (let f : false ≡ true = e in cc);
  }

  pub put_out : (mid : Index) → ((q : Key) → Holds old q → Holds mid q) → new.is_complete ≡ mid.is_complete →
      ((q : Key) → is_at (key_cmp (key_of m n)) q ≡ false → contains key_cmp new.keys q ≡ contains key_cmp mid.keys q) → new.pending_removals.items ≡ mid.pending_removals.items →
      MarkUpdate false n (m ∷ []) old new
  put_out mid before whole takes same = record {
    others = λ q other h. held_on mid new whole q (λ e g. (takes q (not_at m n q other) ∙ e, ap (list_any (is_same q)) same ∙ g)) (before q h);
    kept = λ e. absurd (let f : false ≡ true = e in cc);
    noted = λ e. absurd (let f : false ≡ true = e in cc);
  }

  pub broken : (s : Bool) → new.is_complete ≡ false → MarkUpdate s n (m ∷ []) old new
  broken s whole = record {
    others = λ q other h. all q;
    kept = λ e q h. all q;
    noted = λ e x has. all (key_of x n);
  }
    where
      all : (q : Key) → Holds new q
      all q = held new q (ap (λ (w : Bool). not w || (contains key_cmp new.keys q && not (goes new q))) whole)

-- ---- several marks

has_either : {X : Type 0} (x : X) (xs ys : List X) → Has x (xs ++ ys) → Has x xs ⊎ Has x ys
has_either x [] ys h = inr h
has_either x (y ∷ xs) ys h = elim h [
  | inl e ↦ inl (inl e)
  | inr g ↦ elim (has_either x xs ys g) [
    | inl a ↦ inl (inr a)
    | inr b ↦ inr b
  ]
]

pub none_written : (s : Bool) (n : ℕ) (index : Index) → MarkUpdate s n [] index index
none_written s n index = record { others = λ q other h. h; kept = λ e q h. h; noted = λ e x has. absurd has }

pub joined : (s : Bool) (n : ℕ) (xs ys : List Mark) (i j k : Index) → MarkUpdate s n xs i j → MarkUpdate s n ys j k → MarkUpdate s n (xs ++ ys) i k
joined s n xs ys i j k a b = record {
  others = λ q other h. b.others q other (a.others q other h);
  kept = λ e q h. b.kept e q (a.kept e q h);
  noted = λ e x has. elim (has_either x xs ys has) [
    | inl f ↦ b.kept e (key_of x n) (a.noted e x f)
    | inr f ↦ b.noted e x f
  ];
}

flat_more : {X Y : Type 0} (f : X → List Y) (xs : List X) (x : X) → flat_map f xs ++ f x ≡ flat_map f (xs ++ x ∷ [])
flat_more f [] x = nil (f x)
  where
    nil : {Y : Type 0} (ys : List Y) → ys ≡ ys ++ []
    nil [] = refl
    nil (y ∷ ys) = ap (λ l. y ∷ l) (nil ys)
flat_more f (y ∷ ys) x = assoc (f y) (flat_map f ys) (f x) ∙ ap (λ l. f y ++ l) (flat_more f ys x)
  where
    assoc : {Y : Type 0} (xs ys zs : List Y) → (xs ++ ys) ++ zs ≡ xs ++ (ys ++ zs)
    assoc [] ys zs = refl
    assoc (x ∷ xs) ys zs = ap (λ l. x ∷ l) (assoc xs ys zs)

-- one more mark of a list
pub one_written : {X : Type 0} (f : X → List Mark) (s : Bool) (n : ℕ) (xs : List X) (x : X) (i j k : Index) → MarkUpdate s n (flat_map f xs) i j → MarkUpdate s n (f x) j k → MarkUpdate s n (flat_map f (xs ++ x ∷ [])) i k
one_written f s n xs x i j k a b = subst (λ (l : List Mark). MarkUpdate s n l i k) (flat_more f xs x) (joined s n (flat_map f xs) (f x) i j k a b)

pub step_written : {X : Type 0} (f : X → List Mark) (s : Bool) (n : ℕ) (xs : List X) (at : ℕ) (x : X) (i j k : Index) → at < length xs → x ≡ get_or xs at x
    → MarkUpdate s n (flat_map f (take at xs)) i j → MarkUpdate s n (f x) j k → MarkUpdate s n (flat_map f (take (at + 1) xs)) i k
step_written f s n xs at x i j k l is a b =
    subst (λ (ys : List _). MarkUpdate s n (flat_map f ys) i k) (sym (take_more xs at x l ∙ ap (λ y. take at xs ++ y ∷ []) (sym is))) (one_written f s n (take at xs) x i j k a b)

pub step_at : {X : Type 0} (f : X → List Mark) (s : Bool) (n : ℕ) (xs : List X) (at : ℕ) (d : X) (i j k : Index) → at < length xs
    → MarkUpdate s n (flat_map f (take at xs)) i j → MarkUpdate s n (f (get_or xs at d)) j k → MarkUpdate s n (flat_map f (take (at + 1) xs)) i k
step_at f s n xs at d i j k l a b = subst (λ (ys : List _). MarkUpdate s n (flat_map f ys) i k) (sym (take_more xs at d l)) (one_written f s n (take at xs) (get_or xs at d) i j k a b)

-- ---- owners, whose numbers ascend

module _ {X : Type 0} (number : X → ℕ) where
  lowered : (low lower high : ℕ) (xs : List X) → lower ≤ low → Ascend number low xs high → Ascend number lower xs high
  lowered low lower high [] e a = omega arith
  lowered low lower high (x ∷ xs) e a = (let h = a.0 in omega arith, a.1)

  pub set_ascends : (low high : ℕ) (xs : List X) (k : ℕ) (x y : X) → slice_get xs k ≡ Some x → number y ≡ number x → Ascend number low xs high → Ascend number low (set xs k y) high
  set_ascends low high [] k x y is same a = absurd (none-some x is)
  set_ascends low high (z ∷ xs) zero x y is same a =
      let n : number y ≡ number z = same ∙ ap number (let h : z ≡ x = same_Some z x is in sym h) in
      (let h = a.0 in omega (arith, n), lowered (number z) (number y) high xs (omega (arith, n)) a.1)
  set_ascends low high (z ∷ xs) (suc k) x y is same a = (a.0, set_ascends (number z) high xs k x y is same a.1)

  pub removed_ascends : (low high : ℕ) (xs : List X) (k : ℕ) → Ascend number low xs high → Ascend number low (remove xs k) high
  removed_ascends low high [] zero a = a
  removed_ascends low high [] (suc k) a = a
  removed_ascends low high (x ∷ xs) zero a = lowered (number x) low high xs (let h = a.0 in omega (arith, h)) a.1
  removed_ascends low high (x ∷ xs) (suc k) a = (a.0, removed_ascends (number x) high xs k a.1)

  pub pushed_ascends : (low high higher : ℕ) (xs : List X) (x : X) → high < number x → number x ≤ higher → Ascend number low xs high → Ascend number low (xs ++ x ∷ []) higher
  pushed_ascends low high higher [] x f g a = (omega arith, g)
  pushed_ascends low high higher (z ∷ xs) x f g a = (a.0, pushed_ascends (number z) high higher xs x f g a.1)

  -- each is above what all are above
  pub below_at : (low high : ℕ) (xs : List X) (k : ℕ) (x : X) → Ascend number low xs high → slice_get xs k ≡ Some x → low < number x
  below_at low high [] k x a is = absurd (none-some x is)
  below_at low high (z ∷ xs) zero x a is = let f : z ≡ x = same_Some z x is in subst (λ (y : X). low < number y) f a.0
  below_at low high (z ∷ xs) (suc k) x a is = let h = a.0 in let g = below_at (number z) high xs k x a.1 is in omega (arith, h, g)

-- ---- their marks

module _ {X : Type 0} (number : X → ℕ) (marks : X → List Mark) where
  -- what stays of the owner of this number does not matter; the numbers above it are others
  module _ (n : ℕ) (i j : Index) (pass : (q : Key) → (q.owner ≡ n → ⊥) → Holds i q → Holds j q) where
    one_stays : (x : X) → (number x ≡ n → ⊥) → HoldsAll i (number x) (marks x) → HoldsAll j (number x) (marks x)
    one_stays x other all m has = pass (key_of m (number x)) (λ same. other (sym (owner_is m (number x)) ∙ same)) (all m has)

    above_stay : (low high : ℕ) (xs : List X) → n ≤ low → Ascend number low xs high → AreMarked number marks i xs → AreMarked number marks j xs
    above_stay low high [] l a all = tt
    above_stay low high (x ∷ xs) l a all =
        let h = a.0 in
        (one_stays x (λ same. omega (arith, h, l, same)) all.0, above_stay (number x) high xs (omega (arith, h, l)) a.1 all.1)

    pub set_marked : (low high : ℕ) (xs : List X) (k : ℕ) (x y : X) → number x ≡ n → Ascend number low xs high → slice_get xs k ≡ Some x → HoldsAll j (number y) (marks y) → AreMarked number marks i xs
        → AreMarked number marks j (set xs k y)
    set_marked low high [] k x y numbered a is all are = absurd (none-some x is)
    set_marked low high (z ∷ xs) zero x y numbered a is all are =
        let f : z ≡ x = same_Some z x is in
        let g : number z ≡ n = ap number f ∙ numbered in
        (all, above_stay (number z) high xs (omega (arith, g)) a.1 are.1)
    set_marked low high (z ∷ xs) (suc k) x y numbered a is all are =
        let h = below_at number (number z) high xs k x a.1 is in
        (one_stays z (λ same. omega (arith, h, same, numbered)) are.0, set_marked (number z) high xs k x y numbered a.1 is all are.1)

    pub removed_marked : (low high : ℕ) (xs : List X) (k : ℕ) (x : X) → number x ≡ n → Ascend number low xs high → slice_get xs k ≡ Some x → AreMarked number marks i xs → AreMarked number marks j (remove xs k)
    removed_marked low high [] k x numbered a is are = absurd (none-some x is)
    removed_marked low high (z ∷ xs) zero x numbered a is are =
        let f : z ≡ x = same_Some z x is in
        let g : number z ≡ n = ap number f ∙ numbered in
        above_stay (number z) high xs (omega (arith, g)) a.1 are.1
    removed_marked low high (z ∷ xs) (suc k) x numbered a is are =
        let h = below_at number (number z) high xs k x a.1 is in
        (one_stays z (λ same. omega (arith, h, same, numbered)) are.0, removed_marked (number z) high xs k x numbered a.1 is are.1)

  pub pushed_marked : (i j : Index) (xs : List X) (x : X) → ((q : Key) → Holds i q → Holds j q) → HoldsAll j (number x) (marks x) → AreMarked number marks i xs → AreMarked number marks j (xs ++ x ∷ [])
  pushed_marked i j [] x pass all are = (all, tt)
  pushed_marked i j (z ∷ xs) x pass all are = (λ m has. pass (key_of m (number z)) (are.0 m has), pushed_marked i j xs x pass all are.1)

  pub same_marked : (i j : Index) (xs : List X) → ((q : Key) → Holds i q → Holds j q) → AreMarked number marks i xs → AreMarked number marks j xs
  same_marked i j [] pass are = tt
  same_marked i j (z ∷ xs) pass are = (λ m has. pass (key_of m (number z)) (are.0 m has), same_marked i j xs pass are.1)

  -- the position from which on one may have the mark
  module _ (index : Index) (m : Mark) where
    pub below_unmarked : (n : ℕ) → ((owner : ℕ) → Holds index (key_of m owner) → n ≤ owner) → (xs : List X) (j : ℕ) → AreMarked number marks index xs → AreBelow number n (take j xs) → AreUnmarked marks m (take j xs)
    below_unmarked n first [] zero are all = tt
    below_unmarked n first [] (suc j) are all = tt
    below_unmarked n first (x ∷ xs) zero are all = tt
    below_unmarked n first (x ∷ xs) (suc j) are all =
        (λ has. let h = all.0 in let g = first (number x) (are.0 m has) in omega (arith, h, g), below_unmarked n first xs j are.1 all.1)

    pub all_unmarked : ((owner : ℕ) → Holds index (key_of m owner) → ⊥) → (xs : List X) (j : ℕ) → AreMarked number marks index xs → AreUnmarked marks m (take j xs)
    all_unmarked none [] zero are = tt
    all_unmarked none [] (suc j) are = tt
    all_unmarked none (x ∷ xs) zero are = tt
    all_unmarked none (x ∷ xs) (suc j) are = (λ has. none (number x) (are.0 m has), all_unmarked none xs j are.1)

-- ---- the first that passes is there

module _ {X : Type 0} (marks : X → List Mark) (p : X → Bool) where
  passed : (xs : List X) (k : ℕ) → k ≤ length xs → AllByRecursion (λ x. p x ≡ false) (take k xs) → position_or_len p xs ≡ k + position_or_len p (drop k xs)
  passed [] zero l all = refl
  passed [] (suc k) l all = absurd (omega (arith, l))
  passed (x ∷ xs) zero l all = let h : position_or_len p (x ∷ xs) ≡ 0 + position_or_len p (x ∷ xs) = omega arith in h
  passed (x ∷ xs) (suc k) l all =
      let h = passed xs k (omega (arith, l)) all.1 in
      let f : position_or_len p (x ∷ xs) ≡ 1 + position_or_len p xs = ap (λ (b : Bool). cond (not b) (1 + position_or_len p xs) 0) all.0 in
      let g : (1 + position_or_len p xs) ≡ suc k + position_or_len p (drop k xs) = omega (arith, h) in
      f ∙ g

  length_from : (xs : List X) (k : ℕ) → k ≤ length xs → length xs ≡ k + length (drop k xs)
  length_from xs zero l = let h : length xs ≡ 0 + length xs = omega arith in h
  length_from [] (suc k) l = absurd (omega (arith, l))
  length_from (x ∷ xs) (suc k) l = let h = length_from xs k (omega (arith, l)) in let g : length (x ∷ xs) ≡ suc k + length (drop k xs) = omega (arith, h) in g

  shifted : (k a n : ℕ) (b : Bool) → nat_lt a n ≡ b → cond (nat_lt (k + a) (k + n)) (Some (k + a)) None ≡ option_map (λ i. k + i) (cond b (Some a) None)
  shifted k a n true e = let f : nat_lt (k + a) (k + n) ≡ true = grind (arith, nat_tests) in ap (λ (b : Bool). cond b (Some (k + a)) None) f
  shifted k a n false e = let f : nat_lt (k + a) (k + n) ≡ false = grind (arith, nat_tests) in ap (λ (b : Bool). cond b (Some (k + a)) None) f

  pub found_later : (xs : List X) (k : ℕ) → k ≤ length xs → AllByRecursion (λ x. p x ≡ false) (take k xs) → option_map (λ i. k + i) (position p (drop k xs)) ≡ position p xs
  found_later xs k l all =
      let a = position_or_len p (drop k xs) in
      let n = length (drop k xs) in
      sym (ap (λ (y : ℕ). cond (nat_lt y (length xs)) (Some y) None) (passed xs k l all)
      ∙ (ap (λ (y : ℕ). cond (nat_lt (k + a) y) (Some (k + a)) None) (length_from xs k l) ∙ shifted k a n (nat_lt a n) refl))

  -- whoever passes has the mark
  pub none_passes : (m : Mark) → ((x : X) → p x ≡ true → Has m (marks x)) → (xs : List X) → AreUnmarked marks m xs → AllByRecursion (λ x. p x ≡ false) xs
  none_passes m law [] none = tt
  none_passes m law (x ∷ xs) none = (fails (p x) (law x) none.0, none_passes m law xs none.1)
    where
      fails : (b : Bool) → (b ≡ true → Has m (marks x)) → (Has m (marks x) → ⊥) → b ≡ false
      fails false l n = refl
      fails true l n = absurd (n (l refl))

  none_at : (xs : List X) → AllByRecursion (λ x. p x ≡ false) xs → position_or_len p xs ≡ length xs
  none_at [] all = refl
  none_at (x ∷ xs) all =
      let f : position_or_len p (x ∷ xs) ≡ 1 + position_or_len p xs = ap (λ (b : Bool). cond (not b) (1 + position_or_len p xs) 0) all.0 in
      let g : (1 + position_or_len p xs) ≡ length (x ∷ xs) = (let h = none_at xs all.1 in omega (arith, h)) in
      f ∙ g

  pub none_found : (xs : List X) → AllByRecursion (λ x. p x ≡ false) xs → None ≡ position p xs
  none_found xs all =
      let f : nat_lt (length xs) (length xs) ≡ false = grind (arith, nat_tests) in
      sym (ap (λ (n : ℕ). cond (nat_lt n (length xs)) (Some n) None) (none_at xs all) ∙ ap (λ (b : Bool). cond b (Some (length xs)) None) f)

  within : (xs : List X) (n : ℕ) → position p xs ≡ Some n → n < length xs
  within xs n = go (position_or_len p xs) (nat_lt (position_or_len p xs) (length xs)) refl
    where
      go : (a : ℕ) (b : Bool) → nat_lt a (length xs) ≡ b → cond b (Some a) None ≡ Some n → n < length xs
      go a true t e = let f : a ≡ n = same_Some a n e in let g : a < length xs = grind (arith, nat_tests) in omega (arith, f, g)
      go a false t e = absurd (none-some n e)

  -- searched from a position on
  module _ (xs : List X) (k : ℕ) (l : k ≤ length xs) (rest : List X) (is : rest ≡ drop k xs) (o : Option ℕ) (found : o ≡ position p rest) where
    pub place_found : (m : Mark) → ((x : X) → p x ≡ true → Has m (marks x)) → AreUnmarked marks m (take k xs) → (r : Option ℕ) → r ≡ option_map (λ i. k + i) o → r ≡ position p xs
    place_found m law none r e =
        e ∙ (ap (option_map (λ i. k + i)) (found ∙ ap (position p) is) ∙ found_later xs k l (none_passes m law (take k xs) none))

    pub place_fits : (n : ℕ) → o ≡ Some n → k + n < length xs
    place_fits n e =
        let h = within (drop k xs) n (sym (ap (position p) is) ∙ (sym found ∙ e)) in
        let g = length_from xs k l in
        omega (arith, h, g)

-- ---- among the marks of several

pub has_left : {X : Type 0} (x : X) (xs ys : List X) → Has x xs → Has x (xs ++ ys)
has_left x [] ys h = absurd h
has_left x (y ∷ xs) ys h = elim h [
  | inl e ↦ inl e
  | inr g ↦ inr (has_left x xs ys g)
]

pub has_right : {X : Type 0} (x : X) (xs ys : List X) → Has x ys → Has x (xs ++ ys)
has_right x [] ys h = h
has_right x (y ∷ xs) ys h = inr (has_right x xs ys h)

placed : (k n : ℕ) (b : Bool) → is_some (cond b (Some k) None) ≡ true → b ≡ true
placed k n true e = refl
placed k n false e = absurd (let f : false ≡ true = e in cc)

-- one of them passes, so its marks are among those of all
module _ {X : Type 0} (f : X → List Mark) (p : X → Bool) (m : Mark) (law : (x : X) → p x ≡ true → Has m (f x)) where
  passes_within : (xs : List X) → nat_lt (position_or_len p xs) (length xs) ≡ true → Has m (flat_map f xs)
  passes_within [] e = absurd (let g : nat_lt 0 0 ≡ false = grind (arith, nat_tests) in let h : false ≡ true = sym g ∙ e in cc)
  passes_within (x ∷ xs) e = go (p x) refl (λ h. passes_within xs h)
    where
      go : (b : Bool) → p x ≡ b → (nat_lt (position_or_len p xs) (length xs) ≡ true → Has m (flat_map f xs)) → Has m (f x ++ flat_map f xs)
      go true t rest = has_left m (f x) (flat_map f xs) (law x t)
      go false t rest =
          let n = position_or_len p xs in
          let g : nat_lt (1 + n) (length (x ∷ xs)) ≡ true = ap (λ (b : Bool). nat_lt (cond (not b) (1 + n) 0) (length (x ∷ xs))) (sym t) ∙ e in
          let h : nat_lt n (length xs) ≡ true = grind (arith, nat_tests) in
          has_right m (f x) (flat_map f xs) (rest h)

  pub passes : (xs : List X) → is_some (position p xs) ≡ true → Has m (flat_map f xs)
  passes xs e = passes_within xs (placed (position_or_len p xs) (length xs) (nat_lt (position_or_len p xs) (length xs)) e)

  pub any_passes : (xs : List X) → list_any p xs ≡ true → Has m (flat_map f xs)
  any_passes [] e = absurd (let g : false ≡ true = e in cc)
  any_passes (x ∷ xs) e = go (p x) refl e (λ r. any_passes xs r)
    where
      go : (b : Bool) → p x ≡ b → (b || list_any p xs) ≡ true → (list_any p xs ≡ true → Has m (flat_map f xs)) → Has m (f x ++ flat_map f xs)
      go true t r rest = has_left m (f x) (flat_map f xs) (law x t)
      go false t r rest = has_right m (f x) (flat_map f xs) (rest r)

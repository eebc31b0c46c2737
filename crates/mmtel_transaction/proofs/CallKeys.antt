-- Server transactions of one call and CSeq, one by one in the order of opening.
use Rattle.std.proofs.Common.{◌≡◌, ℕ, zero, suc, ◌≤◌, Bool, true, false, cond, not, ◌&&◌, ◌||◌, List, [], ◌∷◌, length, drop, map, refl, sym, ap, ◌∙◌, subst, arith, inl, inr, Some, None, Option}
use Rattle.std.specs.Prelude.{◌==◌, slice_get}
use Rattle.std.specs.List.{list_any}
use Rattle.std.specs.Str.{bytes_eq}
use Rattle.std.proofs.lemmas.Bool.{and_from, and_parts, eq-eqb, eqb-true}
use Rattle.std.proofs.lemmas.Option.{none-some, same_Some}
use Rattle.std.proofs.lemmas.Slice.Eq.{bytes_eq-Decides}
use Rattle.mmtel_timers.specs.Shelves.{lookup_result, Ascends, comes_before, Has, IsIndex}
use Rattle.mmtel_timers.proofs.Advancing.{from_place, none_behind, not_before_from, on_or_after, there_or_behind}
use Rattle.mmtel_timers.proofs.Ordered.{has_at, not_both}
use Rattle.mmtel_transaction.specs.declared.heads.Head.{Head}
use Rattle.mmtel_transaction.specs.declared.entries.Entry.{Entry}
use Rattle.mmtel_transaction.specs.declared.entries.State.TheVariants.{Absorbing}
use Rattle.mmtel_transaction.specs.declared.match_keys.MatchKey.{MatchKey}
use Rattle.mmtel_transaction.specs.Heads.{invite, is_success, is_invite, is_same_call}
use Rattle.mmtel_transaction.specs.Changes.{after_ack_2xx, change_of_key, is_ack_of}
use Rattle.mmtel_transaction.specs.Results.{is_merged_entry}
use Rattle.mmtel_transaction.specs.Indexes.{ack_match, indexed_call, call_match, is_same_match, IsPlaceOf, match_cmp, match_key, merged_match}
use Rattle.mmtel_transaction.proofs.Changing.{hit_other, hit_own}
use Rattle.mmtel_transaction.proofs.Having.{has_map_back}
use Rattle.mmtel_transaction.proofs.Naming.{alike, between, hash_same, not_before}

-- whose call and CSeq are these
abbrev pub call_mark : List ℕ → List ℕ → List ℕ → ℕ → MatchKey
call_mark id from method number = match_key id from method number 0

-- the transactions of which this is true have their match keys from a position of the shelf on
abbrev pub StandFrom : (Entry → Bool) → List Entry → List MatchKey → ℕ → Type 0
StandFrom P es ts i = (x : Entry) → Has x es → P x ≡ true → Has (call_match x) (drop i ts)

none_at : (q : ℕ) (ts : List MatchKey) → slice_get ts q ≡ None → length ts ≤ q
none_at zero [] e = omega arith
none_at (suc q) [] e = omega arith
none_at zero (x ∷ xs) e = absurd (none-some x (sym e))
none_at (suc q) (x ∷ xs) e = omega (arith, none_at q xs e)

module _ (b s m : List ℕ) (n : ℕ) (ts : List MatchKey) (p : ℕ) (at : IsPlaceOf (call_mark b s m n) ts p) (P : Entry → Bool)
    (named_so : (x : Entry) → P x ≡ true → (indexed_call x ≡ Some (call_match x)) × (is_same_match (call_mark b s m n) (call_match x) ≡ true)) (es : List Entry) where
  -- at first
  pub stand_first : IsIndex indexed_call match_cmp es ts → StandFrom P es ts p
  stand_first i x h t =
      let w = named_so x t in
      from_place (comes_before match_cmp (call_mark b s m n)) p ts (call_match x) at (i.all x (call_match x) h w.0) (not_before b s m n (call_match x) w.1)

  -- once one there has another call or CSeq, none remains
  none_left : (q : ℕ) (y : MatchKey) → Ascends match_cmp ts → p ≤ q → slice_get ts q ≡ Some y → is_same_match (call_mark b s m n) y ≡ false → StandFrom P es ts q → (x : Entry) → Has x es → P x ≡ true → ⊥
  none_left q y a l g f st x h t =
      let w = named_so x t in
      elim (on_or_after match_cmp q ts y (call_match x) a g (st x h t)) [
        | inl e ↦ not_both (is_same_match (call_mark b s m n) y) (ap (is_same_match (call_mark b s m n)) (sym e) ∙ w.1) f
        | inr less ↦ not_both (is_same_match (call_mark b s m n) y) (between b s m n y (call_match x) (not_before_from (comes_before match_cmp (call_mark b s m n)) p q ts y at l g) w.1 less).0 f
      ]

  -- so where the key that is sought is not there
  pub ends_here : (q : ℕ) → Ascends match_cmp ts → p ≤ q → None ≡ lookup_result (is_same_match (call_mark b s m n)) (λ (x : MatchKey). x.key) (slice_get ts q) → StandFrom P es ts q → (x : Entry) →
      Has x es → P x ≡ true → ⊥
  ends_here q a l said st x h t = by_item (slice_get ts q) refl said
    where
      by_name : (y : MatchKey) → slice_get ts q ≡ Some y → (v : Bool) → is_same_match (call_mark b s m n) y ≡ v → None ≡ cond v (Some y.key) None → ⊥
      by_name y g true f r = none-some y.key r
      by_name y g false f r = none_left q y a l g f st x h t

      by_item : (o : Option MatchKey) → slice_get ts q ≡ o → None ≡ lookup_result (is_same_match (call_mark b s m n)) (λ (x : MatchKey). x.key) o → ⊥
      by_item None g r = none_behind q ts (call_match x) (none_at q ts g) (st x h t)
      by_item (Some y) g r = by_name y g (is_same_match (call_mark b s m n) y) refl r

-- where the shelf ends, none remains
pub none_past : (P : Entry → Bool) (es : List Entry) (ts : List MatchKey) (q : ℕ) → length ts ≤ q → StandFrom P es ts q → (x : Entry) → Has x es → P x ≡ true → ⊥
none_past P es ts q l st x h t = none_behind q ts (call_match x) l (st x h t)

-- one after the other
pub stand_next : (P : Entry → Bool) (es : List Entry) (ts : List MatchKey) (q : ℕ) (y : MatchKey) → slice_get ts q ≡ Some y → ((x : Entry) → Has x es → P x ≡ true → x.key ≡ y.key → ⊥) →
    StandFrom P es ts q → StandFrom P es ts (suc q)
stand_next P es ts q y g other st x h t = elim (there_or_behind q ts y (call_match x) g (st x h t)) [
  | inl e ↦ absurd (other x h t (ap (λ (z : MatchKey). z.key) e))
  | inr k ↦ k
]

-- what the key at a position implies for the match key there
pub key_there : (mark : MatchKey) (k : ℕ) (o : Option MatchKey) → Some k ≡ lookup_result (is_same_match mark) (λ (x : MatchKey). x.key) o → (y : MatchKey) × (o ≡ Some y) × (is_same_match mark y ≡ true) × (y.key ≡ k)
key_there mark k None q = absurd (none-some k (sym q))
key_there mark k (Some y) q = by_test (is_same_match mark y) refl q
  where
    by_test : (t : Bool) → is_same_match mark y ≡ t → Some k ≡ cond t (Some y.key) None → (z : MatchKey) × (Some y ≡ Some z) × (is_same_match mark z ≡ true) × (z.key ≡ k)
    by_test true t s = (y, refl, t, sym (same_Some k y.key s))
    by_test false t s = absurd (none-some k (sym s))

called_so : (x : Entry) → x.is_server ≡ true → indexed_call x ≡ Some (call_match x)
called_so x t = ap (λ c. cond c (Some (call_match x)) None) t

same_call : (b s m : List ℕ) (n : ℕ) (x : Entry) → bytes_eq x.head.call_id b ≡ true → bytes_eq x.head.from_tag s ≡ true → (x.head.number == n) ≡ true → bytes_eq x.head.method m ≡ true →
    is_same_match (call_mark b s m n) (call_match x) ≡ true
same_call b s m n x p q r t = and_from _ _ (and_from _ _ (and_from _ _ (and_from _ _ (hash_same x.head.call_id b p) p) q) t) r

-- of the ACK of a 2xx
module _ (m : Head) where
  abbrev pub is_of_ack : Entry → Bool
  is_of_ack x = is_ack_of m x

  ack_parts : (x : Entry) → is_ack_of m x ≡ true → (x.is_server ≡ true) × (is_invite x.head ≡ true) × (is_same_call x.head m ≡ true) × (x.is_acked ≡ false)
  ack_parts x t =
      let a = and_parts (x.is_server && is_invite x.head && is_success x.final_status && not x.is_acked && is_same_call x.head m) (bytes_eq x.to_tag m.to_tag) t in
      let b = and_parts (x.is_server && is_invite x.head && is_success x.final_status && not x.is_acked) (is_same_call x.head m) a.0 in
      let c = and_parts (x.is_server && is_invite x.head && is_success x.final_status) (not x.is_acked) b.0 in
      let d = and_parts (x.is_server && is_invite x.head) (is_success x.final_status) c.0 in
      let e = and_parts x.is_server (is_invite x.head) d.0 in
      (e.0, e.1, b.1, not_not x.is_acked c.1)
    where
      not_not : (v : Bool) → not v ≡ true → v ≡ false
      not_not true q = absurd cc
      not_not false q = refl

  pub acked_so : (x : Entry) → is_of_ack x ≡ true → (indexed_call x ≡ Some (call_match x)) × (is_same_match (ack_match m) (call_match x) ≡ true)
  acked_so x t =
      let w = ack_parts x t in
      let a = and_parts (bytes_eq x.head.call_id m.call_id && bytes_eq x.head.from_tag m.from_tag) (x.head.number == m.number) w.2 in
      let b = and_parts (bytes_eq x.head.call_id m.call_id) (bytes_eq x.head.from_tag m.from_tag) a.0 in
      (called_so x w.0, same_call m.call_id m.from_tag invite m.number x b.0 b.1 a.1 w.1)

  module _ (step : ℕ) where
    -- what received it does not receive it again
    pub once_acked : (x : Entry) → is_ack_of m (after_ack_2xx step m x) ≡ true → ⊥
    once_acked x t = by_test (is_ack_of m x) refl t
      where
        by_test : (v : Bool) → is_ack_of m x ≡ v → is_ack_of m (cond v (record x { is_acked = true; state = Absorbing; step = step }) x) ≡ true → ⊥
        by_test true q s = let w = ack_parts (record x { is_acked = true; state = Absorbing; step = step }) s in absurd (let r : true ≡ false = w.3 in cc)
        by_test false q s = not_both (is_ack_of m x) s q

    pub not_acked : (x : Entry) → (is_ack_of m x ≡ true → ⊥) → after_ack_2xx step m x ≡ x
    not_acked x n = by_test (is_ack_of m x) refl
      where
        by_test : (v : Bool) → is_ack_of m x ≡ v → cond v (record x { is_acked = true; state = Absorbing; step = step }) x ≡ x
        by_test true q = absurd (n q)
        by_test false q = refl

    acked_again : (x : Entry) → after_ack_2xx step m (after_ack_2xx step m x) ≡ after_ack_2xx step m x
    acked_again x = not_acked (after_ack_2xx step m x) (once_acked x)

    hit_again : (k : ℕ) (x : Entry) → after_ack_2xx step m (change_of_key k (after_ack_2xx step m) x) ≡ after_ack_2xx step m x
    hit_again k x = by_test (x.key == k)
      where
        by_test : (v : Bool) → after_ack_2xx step m (cond v (after_ack_2xx step m x) x) ≡ after_ack_2xx step m x
        by_test true = acked_again x
        by_test false = refl

    pub map_again : (k : ℕ) (es : List Entry) → map (after_ack_2xx step m) (map (change_of_key k (after_ack_2xx step m)) es) ≡ map (after_ack_2xx step m) es
    map_again k [] = refl
    map_again k (x ∷ es) = ap (λ y. y ∷ map (after_ack_2xx step m) (map (change_of_key k (after_ack_2xx step m)) es)) (hit_again k x) ∙ ap (λ ys. after_ack_2xx step m x ∷ ys) (map_again k es)

    -- where none remains, all have received it
    pub all_acked : (es : List Entry) → ((x : Entry) → Has x es → is_of_ack x ≡ true → ⊥) → map (after_ack_2xx step m) es ≡ es
    all_acked [] n = refl
    all_acked (x ∷ es) n = ap (λ y. y ∷ map (after_ack_2xx step m) es) (not_acked x (n x (inl refl))) ∙ ap (λ ys. x ∷ ys) (all_acked es (λ y h. n y (inr h)))

    pub stand_acked : (es : List Entry) (ts : List MatchKey) (q : ℕ) (y : MatchKey) → slice_get ts q ≡ Some y → StandFrom is_of_ack es ts q →
        StandFrom is_of_ack (map (change_of_key y.key (after_ack_2xx step m)) es) ts (suc q)
    stand_acked es ts q y g st x h t =
        let w = has_map_back (change_of_key y.key (after_ack_2xx step m)) x es h in
        by_test w.0 w.1 w.2 (w.0.key == y.key) refl
      where
        by_test : (z : Entry) → Has z es → x ≡ change_of_key y.key (after_ack_2xx step m) z → (v : Bool) → (z.key == y.key) ≡ v → Has (call_match x) (drop (suc q) ts)
        by_test z k e true u = absurd (once_acked z (ap (is_ack_of m) (sym (e ∙ hit_own y.key (after_ack_2xx step m) z (eqb-true z.key y.key u))) ∙ t))
        by_test z k e false u =
            let same : x ≡ z = e ∙ hit_other y.key (after_ack_2xx step m) z u in
            let here : Has (call_match z) (drop q ts) = st z k (ap (is_ack_of m) (sym same) ∙ t) in
            subst (λ (w : Entry). Has (call_match w) (drop (suc q) ts)) (sym same) (elim (there_or_behind q ts y (call_match z) g here) [
              | inl a ↦ absurd (not_both (z.key == y.key) (eq-eqb z.key y.key (ap (λ (v : MatchKey). v.key) a)) u)
              | inr b ↦ b
            ])

-- of a request that is received twice
module _ (e : Entry) where
  pub twin_so : (x : Entry) → is_merged_entry e x ≡ true → (indexed_call x ≡ Some (call_match x)) × (is_same_match (merged_match e) (call_match x) ≡ true)
  twin_so x t =
      let a = and_parts (x.is_server && not (x.key == e.key) && is_same_call x.head e.head) (bytes_eq x.head.method e.head.method) t in
      let b = and_parts (x.is_server && not (x.key == e.key)) (is_same_call x.head e.head) a.0 in
      let c = and_parts x.is_server (not (x.key == e.key)) b.0 in
      let d = and_parts (bytes_eq x.head.call_id e.head.call_id && bytes_eq x.head.from_tag e.head.from_tag) (x.head.number == e.head.number) b.1 in
      let f = and_parts (bytes_eq x.head.call_id e.head.call_id) (bytes_eq x.head.from_tag e.head.from_tag) d.0 in
      (called_so x c.0, same_call e.head.call_id e.head.from_tag e.head.method e.head.number x f.0 f.1 d.1 a.1)

  pub not_itself : (x : Entry) → is_merged_entry e x ≡ true → x.key ≡ e.key → ⊥
  not_itself x t q =
      let a = and_parts (x.is_server && not (x.key == e.key) && is_same_call x.head e.head) (bytes_eq x.head.method e.head.method) t in
      let b = and_parts (x.is_server && not (x.key == e.key)) (is_same_call x.head e.head) a.0 in
      let c = and_parts x.is_server (not (x.key == e.key)) b.0 in
      let w : true ≡ false = sym c.1 ∙ ap not (eq-eqb x.key e.key q) in
      cc

  any_has : (P : Entry → Bool) (es : List Entry) (x : Entry) → Has x es → P x ≡ true → list_any P es ≡ true
  any_has P [] x h t = absurd h
  any_has P (y ∷ es) x (inl q) t = let w : P y ≡ true = ap P (sym q) ∙ t in rw w refl
  any_has P (y ∷ es) x (inr h) t = rw (any_has P es x h t) (either (P y))
    where
      either : (v : Bool) → (v || true) ≡ true
      either true = refl
      either false = refl

  pub none_has : (P : Entry → Bool) (es : List Entry) → ((x : Entry) → Has x es → P x ≡ true → ⊥) → false ≡ list_any P es
  none_has P [] n = refl
  none_has P (y ∷ es) n = by_test (P y) refl (none_has P es (λ x h. n x (inr h)))
    where
      by_test : (v : Bool) → P y ≡ v → false ≡ list_any P es → false ≡ (v || list_any P es)
      by_test true q ih = absurd (n y (inl refl) q)
      by_test false q ih = ih

  -- one with the same parts of the match key and another transaction number is merged with it
  pub twin_there : (es : List Entry) (ts : List MatchKey) (q : ℕ) (y : MatchKey) → IsIndex indexed_call match_cmp es ts → slice_get ts q ≡ Some y → is_same_match (merged_match e) y ≡ true →
      (y.key ≡ e.key → ⊥) → true ≡ list_any (is_merged_entry e) es
  twin_there es ts q y i g t other =
      let u = i.only y (has_at ts q y g) in
      sym (any_has (is_merged_entry e) es u.0 u.1 (by_kind u.0 u.0.is_server refl u.2))
    where
      by_kind : (x : Entry) (v : Bool) → x.is_server ≡ v → cond v (Some (call_match x)) None ≡ Some y → is_merged_entry e x ≡ true
      by_kind x false k s = absurd (none-some y s)
      by_kind x true k s =
          let same : call_match x ≡ y = same_Some (call_match x) y s in
          let a = alike e.head.call_id e.head.from_tag e.head.method e.head.number (call_match x) (ap (is_same_match (merged_match e)) same ∙ t) in
          let n : (x.key == e.key) ≡ false = differ (x.key == e.key) refl in
          and_from _ _ (and_from _ _ (and_from _ _ k (ap not n))
          (and_from _ _ (and_from _ _ ((bytes_eq-Decides x.head.call_id e.head.call_id).1 a.id) ((bytes_eq-Decides x.head.from_tag e.head.from_tag).1 a.from)) (eq-eqb x.head.number e.head.number a.number)))
          ((bytes_eq-Decides x.head.method e.head.method).1 a.method)
        where
          differ : (w : Bool) → (x.key == e.key) ≡ w → (x.key == e.key) ≡ false
          differ true r = absurd (other (ap (λ (z : MatchKey). z.key) (sym (same_Some (call_match x) y s)) ∙ eqb-true x.key e.key r))
          differ false r = r

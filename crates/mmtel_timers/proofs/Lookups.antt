-- What a search in a shelf finds is the first element that a linear search finds.
use Rattle.std.proofs.Common.{◌≡◌, ℕ, ◌≤◌, ◌<◌, Bool, true, false, cond, List, [], ◌∷◌, refl, sym, ap, ◌∙◌, arith, inl, inr, Some, None, Option}
use Rattle.std.specs.Prelude.{slice_get, option_map, IfSome}
use Rattle.std.specs.List.{find}
use Rattle.std.specs.List.Sorted.{IsPartitionPoint}
use Rattle.std.specs.Cmp.{IsTotalOrder}
use Rattle.std.specs.declared.cmp.Ordering.{Ordering}
use Rattle.std.specs.declared.cmp.Ordering.TheVariants.{Less}
use Rattle.std.proofs.lemmas.Option.{none-some, same_Some}
use Rattle.mmtel_timers.specs.Shelves.{lookup_result, Has, IsFirstOfRank, IsIndex, Rises}
use Rattle.mmtel_timers.proofs.Ordered.{after_place, all_has, at_place, has_at, none_after, not_both}

module _ {E : Type 0} (q : E → Bool) where
  pub find_has : (es : List E) (e : E) → find q es ≡ Some e → Has e es × (q e ≡ true)
  find_has [] e f = absurd (none-some e f)
  find_has (x ∷ es) e f = by_test (λ s. find_has es e s) (q x) refl f
    where
      by_test : (find q es ≡ Some e → Has e es × (q e ≡ true)) → (b : Bool) → q x ≡ b → cond b (Some x) (find q es) ≡ Some e → Has e (x ∷ es) × (q e ≡ true)
      by_test ih true t s = let w = same_Some x e s in (inl (sym w), ap q (sym w) ∙ t)
      by_test ih false t s = let u = ih s in (inr u.0, u.1)

  pub find_misses : (es : List E) (e : E) → find q es ≡ None → Has e es → q e ≡ true → ⊥
  find_misses [] e f h t = h
  find_misses (x ∷ es) e f h t = by_test (λ n k. find_misses es e n k t) (q x) refl f h
    where
      by_test : (find q es ≡ None → Has e es → ⊥) → (b : Bool) → q x ≡ b → cond b (Some x) (find q es) ≡ None → Has e (x ∷ es) → ⊥
      by_test ih true s n h = none-some x (sym n)
      by_test ih false s n (inl w) = not_both (q x) (ap q (sym w) ∙ t) s
      by_test ih false s n (inr k) = ih n k

  pub find_none : (es : List E) → ((e : E) → Has e es → q e ≡ true → ⊥) → find q es ≡ None
  find_none es n = by_cases (find q es) refl
    where
      by_cases : (o : Option E) → find q es ≡ o → find q es ≡ None
      by_cases None f = f
      by_cases (Some e) f = let u = find_has es e f in absurd (n e u.0 u.1)

  -- it is the first
  pub find_first : (key : E → ℕ) (es : List E) (e d : E) → Rises key es → find q es ≡ Some e → Has d es → q d ≡ true → key e ≤ key d
  find_first key [] e d r f h t = absurd h
  find_first key (x ∷ es) e d r f h t = by_test (λ n k. find_first key es e d r.1 n k t) (q x) refl f h
    where
      by_test : (find q es ≡ Some e → Has d es → key e ≤ key d) → (b : Bool) → q x ≡ b → cond b (Some x) (find q es) ≡ Some e → Has d (x ∷ es) → key e ≤ key d
      by_test ih true s n (inl w) = let same : key e ≡ key d = ap key (sym (same_Some x e n) ∙ sym w) in omega (arith, same)
      by_test ih true s n (inr k) =
          let same : key x ≡ key e = ap key (same_Some x e n) in
          let less : key x < key d = all_has (λ y. key x < key y) es d r.0 k in
          omega (arith, same, less)
      by_test ih false s n (inl w) = absurd (not_both (q x) (ap q (sym w) ∙ t) s)
      by_test ih false s n (inr k) = ih n k

module _ {E X : Type 0} (item : E → Option X) (R : X → X → Ordering) (o : IsTotalOrder R) (q : E → Bool) (before hits : X → Bool) (key : E → ℕ) (number : X → ℕ)
    (has_item : (e : E) → q e ≡ true → (x : X) × (item e ≡ Some x) × (hits x ≡ true))
    (is_of : (e : E) (x : X) → item e ≡ Some x → hits x ≡ true → q e ≡ true)
    (numbered : (e : E) (x : X) → item e ≡ Some x → number x ≡ key e)
    (not_before : (x : X) → hits x ≡ true → before x ≡ false)
    (between : (y x : X) → before y ≡ false → hits x ≡ true → R y x ≡ Less → (hits y ≡ true) × (number y < number x))
    (es : List E) (xs : List X) (p : ℕ) (i : IsIndex item R es xs) (rises : Rises key es) (at : IsPartitionPoint (λ x. before x ≡ true) (λ x. before x ≡ false) xs p) where
  after_end : slice_get xs p ≡ None → find q es ≡ None
  after_end n = find_none q es (λ e h t.
      let u = has_item e t in
      none_after R o before p xs u.0 at (i.all e u.0 h u.1) (not_before u.0 u.2) n)

  other : (y : X) → slice_get xs p ≡ Some y → hits y ≡ false → find q es ≡ None
  other y s f = find_none q es (λ e h t.
      let u = has_item e t in
      elim (after_place R o before p xs u.0 y i.ascends at (i.all e u.0 h u.1) (not_before u.0 u.2) s) [
        | inl w ↦ not_both (hits y) (ap hits (sym w) ∙ u.2) f
        | inr l ↦ not_both (hits y) (between y u.0 (at_place R o before p xs y at s) u.2 l).0 f
      ])

  hit : (y : X) → slice_get xs p ≡ Some y → hits y ≡ true → (f : Option E) → find q es ≡ f → Some (number y) ≡ option_map key f
  hit y s t None n = let u = i.only y (has_at xs p y s) in absurd (find_misses q es u.0 n u.1 (is_of u.0 y u.2 t))
  hit y s t (Some e) n =
      let f = find_has q es e n in
      let u = has_item e f.1 in
      elim (after_place R o before p xs u.0 y i.ascends at (i.all e u.0 f.0 u.1) (not_before u.0 u.2) s) [
        | inl w ↦ ap Some (ap number (sym w) ∙ numbered e u.0 u.1)
        | inr l ↦
            let v = i.only y (has_at xs p y s) in
            let less : number y < number u.0 = (between y u.0 (at_place R o before p xs y at s) u.2 l).1 in
            let of_e : number u.0 ≡ key e = numbered e u.0 u.1 in
            let of_y : number y ≡ key v.0 = numbered v.0 y v.2 in
            let first : key e ≤ key v.0 = find_first q key es e v.0 rises n v.1 (is_of v.0 y v.2 t) in
            absurd (omega (arith, less, of_e, of_y, first))
      ]

  pub looked : lookup_result hits number (slice_get xs p) ≡ option_map key (find q es)
  looked = by_cases (slice_get xs p) refl
    where
      by_hit : (y : X) → slice_get xs p ≡ Some y → (b : Bool) → hits y ≡ b → cond b (Some (number y)) None ≡ option_map key (find q es)
      by_hit y s true t = hit y s t (find q es) refl
      by_hit y s false t = ap (option_map key) (sym (other y s t))

      by_cases : (f : Option X) → slice_get xs p ≡ f → lookup_result hits number f ≡ option_map key (find q es)
      by_cases None n = ap (option_map key) (sym (after_end n))
      by_cases (Some y) s = by_hit y s (hits y) refl

-- a search by rank finds what a search by place does, where what is searched for has that rank
module _ {X : Type 0} (rank : X → ℕ) (sought : ℕ) (before hits : X → Bool) (number : X → ℕ) (of_rank : (x : X) → hits x ≡ true → rank x ≡ sought) where
  no_hit : (o : Option X) → IfSome o (λ x. sought < rank x) → lookup_result hits number None ≡ lookup_result hits number o
  no_hit None l = refl
  no_hit (Some x) l = by_hit (hits x) refl
    where
      by_hit : (b : Bool) → hits x ≡ b → None ≡ cond b (Some (number x)) None
      by_hit true t = let same = of_rank x t in absurd (omega (arith, same, l))
      by_hit false t = refl

  pub looked_of_rank : (xs : List X) (found : Option X) (first : IsFirstOfRank rank sought before xs found) → lookup_result hits number found ≡ lookup_result hits number (slice_get xs first.place)
  looked_of_rank xs found first = elim first.item [
    | inl e ↦ ap (lookup_result hits number) e
    | inr p ↦ ap (lookup_result hits number) p.0 ∙ no_hit (slice_get xs first.place) p.1
  ]

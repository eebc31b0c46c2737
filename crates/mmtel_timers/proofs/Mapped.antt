-- The image of each element of a list under a function, where one is inserted, removed or looked up.
use Rattle.std.proofs.Common.{◌≡◌, ◌↔◌, ℕ, zero, suc, ◌<◌, ◌≤◌, List, [], ◌∷◌, length, refl, sym, ap, ◌∙◌, subst, arith, insert, remove, Option, Some, None, IsSome, OnSome, IfNone}
use Rattle.std.specs.Prelude.{map, option_map, slice_get, slice_index_or}
use Rattle.std.proofs.lemmas.List.{length-map}
use Rattle.std.proofs.lemmas.Option.{slice_get-map}

module _ {X Y : Type 0} (f : X → Y) where
  pub remove_mapped : (xs : List X) (i : ℕ) → map f (remove xs i) ≡ remove (map f xs) i
  remove_mapped [] zero = refl
  remove_mapped [] (suc i) = refl
  remove_mapped (x ∷ xs) zero = refl
  remove_mapped (x ∷ xs) (suc i) = ap (λ ys. f x ∷ ys) (remove_mapped xs i)

  insert_mapped : (xs : List X) (i : ℕ) (x : X) → map f (insert xs i x) ≡ insert (map f xs) i (f x)
  insert_mapped xs zero x = refl
  insert_mapped [] (suc i) x = refl
  insert_mapped (y ∷ xs) (suc i) x = ap (λ ys. f y ∷ ys) (insert_mapped xs i x)

  get_mapped : (xs : List X) (i : ℕ) (x : X) → i < length xs → x ≡ slice_index_or xs i x → f x ≡ slice_index_or (map f xs) i (f x)
  get_mapped [] i x l q = absurd (omega (arith, l))
  get_mapped (y ∷ xs) zero x l q = ap f q
  get_mapped (y ∷ xs) (suc i) x l q = get_mapped xs i x (omega (arith, l)) q

  -- the image of an element that is looked up
  pub read_mapped : (xs : List X) (i : ℕ) (x : X) (y : Y) (ys : List Y) → i < length (map f xs) → x ≡ slice_index_or xs i x → y ≡ f x → map f xs ≡ ys → y ≡ slice_index_or ys i y
  read_mapped xs i x y ys l q is same =
      let inside : i < length xs = subst (λ n. i < n) (length-map xs f) l in
      subst (λ z. z ≡ slice_index_or ys i z) (sym is) (subst (λ zs. f x ≡ slice_index_or zs i (f x)) same (get_mapped xs i x inside q))

  -- and of one that is found, if there is one
  pub found_mapped : (xs : List X) (found x : Option X) (i j : ℕ) (ys : List Y) → found ≡ slice_get xs i → found ≡ x → i ≡ j → map f xs ≡ ys → option_map f x ≡ slice_get ys j
  found_mapped xs found x i j ys at is there same =
      ap (λ o. option_map f o) (sym is ∙ at) ∙ (sym (slice_get-map f xs i) ∙ (ap (λ zs. slice_get zs i) same ∙ ap (λ n. slice_get ys n) there))

  -- one element inserted, and one removed
  pub put_in : (xs zs : List X) (i : ℕ) (x : X) (y : Y) (ys : List Y) → map f xs ≡ ys → f x ≡ y → zs ≡ insert xs i x → map f zs ≡ insert ys i y
  put_in xs zs i x y ys same is put = ap (map f) put ∙ (insert_mapped xs i x ∙ (ap (λ z. insert (map f xs) i z) is ∙ ap (λ ws. insert ws i y) same))

  pub queue_without : (xs zs : List X) (i : ℕ) (ys : List Y) → map f xs ≡ ys → zs ≡ remove xs i → map f zs ≡ remove ys i
  queue_without xs zs i ys same out = ap (map f) out ∙ (remove_mapped xs i ∙ ap (λ ws. remove ws i) same)

  -- the rest where one element is removed, if there is one
  pub left : (xs zs : List X) (i n : ℕ) (out : Option X) (ys : List Y) → n ≡ length xs → IsSome out ↔ (i < n) → OnSome out (zs ≡ remove xs i) → IfNone out (zs ≡ xs) → map f xs ≡ ys → map f zs ≡ remove ys i
  left xs zs i n (Some x) ys long there rest stays same = queue_without xs zs i ys same rest
  left xs zs i n None ys long there rest stays same =
      let past : length xs ≤ i = grind (arith, long, there) in
      queue_without xs zs i ys same (stays ∙ sym (remove_past xs i past))
    where
      remove_past : {A : Type 0} (zs : List A) (k : ℕ) → length zs ≤ k → remove zs k ≡ zs
      remove_past [] zero l = refl
      remove_past [] (suc k) l = refl
      remove_past (z ∷ zs) zero l = absurd (omega (arith, l))
      remove_past (z ∷ zs) (suc k) l = ap (λ ws. z ∷ ws) (remove_past zs k (omega (arith, l)))

pub unchanged : {X Y Z : Type 0} (f : X → Y) (out : Option Z) (a b : X) → IfNone out (a ≡ b) → IfNone out (f a ≡ f b)
unchanged f (Some z) a b same = tt
unchanged f None a b same = ap f same

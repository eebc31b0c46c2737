-- Two lists whose items have the same public parts: the item at a place, writing and removing one, and searching.
use Rattle.std.proofs.Common.{◌≡◌, ℕ, zero, suc, Bool, List, [], ◌∷◌, ◌++◌, refl, ap, sym, ◌∙◌, map, take, drop, Some}
use Rattle.std.proofs.lemmas.List.{drop-map, map-append, take-map}
use Rattle.std.specs.List.{list_any}
use Rattle.std.specs.Option.{option_map}
use Rattle.std.specs.Prelude.{position, remove, slice_get, slice_set}
use Rattle.mmtel_call_theorems.proofs.Noninterference.Leaving.{found, got}
use Rattle.std.specs.Prelude.{◌||◌}

-- a function that gives the same of an item and of its public part gives the same of two items with the same public part
pub commuting : {A B : Type 0} (f : A → B) (p : A → A) (q : B → B) → ((x : A) → q (f x) ≡ f (p x)) → (x y : A) → p x ≡ p y → q (f x) ≡ q (f y)
commuting f p q same x y e = same x ∙ (ap f e ∙ sym (same y))

pub telling : {A B : Type 0} (f : A → B) (p : A → A) → ((x : A) → f (p x) ≡ f x) → (x y : A) → p x ≡ p y → f x ≡ f y
telling f p same x y e = sym (same x) ∙ (ap f e ∙ same y)

module _ {A : Type 0} (f : A → A) where
  pub same_place : (p : A → Bool) → ((x : A) → p (f x) ≡ p x) → (xs ys : List A) → map f xs ≡ map f ys → position p xs ≡ position p ys
  same_place p same xs ys e = sym (found f p same xs) ∙ (ap (λ (l : List A). position p l) e ∙ found f p same ys)

  pub same_get : (xs ys : List A) → map f xs ≡ map f ys → (at : ℕ) → option_map f (slice_get xs at) ≡ option_map f (slice_get ys at)
  same_get xs ys e at = sym (got f xs at) ∙ (ap (λ (l : List A). slice_get l at) e ∙ got f ys at)

  set_map : (xs : List A) (at : ℕ) (x : A) → map f (slice_set xs at x) ≡ slice_set (map f xs) at (f x)
  set_map [] at x = refl
  set_map (y ∷ xs) zero x = refl
  set_map (y ∷ xs) (suc at) x = ap (λ (l : List A). f y ∷ l) (set_map xs at x)

  pub same_set : (xs ys : List A) (at : ℕ) (x y : A) → map f xs ≡ map f ys → f x ≡ f y → map f (slice_set xs at x) ≡ map f (slice_set ys at y)
  same_set xs ys at x y e same =
      set_map xs at x ∙ (ap (λ (l : List A). slice_set l at (f x)) e ∙ (ap (λ (z : A). slice_set (map f ys) at z) same ∙ sym (set_map ys at y)))

  remove_map : (xs : List A) (at : ℕ) → map f (remove xs at) ≡ remove (map f xs) at
  remove_map xs at =
      map-append f (take at xs) (drop (suc at) xs)
      ∙ (ap (λ (l : List A). l ++ map f (drop (suc at) xs)) (sym (take-map f at xs))
      ∙ ap (λ (l : List A). take at (map f xs) ++ l) (sym (drop-map f (suc at) xs)))

  pub same_remove : (xs ys : List A) (at : ℕ) → map f xs ≡ map f ys → map f (remove xs at) ≡ map f (remove ys at)
  same_remove xs ys at e = remove_map xs at ∙ (ap (λ (l : List A). remove l at) e ∙ sym (remove_map ys at))

  pub same_append : (xs ys us vs : List A) → map f xs ≡ map f ys → map f us ≡ map f vs → map f (xs ++ us) ≡ map f (ys ++ vs)
  same_append xs ys us vs e g = map-append f xs us ∙ (ap (λ (l : List A). l ++ map f us) e ∙ (ap (λ (l : List A). map f ys ++ l) g ∙ sym (map-append f ys vs)))

  any_map : (p : A → Bool) → ((x : A) → p (f x) ≡ p x) → (xs : List A) → list_any p (map f xs) ≡ list_any p xs
  any_map p same [] = refl
  any_map p same (x ∷ xs) = ap (λ (b : Bool). b || list_any p (map f xs)) (same x) ∙ ap (λ (b : Bool). p x || b) (any_map p same xs)

  pub same_any : (p : A → Bool) → ((x : A) → p (f x) ≡ p x) → (xs : List A) → list_any p (map f xs) ≡ list_any p xs
  same_any p same xs = any_map p same xs

  pub some_same : (x y : A) → Some x ≡ Some y → x ≡ y
  some_same x y e = cc

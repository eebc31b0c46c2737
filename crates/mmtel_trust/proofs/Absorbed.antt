-- What is unchanged where each item is replaced by items that give the same.
use Rattle.std.proofs.Common.{◌≡◌, List, [], ◌∷◌, ◌++◌, refl, sym, ap, ◌∙◌, Bool}
use Rattle.std.specs.Prelude.{filter}
use Rattle.std.specs.List.{flat_map}
use Rattle.std.proofs.lemmas.Grind.{flat_map-append}
use Rattle.std.proofs.lemmas.List.Elements.{filter-append}

pub absorbed : {A B : Type 0} (f : A → List A) (g : A → List B) → ((x : A) → flat_map g (f x) ≡ g x) → (xs : List A) → flat_map g (flat_map f xs) ≡ flat_map g xs
absorbed f g e [] = refl
absorbed f g e (x ∷ xs) = flat_map-append g (f x) (flat_map f xs) ∙ (ap (λ ys. ys ++ flat_map g (flat_map f xs)) (e x) ∙ ap (λ ys. g x ++ ys) (absorbed f g e xs))

pub filtered : {A : Type 0} (f : A → List A) (p : A → Bool) → ((x : A) → filter p (f x) ≡ filter p (x ∷ [])) → (xs : List A) → filter p (flat_map f xs) ≡ filter p xs
filtered f p e [] = refl
filtered f p e (x ∷ xs) = filter-append p (f x) (flat_map f xs) ∙ (ap (λ ys. ys ++ filter p (flat_map f xs)) (e x) ∙ (ap (λ ys. filter p (x ∷ []) ++ ys) (filtered f p e xs) ∙ sym (filter-append p (x ∷ []) xs)))

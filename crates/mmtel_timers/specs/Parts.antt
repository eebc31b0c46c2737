-- A shelf in parts: the items of each part in a list of their own, by the highest bits of their ranks.
use Rattle.std.specs.Prelude.{◌≡◌, ℕ, zero, suc, ◌+◌, ◌/◌, ◌^◌, ◌<◌, List, [], ◌∷◌, ◌++◌, length, Some, slice_get}
use Rattle.std.specs.List.{AllByRecursion}

-- the part of a rank
abbrev pub part_of : ℕ → ℕ
part_of rank = rank / 2 ^ 58

-- the items of all parts
abbrev pub joined : {X : Type 0} → List (List X) → List X
joined [] = []
joined (xs ∷ parts) = xs ++ joined parts

-- the items of the parts before one
abbrev pub items_before : {X : Type 0} → ℕ → List (List X) → List X
items_before zero parts = []
items_before (suc part) [] = []
items_before (suc part) (xs ∷ parts) = xs ++ items_before part parts

-- the item at a place among all is at this place of this part
pub record IsInPart {X : Type 0} (parts : List (List X)) (place part own : ℕ) : Type 0 where
  pub items : List X
  pub there : slice_get parts part ≡ Some items
  pub within : own < length items
  pub placed : place ≡ length (items_before part parts) + own

-- each item is in the part of its rank, where the first of these parts has this number
abbrev pub ArePartsFrom : {X : Type 0} → (X → ℕ) → ℕ → List (List X) → Type 0
ArePartsFrom rank part [] = Unit {0}
ArePartsFrom rank part (xs ∷ parts) = AllByRecursion (λ x. part_of (rank x) ≡ part) xs × ArePartsFrom rank (suc part) parts

-- the items are counted, and each is in the part of its rank
pub record IsPartedState {X : Type 0} (rank : X → ℕ) (len : ℕ) (parts : List (List X)) : Type 0 where
  pub count : len ≡ length (joined parts)
  pub parted : ArePartsFrom rank 0 parts

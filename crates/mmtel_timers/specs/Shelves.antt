-- Shelves: lists that are kept in an order, and that have the items of the elements of a list.
use Rattle.std.specs.Prelude.{◌≡◌, ◌⊎◌, ◌<◌, ℕ, Bool, true, false, Box, Option, Some, None, IfSome, slice_get, if◌then◌else◌, List, [], ◌∷◌, map}
use Rattle.std.specs.List.{AllByRecursion}
use Rattle.std.specs.List.Sorted.{IsPartitionPoint}
use Rattle.std.specs.Ordering.{is_lt}
use Rattle.std.specs.declared.cmp.Ordering.{Ordering}
use Rattle.std.specs.declared.cmp.Ordering.TheVariants.{Less}

-- what is stored in blocks of their own
abbrev pub unboxed_items : {X A : Type 0} → List (Box X A) → List X
unboxed_items blocks = map (λ b. b.value) blocks

-- an element is in a list
abbrev pub Has : {X : Type 0} → X → List X → Type 0
Has e [] = ⊥
Has e (x ∷ xs) = (e ≡ x) ⊎ Has e xs

-- each item comes before all that follow
abbrev pub Ascends : {X : Type 0} → (X → X → Ordering) → List X → Type 0
Ascends R [] = Unit {0}
Ascends R (x ∷ xs) = AllByRecursion (λ y. R x y ≡ Less) xs × Ascends R xs

-- numbers rise along a list
abbrev pub Rises : {E : Type 0} → (E → ℕ) → List E → Type 0
Rises key [] = Unit {0}
Rises key (e ∷ es) = AllByRecursion (λ x. key e < key x) es × Rises key es

-- the shelf is in order, and has the items of the elements and no other
pub record IsIndex {E X : Type 0} (item : E → Option X) (R : X → X → Ordering) (es : List E) (xs : List X) : Type 0 where
  pub ascends : Ascends R xs
  pub all : (e : E) (x : X) → Has e es → item e ≡ Some x → Has x xs
  pub only : (x : X) → Has x xs → (e : E) × Has e es × (item e ≡ Some x)

-- whether an item comes before another
abbrev pub comes_before : {X : Type 0} → (X → X → Ordering) → X → X → Bool
comes_before R x y = is_lt (R y x)

-- the number of what was found, if it is what was searched for
abbrev pub lookup_result : {X : Type 0} → (X → Bool) → (X → ℕ) → Option X → Option ℕ
lookup_result hits number None = None
lookup_result hits number (Some x) = if hits x then Some (number x) else None

-- what was found: the item at the place that separates what comes before from the rest, or nothing where that item has a higher rank than what was searched for
pub record IsFirstOfRank {X : Type 0} (rank : X → ℕ) (sought : ℕ) (before : X → Bool) (xs : List X) (found : Option X) : Type 0 where
  pub place : ℕ
  pub parted : IsPartitionPoint (λ x. before x ≡ true) (λ x. before x ≡ false) xs place
  pub item : (found ≡ slice_get xs place) ⊎ ((found ≡ None) × IfSome (slice_get xs place) (λ x. sought < rank x))

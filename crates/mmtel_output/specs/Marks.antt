-- The marks by which a call or a conference is found without examining each: hashes of the branches of its INVITEs and of the server's tags of its dialogs, and its transactions.
-- Equal bytes have equal hashes; others may have the same one too, so an owner that is found by a mark is examined whether it is the right one.
use Rattle.std.specs.Prelude.{ℕ, ◌≡◌, ◌<◌, ◌≤◌, Bool, true, not, ◌||◌, ◌&&◌, ◌==◌, List, [], ◌∷◌, ◌⊎◌, ⊤}
use Rattle.std.specs.List.{list_any}
use Rattle.std.specs.Ordering.{nat_cmp, ordering_then}
use Rattle.std.specs.declared.cmp.Ordering.{Ordering}
use Rattle.std.specs.BTreeSet.{contains}
use Rattle.mmtel_output.specs.declared.index.Index.{Index}
use Rattle.mmtel_output.specs.declared.marks.Key.{Key}
use Rattle.mmtel_output.specs.declared.marks.Mark.{Mark}
use Rattle.mmtel_output.specs.declared.marks.Mark.TheVariants.{Branch, ClientTransaction, LocalTag, ServerTransaction}

-- ---- marks as they are kept: by kind, by hash, and by the number of their owner

abbrev pub key_of : Mark → (owner : ℕ) → Key
key_of (Branch told) owner = record { kind = 0; hash = told; owner = owner }
key_of (ClientTransaction told) owner = record { kind = 1; hash = told; owner = owner }
key_of (ServerTransaction told) owner = record { kind = 2; hash = told; owner = owner }
key_of (LocalTag told) owner = record { kind = 3; hash = told; owner = owner }

abbrev pub key_cmp : Key → Key → Ordering
key_cmp x y = ordering_then (nat_cmp x.kind y.kind) (ordering_then (nat_cmp x.hash y.hash) (nat_cmp x.owner y.owner))

-- whether two keys are equal
abbrev pub is_same : Key → Key → Bool
is_same x y = (x.kind == y.kind) && (x.hash == y.hash) && (x.owner == y.owner)

-- a key that is in the index is held as long as it is not to be deleted; an index that is incomplete holds every key
unfoldable pub holds : Index → Key → Bool
holds index key = not index.is_complete || (contains key_cmp index.keys key && not (list_any (is_same key) index.pending_removals.items))

abbrev pub Holds : Index → Key → Type 0
Holds index key = holds index key ≡ true

abbrev pub Has : {X : Type 0} → X → List X → Type 0
Has x [] = ⊥
Has x (y ∷ ys) = (x ≡ y) ⊎ Has x ys

abbrev pub HoldsAll : Index → (owner : ℕ) → List Mark → Type 0
HoldsAll index owner marks = (m : Mark) → Has m marks → Holds index (key_of m owner)

-- these marks of the owner of this number were inserted, or removed, and those of the others stay
pub record MarkUpdate (stays : Bool) (owner : ℕ) (marks : List Mark) (before after : Index) : Type 0 where
  pub others : (k : Key) → (k.owner ≡ owner → ⊥) → Holds before k → Holds after k
  pub kept : stays ≡ true → (k : Key) → Holds before k → Holds after k
  pub noted : stays ≡ true → HoldsAll after owner marks

-- ---- owners, each of which has a number and marks

-- each number is greater than the one before it, the first greater than low, and the last not greater than high
abbrev pub Ascend : {X : Type 0} → (number : X → ℕ) → (low : ℕ) → List X → (high : ℕ) → Type 0
Ascend number low [] high = low ≤ high
Ascend number low (x ∷ xs) high = (low < number x) × Ascend number (number x) xs high

-- each is found by each of its marks
abbrev pub AreMarked : {X : Type 0} → (number : X → ℕ) → (marks : X → List Mark) → Index → List X → Type 0
AreMarked number marks index [] = ⊤
AreMarked number marks index (x ∷ xs) = HoldsAll index (number x) (marks x) × AreMarked number marks index xs

-- none of these has the mark
abbrev pub AreUnmarked : {X : Type 0} → (marks : X → List Mark) → Mark → List X → Type 0
AreUnmarked marks mark [] = ⊤
AreUnmarked marks mark (x ∷ xs) = (Has mark (marks x) → ⊥) × AreUnmarked marks mark xs

-- all of these have lower numbers
abbrev pub AreBelow : {X : Type 0} → (number : X → ℕ) → ℕ → List X → Type 0
AreBelow number high [] = ⊤
AreBelow number high (x ∷ xs) = (number x < high) × AreBelow number high xs

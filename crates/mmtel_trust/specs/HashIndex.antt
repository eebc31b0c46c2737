-- The positions of the items of a list: ordered pairs of a hash and a position. Each item has its pair among them; a pair may remain whose position has another item, or none, so
-- whatever is found is compared with what is sought.
use Rattle.std.specs.Prelude.{◌≡◌, ℕ, ◌≤◌, ◌<◌, Bool, true, false, List, Option, Some, None, slice_get}
use Rattle.std.specs.declared.cmp.Ordering.{Ordering}
use Rattle.std.specs.Ordering.{ordering_then, nat_cmp}
use Rattle.std.specs.List.{list_any}
use Rattle.std.specs.BTreeMap.{is_at}

-- the order of pairs: by hash, and then by position
abbrev pub pair_cmp : ℕ × ℕ → ℕ × ℕ → Ordering
pair_cmp a b = ordering_then (nat_cmp a.0 b.0) (nat_cmp a.1 b.1)

-- an item of the hash may be at the position
abbrev pub may_be_at : List (ℕ × ℕ) → ℕ → ℕ → Bool
may_be_at pairs hash place = list_any (is_at (pair_cmp (hash, place))) pairs

-- the first position at or after this one at which an item of the hash may be
abbrev pub IsNext : List (ℕ × ℕ) → ℕ → ℕ → Option ℕ → Type 0
IsNext pairs hash from None = (q : ℕ) → from ≤ q → may_be_at pairs hash q ≡ false
IsNext pairs hash from (Some place) = (from ≤ place) × ((q : ℕ) → from ≤ q → q < place → may_be_at pairs hash q ≡ false)

-- an item of the hash may be at the position from now on, and wherever one might be before
pub record HasAlso (hash place : ℕ) (old new : List (ℕ × ℕ)) : Type 0 where
  pub there : may_be_at new hash place ≡ true
  pub others : (h q : ℕ) → may_be_at old h q ≡ true → may_be_at new h q ≡ true

-- each item of the list is at a position at which an item of its hash may be
pub record IsIndex {A : Type 0} (hash : A → ℕ) (items : List A) (pairs : List (ℕ × ℕ)) : Type 0 where
  pub indexed : (i : ℕ) (x : A) → slice_get items i ≡ Some x → may_be_at pairs (hash x) i ≡ true

-- each item of the list that is sought is at such a position
pub record Covers {A : Type 0} (is : A → Bool) (hash : ℕ) (items : List A) (pairs : List (ℕ × ℕ)) : Type 0 where
  pub each : (i : ℕ) (x : A) → slice_get items i ≡ Some x → is x ≡ true → may_be_at pairs hash i ≡ true

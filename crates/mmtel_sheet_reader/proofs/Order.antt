-- Keys in byte order: what comes before a key comes before those after it.
use Rattle.std.proofs.Common.{◌≡◌, ℕ, true, List, Ordering, Less, Equal, Greater, nat_cmp, refl}
use Rattle.std.proofs.lemmas.Cmp.{nat_list_cmp_total}
use Rattle.std.specs.BTreeMap.Comparable.{le_lt_trans}
use Rattle.std.specs.Cmp.Lexicographic.{slice_cmp}
use Rattle.std.specs.Ordering.{is_lt, is_le}
use Rattle.toml.specs.Data.{Members, no_members, member, is_before}

less_of : (o : Ordering) → is_lt o ≡ true → o ≡ Less
less_of Less h = refl
less_of Equal h = absurd cc
less_of Greater h = absurd cc

le_of : (o : Ordering) → is_lt o ≡ true → is_le o ≡ true
le_of Less h = refl
le_of Equal h = absurd cc
le_of Greater h = absurd cc

pub before_through : (k l m : List ℕ) → is_lt (slice_cmp nat_cmp k l) ≡ true → is_lt (slice_cmp nat_cmp l m) ≡ true → is_lt (slice_cmp nat_cmp k m) ≡ true
before_through k l m a b = rw (le_lt_trans nat_list_cmp_total k l m (le_of (slice_cmp nat_cmp k l) a) (less_of (slice_cmp nat_cmp l m) b))

pub before_members : (k l : List ℕ) (ms : Members) → is_lt (slice_cmp nat_cmp k l) ≡ true → is_before l ms ≡ true → is_before k ms ≡ true
before_members k l no_members a b = refl
before_members k l (member m d ms) a b = before_through k l m a b

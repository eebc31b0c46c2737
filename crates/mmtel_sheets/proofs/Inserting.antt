-- A key that comes before all others is put first.
use Rattle.std.proofs.Common.{◌≡◌, ℕ, true, List, [], ◌∷◌, Option, Some, None, String, Global, Ordering, Less, Equal, Greater, string_bytes, refl, ap}
use Rattle.std.specs.BTreeMap.{insert_entry}
use Rattle.std.specs.Ordering.{is_lt, match_ordering}
use Rattle.std.specs.String.{string_cmp}
use Rattle.toml.specs.declared.value.Value.{Value}
use Rattle.toml.specs.Data.{Data, Members, member, is_before}
use Rattle.toml.specs.View.{view, members_view}
use Rattle.mmtel_sheet_reader.proofs.Order.{before_members}
use Rattle.mmtel_sheets.specs.Printing.{comes_before, with_key}

first_of_order : (o : Ordering) (k : String Global) (v : Value) (e : String Global × Value) (es more : List (String Global × Value)) → is_lt o ≡ true
    → match_ordering o ((k, v) ∷ e ∷ es) ((e.0, v) ∷ es) more ≡ (k, v) ∷ e ∷ es
first_of_order Less k v e es more h = refl
first_of_order Equal k v e es more h = absurd cc
first_of_order Greater k v e es more h = absurd cc

pub put_first : (k : String Global) (v : Value) (es : List (String Global × Value)) → is_before (string_bytes k) (members_view es) ≡ true
    → members_view (insert_entry string_cmp es k v) ≡ member (string_bytes k) (view v) (members_view es)
put_first k v [] h = refl
put_first k v (e ∷ es) h = ap members_view (first_of_order (string_cmp k e.0) k v e es (e ∷ insert_entry string_cmp es k v) h)

pub before_key : (k l : List ℕ) (o : Option Data) (ms : Members) → comes_before k l ≡ true → is_before l ms ≡ true → is_before k (with_key l o ms) ≡ true
before_key k l None ms a b = before_members k l ms a b
before_key k l (Some d) ms a b = a

pub put_named : (k : String Global) (name : List ℕ) (v : Value) (es fs : List (String Global × Value)) → string_bytes k ≡ name → fs ≡ insert_entry string_cmp es k v
    → is_before name (members_view es) ≡ true → members_view fs ≡ member name (view v) (members_view es)
put_named k name v es fs named grown h = rw (grown, ← named) (put_first k v es (rw named h))

pub before_first : (k l : List ℕ) (d : Data) (ms seen : Members) → seen ≡ member l d ms → comes_before k l ≡ true → is_before k seen ≡ true
before_first k l d ms seen e a = rw e a

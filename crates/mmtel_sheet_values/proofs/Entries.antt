-- The look-ups of a map of these entries, and the map and the set of keys after an entry was inserted or removed.
use Rattle.std.proofs.Common.{◌≡◌, ℕ, List, [], ◌∷◌, refl, ap, sym, ◌∙◌}
use Rattle.std.specs.Prelude.{Bool, true, false, ◌||◌, Option, Some, None, cond, map, is_some}
use Rattle.std.specs.List.{list_any}
use Rattle.std.specs.Option.{option_flatten}
use Rattle.std.specs.Ordering.{nat_cmp, is_eq}
use Rattle.std.specs.Cmp.{nat_cmp_total, eq_by_cmp_equiv}
use Rattle.std.specs.Map.{lookup}
use Rattle.std.specs.declared.cmp.Ordering.TheVariants.{Less, Equal, Greater}
use Rattle.std.specs.FinSet as set
use Rattle.std.specs.FinMap.{FinMap, find, get, insert, remove, from_entries, get-empty, get-insert, get-remove, get_tied, get-from_entries, same_map, nat_cmp-IsAntisymmetric}
use Rattle.std.specs.FinSet.{FinSet, contains, contains-insert, contains-from_list, contains_tied, same_set}
use Rattle.mmtel_sheet_values.specs.Slots.{with_slot, sheets_of, accounts_of}
use Rattle.mmtel_sheet_values.specs.declared.values.Sheet.{Sheet}

-- the look-up in a table of these entries
abbrev pub looked_up : {X : Type 0} → List (ℕ × X) → ℕ → Option X
looked_up es q = lookup (λ k. is_eq (nat_cmp q k)) es

-- the look-ups in the new entries are those in the old ones with this one
abbrev pub Puts : {X : Type 0} → List (ℕ × X) → List (ℕ × X) → ℕ → X → Type 0
Puts old new k v = (q : ℕ) → looked_up new q ≡ cond (is_eq (nat_cmp k q)) (Some v) (looked_up old q)

find-lookup : {X : Type 0} (es : List (ℕ × X)) (q : ℕ) → find nat_cmp q es ≡ looked_up es q
find-lookup [] q = refl
find-lookup (e ∷ es) q = ap (cond (is_eq (nat_cmp q e.0)) (Some e.1)) (find-lookup es q)

pub get-entries : {X : Type 0} (es : List (ℕ × X)) (q : ℕ) → get {R = nat_cmp} (from_entries es) q ≡ looked_up es q
get-entries es q = get-from_entries nat_cmp_total es q ∙ find-lookup es q

turned : (a b : ℕ) → is_eq (nat_cmp a b) ≡ is_eq (nat_cmp b a)
turned a b = (eq_by_cmp_equiv nat_cmp_total).symm a b

pub inserted : {X : Type 0} (old new : List (ℕ × X)) (k : ℕ) (v : X) → Puts old new k v → from_entries {R = nat_cmp} new ≡ insert (from_entries old) k v
inserted old new k v h = same_map nat_cmp_total nat_cmp-IsAntisymmetric _ _ (λ q.
    get-entries new q ∙ h q ∙ ap (λ b. cond b (Some v) (looked_up old q)) (turned k q) ∙ ap (cond (is_eq (nat_cmp q k)) (Some v)) (sym (get-entries old q)) ∙ sym (get-insert nat_cmp_total (from_entries old) k v q))

pub removed : {X : Type 0} (old new : List (ℕ × X)) (k : ℕ) → ((q : ℕ) → looked_up new q ≡ cond (is_eq (nat_cmp k q)) None (looked_up old q)) → from_entries {R = nat_cmp} new ≡ remove (from_entries old) k
removed old new k h = same_map nat_cmp_total nat_cmp-IsAntisymmetric _ _ (λ q.
    get-entries new q ∙ h q ∙ ap (λ b. cond b None (looked_up old q)) (turned k q) ∙ ap (cond (is_eq (nat_cmp q k)) None) (sym (get-entries old q)) ∙ sym (get-remove nat_cmp_total (from_entries old) k q))

-- ---- the sheets in entries

-- a choice between the contents of entries is the choice between the entries
flattened : (b : Bool) (place : Option Sheet) (other : Option (Option Sheet)) → cond b place (option_flatten other) ≡ option_flatten (cond b (Some place) other)
flattened true place other = refl
flattened false place other = refl

get-in_place : (m : FinMap nat_cmp Sheet) (k : ℕ) (place : Option Sheet) (q : ℕ) → get (with_slot m k place) q ≡ cond (is_eq (nat_cmp q k)) place (get m q)
get-in_place m k None q = get-remove nat_cmp_total m k q
get-in_place m k (Some s) q = get-insert nat_cmp_total m k s q

pub get-sheets : (es : List (ℕ × Option Sheet)) (q : ℕ) → get (sheets_of es) q ≡ option_flatten (looked_up es q)
get-sheets [] q = get-empty nat_cmp q
get-sheets (e ∷ es) q =
    get-in_place (sheets_of es) e.0 e.1 q
    ∙ ap (cond (is_eq (nat_cmp q e.0)) e.1) (get-sheets es q)
    ∙ flattened (is_eq (nat_cmp q e.0)) e.1 (looked_up es q)

pub placed : (old new : List (ℕ × Option Sheet)) (k : ℕ) (place : Option Sheet) → Puts old new k place → sheets_of new ≡ with_slot (sheets_of old) k place
placed old new k place h = same_map nat_cmp_total nat_cmp-IsAntisymmetric _ _ (λ q.
    get-sheets new q ∙ ap option_flatten (h q) ∙ ap (λ b. option_flatten (cond b (Some place) (looked_up old q))) (turned k q)
    ∙ sym (flattened (is_eq (nat_cmp q k)) place (looked_up old q)) ∙ ap (cond (is_eq (nat_cmp q k)) place) (sym (get-sheets old q)) ∙ sym (get-in_place (sheets_of old) k place q))

-- to remove what is absent changes nothing
pub none_removed : (m : FinMap nat_cmp Sheet) (k : ℕ) → get m k ≡ None → remove m k ≡ m
none_removed m k none = same_map nat_cmp_total nat_cmp-IsAntisymmetric _ _ (λ q.
    get-remove nat_cmp_total m k q
    ∙ elim (nat_cmp q k) as (λ r. nat_cmp q k ≡ r → cond (is_eq r) None (get m q) ≡ get m q) [
      | Less ↦ λ e. refl
      | Equal ↦ λ e. sym none ∙ get_tied nat_cmp_total m q k e
      | Greater ↦ λ e. refl
    ] refl)

-- ---- the accounts that have an entry

or-some : {X : Type 0} (b : Bool) (x : X) (other : Option X) → (b || is_some other) ≡ is_some (cond b (Some x) other)
or-some true x other = refl
or-some false x other = refl

any-lookup : {X : Type 0} (es : List (ℕ × X)) (q : ℕ) → list_any (λ k. is_eq (nat_cmp q k)) (map (λ e. e.0) es) ≡ is_some (looked_up es q)
any-lookup [] q = refl
any-lookup (e ∷ es) q = ap (λ b. is_eq (nat_cmp q e.0) || b) (any-lookup es q) ∙ or-some (is_eq (nat_cmp q e.0)) e.1 (looked_up es q)

pub contains-accounts : (es : List (ℕ × Option Sheet)) (q : ℕ) → contains (accounts_of es) q ≡ is_some (looked_up es q)
contains-accounts es q = contains-from_list nat_cmp_total (map (λ e. e.0) es) q ∙ any-lookup es q

pub counted : (old new : List (ℕ × Option Sheet)) (k : ℕ) (place : Option Sheet) → Puts old new k place → accounts_of new ≡ set.insert (accounts_of old) k
counted old new k place h = same_set nat_cmp_total nat_cmp-IsAntisymmetric _ _ (λ q.
    contains-accounts new q ∙ ap is_some (h q) ∙ ap (λ b. is_some (cond b (Some place) (looked_up old q))) (turned k q)
    ∙ sym (or-some (is_eq (nat_cmp q k)) place (looked_up old q)) ∙ ap (λ b. is_eq (nat_cmp q k) || b) (sym (contains-accounts old q)) ∙ sym (contains-insert nat_cmp_total (accounts_of old) k q))

-- to insert what is present changes nothing
pub one_inserted : (s : FinSet nat_cmp) (k : ℕ) → contains s k ≡ true → set.insert s k ≡ s
one_inserted s k there = same_set nat_cmp_total nat_cmp-IsAntisymmetric _ _ (λ q.
    contains-insert nat_cmp_total s k q
    ∙ elim (nat_cmp q k) as (λ r. nat_cmp q k ≡ r → (is_eq r || contains s q) ≡ contains s q) [
      | Less ↦ λ e. refl
      | Equal ↦ λ e. sym there ∙ contains_tied nat_cmp_total s q k e
      | Greater ↦ λ e. refl
    ] refl)

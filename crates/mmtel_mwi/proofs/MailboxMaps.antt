-- What a lookup in the map of these entries returns, and the map after an entry was inserted.
use Rattle.std.proofs.Common.{◌≡◌, ℕ, List, [], ◌∷◌, refl, ap, sym, ◌∙◌}
use Rattle.std.specs.Prelude.{Option, Some, cond}
use Rattle.std.specs.Ordering.{nat_cmp, is_eq}
use Rattle.std.specs.Cmp.{nat_cmp_total, eq_by_cmp_equiv}
use Rattle.std.specs.Map.{lookup}
use Rattle.std.specs.FinMap.{find, get, insert, from_entries, get-insert, get-from_entries, same_map, nat_cmp-IsAntisymmetric}
use Rattle.mmtel_mwi.specs.Boxes.{or_zero}
use Rattle.mmtel_mwi.specs.declared.counts.Counts.{Counts}

-- what a lookup among these entries returns
abbrev pub looked_up : List (ℕ × Counts) → ℕ → Option Counts
looked_up es q = lookup (λ k. is_eq (nat_cmp q k)) es

-- a lookup among the new entries returns what it returns among the old ones with this one inserted
abbrev pub Puts : List (ℕ × Counts) → List (ℕ × Counts) → ℕ → Counts → Type 0
Puts old new k v = (q : ℕ) → looked_up new q ≡ cond (is_eq (nat_cmp k q)) (Some v) (looked_up old q)

find-lookup : (es : List (ℕ × Counts)) (q : ℕ) → find nat_cmp q es ≡ looked_up es q
find-lookup [] q = refl
find-lookup (e ∷ es) q = ap (cond (is_eq (nat_cmp q e.0)) (Some e.1)) (find-lookup es q)

get-entries : (es : List (ℕ × Counts)) (q : ℕ) → get {R = nat_cmp} (from_entries es) q ≡ looked_up es q
get-entries es q = get-from_entries nat_cmp_total es q ∙ find-lookup es q

turned : (a b : ℕ) → is_eq (nat_cmp a b) ≡ is_eq (nat_cmp b a)
turned a b = (eq_by_cmp_equiv nat_cmp_total).symm a b

pub inserted : (old new : List (ℕ × Counts)) (k : ℕ) (v : Counts) → Puts old new k v → from_entries {R = nat_cmp} new ≡ insert (from_entries old) k v
inserted old new k v h = same_map nat_cmp_total nat_cmp-IsAntisymmetric _ _ (λ q.
    get-entries new q ∙ h q ∙ ap (λ b. cond b (Some v) (looked_up old q)) (turned k q)
    ∙ ap (cond (is_eq (nat_cmp q k)) (Some v)) (sym (get-entries old q)) ∙ sym (get-insert nat_cmp_total (from_entries old) k v q))

pub told : (es : List (ℕ × Counts)) (q : ℕ) (o : Option Counts) → o ≡ looked_up es q → or_zero o ≡ or_zero (get {R = nat_cmp} (from_entries es) q)
told es q o is = ap or_zero is ∙ ap or_zero (sym (get-entries es q))

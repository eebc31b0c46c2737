-- A sheet that is put is one account's, and space that was reserved remains.
use Rattle.std.proofs.Common.{◌≡◌, ◌≢◌, ℕ, refl, ap, sym, ◌∙◌}
use Rattle.std.specs.Prelude.{Bool, true, false, ◌||◌, Some, cond}
use Rattle.std.specs.Ordering.{nat_cmp, is_eq}
use Rattle.std.specs.Cmp.{nat_cmp_total, tied_itself}
use Rattle.std.specs.declared.cmp.Ordering.TheVariants.{Less, Equal, Greater}
use Rattle.std.specs.FinMap.{get, get-insert, nat_cmp-IsAntisymmetric}
use Rattle.std.specs.FinSet.{FinSet, contains, insert, contains-insert}
use Rattle.mmtel_sheet_values.specs.View.{SheetsInForce, sheet_in, with_sheet}
use Rattle.mmtel_sheet_values.specs.declared.values.Sheet.{Sheet}

pub its : (v : SheetsInForce) (a : ℕ) (s : Sheet) → sheet_in (with_sheet v a s) a ≡ Some s
its v a s = get-insert nat_cmp_total v.sheets a s a ∙ ap (λ r. cond (is_eq r) (Some s) (get v.sheets a)) (tied_itself nat_cmp_total a)

pub others : (v : SheetsInForce) (a b : ℕ) (s : Sheet) → a ≢ b → sheet_in (with_sheet v a s) b ≡ sheet_in v b
others v a b s apart =
    get-insert nat_cmp_total v.sheets a s b
    ∙ elim (nat_cmp b a) as (λ r. nat_cmp b a ≡ r → cond (is_eq r) (Some s) (get v.sheets b) ≡ get v.sheets b) [
      | Less ↦ λ e. refl
      | Equal ↦ λ e. absurd (apart (sym (nat_cmp-IsAntisymmetric b a e)))
      | Greater ↦ λ e. refl
    ] refl

pub inserted : (s : FinSet nat_cmp) (a : ℕ) → contains (insert s a) a ≡ true
inserted s a = contains-insert nat_cmp_total s a a ∙ ap (λ r. is_eq r || contains s a) (tied_itself nat_cmp_total a)

or-true : (b : Bool) → (b || true) ≡ true
or-true true = refl
or-true false = refl

pub stays : (s : FinSet nat_cmp) (a b : ℕ) → contains s b ≡ true → contains (insert s a) b ≡ true
stays s a b there = contains-insert nat_cmp_total s a b ∙ ap (λ c. is_eq (nat_cmp b a) || c) there ∙ or-true (is_eq (nat_cmp b a))

-- The contents of a map of counts after one entry was inserted or removed.
use Rattle.std.proofs.Common.{◌≡◌, ℕ, ◌+◌, ◌∷◌, [], List, Bool, true, false, Option, Some, cond, refl, ap, sym, arith, ◌∙◌}
use Rattle.std.proofs.lemmas.Bool.Decides.{nat_tests}
use Rattle.std.specs.Prelude.{◌==◌, ◌-◌}
use Rattle.std.specs.Cmp.{nat_cmp_total, unsigned_tied}
use Rattle.std.specs.FinMap.{find, from_entries, get-from_entries}
use Rattle.std.specs.Map.{lookup}
use Rattle.std.specs.Ordering.{is_eq, nat_cmp}
use Rattle.mmtel_types.specs.declared.numbers.Account.{Account}
use Rattle.mmtel_call_services.specs.Busy.{calls_of, one_of, or_zero}

abbrev looked_up : List (ℕ × ℕ) → ℕ → Option ℕ
looked_up es n = lookup (λ k. is_eq (nat_cmp n k)) es

-- the new entries give the same values as the old ones, except for this number
abbrev Puts : (old new : List (ℕ × ℕ)) → ℕ → Option ℕ → Type 0
Puts old new a count = (n : ℕ) → looked_up new n ≡ cond (is_eq (nat_cmp a n)) count (looked_up old n)

find-lookup : (es : List (ℕ × ℕ)) (n : ℕ) → find nat_cmp n es ≡ looked_up es n
find-lookup [] n = refl
find-lookup (e ∷ es) n = ap (cond (is_eq (nat_cmp n e.0)) (Some e.1)) (find-lookup es n)

pub counted : (es : List (ℕ × ℕ)) (n : ℕ) → or_zero (looked_up es n) ≡ calls_of (from_entries es) n
counted es n = ap or_zero (sym (find-lookup es n)) ∙ ap or_zero (sym (get-from_entries nat_cmp_total es n))

chosen : (b : Bool) (count found : Option ℕ) → or_zero (cond b count found) ≡ cond b (or_zero count) (or_zero found)
chosen true count found = refl
chosen false count found = refl

put_in : (old new : List (ℕ × ℕ)) (a : ℕ) (count : Option ℕ) → Puts old new a count → (n : ℕ) → calls_of (from_entries new) n ≡ cond (a == n) (or_zero count) (calls_of (from_entries old) n)
put_in old new a count puts n =
    sym (counted new n)
    ∙ ap or_zero (puts n)
    ∙ chosen (is_eq (nat_cmp a n)) count (looked_up old n)
    ∙ ap (λ (b : Bool). cond b (or_zero count) (or_zero (looked_up old n))) (unsigned_tied a n)
    ∙ ap (cond (a == n) (or_zero count)) (counted old n)

one_more : (f : ℕ → ℕ) (a count n : ℕ) → count ≡ f a + 1 → cond (a == n) count (f n) ≡ f n + cond (a == n) 1 0
one_more f a count n is = elim (a == n) as (λ b. (a == n) ≡ b → cond b count (f n) ≡ f n + cond b 1 0) [
  | true ↦ λ e. let same : a ≡ n = grind (arith, nat_tests) in is ∙ ap (λ m. f m + 1) same
  | false ↦ λ e. omega arith
] refl

one_less : (f : ℕ → ℕ) (a count n : ℕ) → count ≡ f a - 1 → cond (a == n) count (f n) ≡ f n - cond (a == n) 1 0
one_less f a count n is = elim (a == n) as (λ b. (a == n) ≡ b → cond b count (f n) ≡ f n - cond b 1 0) [
  | true ↦ λ e. let same : a ≡ n = grind (arith, nat_tests) in is ∙ ap (λ m. f m - 1) same
  | false ↦ λ e. omega arith
] refl

pub added : (old new : List (ℕ × ℕ)) (account : Account) (count : ℕ) → count ≡ calls_of (from_entries old) account.0 + 1 → Puts old new account.0 (Some count)
    → (n : ℕ) → calls_of (from_entries new) n ≡ calls_of (from_entries old) n + one_of account n
added old new account count is puts n = put_in old new account.0 (Some count) puts n ∙ one_more (calls_of (from_entries old)) account.0 count n is

pub removed : (old new : List (ℕ × ℕ)) (account : Account) (count : Option ℕ) → or_zero count ≡ calls_of (from_entries old) account.0 - 1 → Puts old new account.0 count
    → (n : ℕ) → calls_of (from_entries new) n ≡ calls_of (from_entries old) n - one_of account n
removed old new account count is puts n = put_in old new account.0 count puts n ∙ one_less (calls_of (from_entries old)) account.0 (or_zero count) n is

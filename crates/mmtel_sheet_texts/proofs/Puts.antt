-- A sheet is put at the first index of its account, or after the others.
use Rattle.std.proofs.Common.{◌≡◌, Bool, ℕ, zero, suc, ◌+◌, ◌==◌, List, [], ◌∷◌, ◌++◌, Option, Some, None, refl, ap, subst, slice_set, get_or, arith, inl, inr}
use Rattle.std.proofs.lemmas.Bool.{cases_Bool}
use Rattle.std.specs.Prelude.{position}
use Rattle.std.specs.Option.{option_map}
use Rattle.mmtel_base.proofs.Positions.{position_yes, position_no}
use Rattle.mmtel_types.specs.declared.numbers.Account.{Account}
use Rattle.mmtel_sheet_texts.specs.Texts.{put, set_text}

same_some : (a b : ℕ) → Some a ≡ Some b → a ≡ b
same_some a b e = cc

mapped : (o : Option ℕ) (n : ℕ) → option_map (λ m. m + 1) o ≡ Some n → (m : ℕ) × (o ≡ Some m) × (suc m ≡ n)
mapped None n e = absurd cc
mapped (Some m) n e = (m, refl, omega (arith, same_some (m + 1) n e))

unmapped : (o : Option ℕ) → option_map (λ m. m + 1) o ≡ None → o ≡ None
unmapped None e = refl
unmapped (Some m) e = absurd cc

abbrev is_its : Account → Account × List ℕ → Bool
is_its account entry = entry.0.0 == account.0

pub put_there : (account : Account) (text : List ℕ) (sheets : List (Account × List ℕ)) (at : ℕ) → position (λ entry. entry.0.0 == account.0) sheets ≡ Some at → slice_set sheets at (account, text) ≡ put account text sheets
put_there account text [] at e = absurd cc
put_there account text (s ∷ ss) at e =
    elim (cases_Bool (is_its account s)) [
      | inl y ↦
          subst (λ (k : ℕ). slice_set (s ∷ ss) k (account, text) ≡ put account text (s ∷ ss))
          (same_some 0 at (rw (position_yes (is_its account) s ss y) at e)) (rw y refl)
      | inr other ↦
          let p = mapped (position (is_its account) ss) at (rw (position_no (is_its account) s ss other) at e) in
          subst (λ (k : ℕ). slice_set (s ∷ ss) k (account, text) ≡ put account text (s ∷ ss)) p.2
          (rw (other, put_there account text ss p.0 p.1) refl)
    ]

pub put_behind : (account : Account) (text : List ℕ) (sheets : List (Account × List ℕ)) → position (λ entry. entry.0.0 == account.0) sheets ≡ None → sheets ++ (account, text) ∷ [] ≡ put account text sheets
put_behind account text [] e = refl
put_behind account text (s ∷ ss) e =
    elim (cases_Bool (is_its account s)) [
      | inl y ↦ let f = rw (position_yes (is_its account) s ss y) at e in absurd cc
      | inr other ↦
          let f = unmapped (position (is_its account) ss) (rw (position_no (is_its account) s ss other) at e) in
          rw (other, put_behind account text ss f) refl
    ]

pub set_there : (sheets : List (Account × List ℕ)) (at : ℕ) (text : List ℕ) (s : Account × List ℕ) → s ≡ get_or sheets at s → slice_set sheets at (s.0, text) ≡ set_text sheets at text
set_there [] at text s is = refl
set_there (x ∷ xs) zero text s is = ap (λ (y : Account × List ℕ). (y.0, text) ∷ xs) is
set_there (x ∷ xs) (suc at) text s is = ap (λ (l : List (Account × List ℕ)). x ∷ l) (set_there xs at text s is)

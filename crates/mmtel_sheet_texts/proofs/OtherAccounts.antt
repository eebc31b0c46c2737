-- A text that is put is one account's.
use Rattle.std.proofs.Common.{◌≡◌, ◌≢◌, ◌==◌, true, false, ℕ, List, [], ◌∷◌, Some, refl, inl, inr}
use Rattle.std.proofs.lemmas.Bool.{cases_Bool, eqb-true, eq-eqb, ne_eqb}
use Rattle.mmtel_types.specs.declared.numbers.Account.{Account}
use Rattle.mmtel_sheet_texts.specs.Texts.{put, text_at}

pub its : (a : Account) (text : List ℕ) (s : List (Account × List ℕ)) → text_at (put a text s) a ≡ Some text
its a text [] = let same : (a.0 == a.0) ≡ true = eq-eqb a.0 a.0 refl in rw same refl
its a text (x ∷ s) =
    let same : (a.0 == a.0) ≡ true = eq-eqb a.0 a.0 refl in
    elim (cases_Bool (x.0.0 == a.0)) [
      | inl y ↦ rw (y, same) refl
      | inr n ↦ rw (n, n) (its a text s)
    ]

pub others : (a b : Account) (text : List ℕ) (s : List (Account × List ℕ)) → a.0 ≢ b.0 → text_at (put a text s) b ≡ text_at s b
others a b text [] apart = let e : (a.0 == b.0) ≡ false = ne_eqb a.0 b.0 apart in rw e refl
others a b text (x ∷ s) apart =
    let e : (a.0 == b.0) ≡ false = ne_eqb a.0 b.0 apart in
    elim (cases_Bool (x.0.0 == a.0)) [
      | inl y ↦
          let v : x.0.0 ≡ a.0 = eqb-true x.0.0 a.0 y in
          let f : (x.0.0 == b.0) ≡ false = rw v e in
          rw (y, e, f) refl
      | inr n ↦ rw (n, others a b text s apart) refl
    ]

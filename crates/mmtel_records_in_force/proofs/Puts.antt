-- A text that is put is one account's, and so is its sheet.
use Rattle.std.proofs.Common.{◌≡◌, ◌≢◌, ◌==◌, ◌++◌, ◌∙◌, true, false, ℕ, ◌+◌, List, [], ◌∷◌, ◌<◌, take, get_or, length, add-one, Option, Some, None, refl, sym, ap, subst, inl, inr}
use Rattle.std.specs.Prelude.{cond, unwrap_or}
use Rattle.std.specs.Option.{option_map}
use Rattle.std.specs.Cmp.{nat_cmp_total, tied_itself}
use Rattle.std.specs.FinMap.{get-empty, get-insert, nat_cmp-IsAntisymmetric}
use Rattle.std.specs.Ordering.{is_eq, nat_cmp}
use Rattle.std.specs.declared.cmp.Ordering.{Ordering}
use Rattle.std.specs.declared.cmp.Ordering.TheVariants.{Less, Equal, Greater}
use Rattle.std.proofs.Math.Seq.{take-suc}
use Rattle.std.proofs.lemmas.Bool.{cases_Bool, eq-eqb, eqb-true, eqb-false, ne_eqb}
use Rattle.mmtel_sheet_grammar.specs.Texts.{stored_sheet}
use Rattle.mmtel_sheet_texts.specs.Texts.{put, text_at}
use Rattle.mmtel_sheet_values.specs.View.{SheetsInForce, no_sheets, registration_end_in, sheet_in, with_registration_end, with_sheet}
use Rattle.mmtel_sheet_values.specs.declared.values.Sheet.{Sheet}
use Rattle.mmtel_types.specs.declared.numbers.Account.{Account}
use Rattle.mmtel_records_in_force.specs.Texts.{Registrations, Texts, put_each, record_of, registration_end_at}

abbrev pub PutsItsOwn : Type 0
PutsItsOwn = (a : Account) (text : List ℕ) (s : List (Account × List ℕ)) → text_at (put a text s) a ≡ Some text

abbrev pub PutsNoOther : Type 0
PutsNoOther = (a b : Account) (text : List ℕ) (s : List (Account × List ℕ)) → a.0 ≢ b.0 → text_at (put a text s) b ≡ text_at s b

module _ (its : PutsItsOwn) (others : PutsNoOther) where
  pub record_put : (a : Account) (text : List ℕ) (s : Texts) → record_of (put a text s) a ≡ stored_sheet text
  record_put a text s = ap (λ (o : Option (List ℕ)). stored_sheet (unwrap_or o [])) (its a text s)

  pub record_kept : (a b : Account) (text : List ℕ) (s : Texts) → a.0 ≢ b.0 → record_of (put a text s) b ≡ record_of s b
  record_kept a b text s apart = ap (λ (o : Option (List ℕ)). stored_sheet (unwrap_or o [])) (others a b text s apart)

  -- of an account that has the number
  text_of_number : (a b : Account) (text : List ℕ) (s : Texts) → a.0 ≡ b.0 → text_at (put a text s) b ≡ Some text
  text_of_number a b text s same = let P : ℕ → Type 0 = λ n. text_at (put a text s) (record { 0 = n }) ≡ Some text in subst P same (its a text s)

  -- tables that agree still agree after a put
  pub agree_on : (a : Account) (text : List ℕ) (s : Texts) (v : SheetsInForce) (sheet : Sheet)
      → ((b : ℕ) → a.0 ≢ b → sheet_in (with_sheet v a.0 sheet) b ≡ sheet_in v b) → sheet_in (with_sheet v a.0 sheet) a.0 ≡ Some sheet
      → sheet ≡ stored_sheet text → ((b : Account) → sheet_in v b.0 ≡ option_map stored_sheet (text_at s b)) → (b : Account) → sheet_in (with_sheet v a.0 sheet) b.0 ≡ option_map stored_sheet (text_at (put a text s) b)
  agree_on a text s v sheet apart own is agree b = elim (cases_Bool (a.0 == b.0)) [
    | inl y ↦
        let same : a.0 ≡ b.0 = eqb-true a.0 b.0 y in
        let mine : sheet_in (with_sheet v a.0 sheet) b.0 ≡ Some sheet = subst (λ (n : ℕ). sheet_in (with_sheet v a.0 sheet) n ≡ Some sheet) same own in
        mine ∙ (ap (λ (x : Sheet). Some x) is ∙ sym (ap (option_map stored_sheet) (text_of_number a b text s same)))
    | inr n ↦
        let other : a.0 ≢ b.0 = eqb-false a.0 b.0 n in
        apart b.0 other ∙ (agree b ∙ sym (ap (option_map stored_sheet) (others a b text s other)))
  ]

-- one more is put over those before it
pub each_last : (xs t : Texts) (x : Account × List ℕ) → put_each (xs ++ x ∷ []) t ≡ put x.0 x.1 (put_each xs t)
each_last [] t x = refl
each_last (y ∷ xs) t x = each_last xs (put y.0 y.1 t) x

-- ---- registrations

-- a registration that is added is the account's from then on
pub ends_on : (view : SheetsInForce) (a : Account) (until : ℕ) (rs : Registrations) → ((b : Account) → registration_end_in view b.0 ≡ registration_end_at rs b)
    → (b : Account) → registration_end_in (with_registration_end view a.0 (Some until)) b.0 ≡ registration_end_at ((a, until) ∷ rs) b
ends_on view a until rs same b =
    get-insert nat_cmp_total view.registration_ends a.0 until b.0
    ∙ elim (nat_cmp b.0 a.0) as (λ r. nat_cmp b.0 a.0 ≡ r → cond (is_eq r) (Some until) (registration_end_in view b.0) ≡ registration_end_at ((a, until) ∷ rs) b) [
      | Less ↦ λ e. let n : (a.0 == b.0) ≡ false = ne_eqb a.0 b.0 (apart Less e (λ x. cc)) in rw n (same b)
      | Equal ↦ λ e. let y : (a.0 == b.0) ≡ true = eq-eqb a.0 b.0 (sym (nat_cmp-IsAntisymmetric b.0 a.0 e)) in rw y refl
      | Greater ↦ λ e. let n : (a.0 == b.0) ≡ false = ne_eqb a.0 b.0 (apart Greater e (λ x. cc)) in rw n (same b)
    ] refl where
      apart : (r : Ordering) → nat_cmp b.0 a.0 ≡ r → (r ≡ Equal → ⊥) → a.0 ≢ b.0
      apart r e other same_number =
          let tied : nat_cmp b.0 a.0 ≡ Equal = subst (λ (n : ℕ). nat_cmp n a.0 ≡ Equal) same_number (tied_itself nat_cmp_total a.0) in
          other (sym e ∙ tied)

-- ---- loading

-- one more of the loaded texts
pub loads_one : (xs : Texts) (i : ℕ) (x : Account × List ℕ) (t : Texts) → i < length xs → x ≡ get_or xs i x → t ≡ put_each (take i xs) [] → put x.0 x.1 t ≡ put_each (take (i + 1) xs) []
loads_one xs i x t less is e =
    let next : take (i + 1) xs ≡ take i xs ++ x ∷ [] = rw add-one (take-suc xs i x less ∙ ap (λ (y : Account × List ℕ). take i xs ++ y ∷ []) (sym is)) in
    ap (put x.0 x.1) e ∙ (sym (each_last (take i xs) [] x) ∙ ap (λ (l : Texts). put_each l []) (sym next))

-- where no record was uploaded and no registration has an end
pub no_sheet : (account : Account) → sheet_in no_sheets account.0 ≡ None
no_sheet account = get-empty nat_cmp account.0

pub no_end : (account : Account) → registration_end_in no_sheets account.0 ≡ None
no_end account = get-empty nat_cmp account.0

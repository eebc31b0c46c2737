-- A sip URI that represents a telephone number.
use Rattle.std.proofs.Common.{◌≡◌, Bool, true, not, ℕ, List, [], ◌∷◌, Option, Some, refl, sym, ap, ◌∙◌, arith}
use Rattle.std.specs.Prelude.{◌↔◌, IsTrue}
use Rattle.std.specs.List.{list_all}
use Rattle.std.proofs.lemmas.Bool.Decides.{nat_tests}
use Rattle.mmtel_base.specs.Classes.{in_class}
use Rattle.mmtel_base.specs.Classes.{IsAll}
use Rattle.mmtel_lex.specs.Identity.{is_visual_separator, without_separators, has_user_phone, IsPhone}
use Rattle.mmtel_base.specs.declared.classes.Class.TheVariants.{Digit}
use Rattle.mmtel_lex.specs.declared.values.Param.{Param}
use Rattle.mmtel_base.proofs.Runs.{and_true}

digit_kept : (b : ℕ) → in_class Digit b ≡ true → not (is_visual_separator b) ≡ true
unfolding in_class
digit_kept b e = grind (arith, nat_tests)

digits_kept : (ds : List ℕ) → IsAll Digit ds → without_separators ds ≡ ds
digits_kept [] each = refl
digits_kept (b ∷ ds) each =
    let both = and_true (in_class Digit b) (list_all (in_class Digit) ds) each in
    rw (digit_kept b both.0) (ap (λ (l : List ℕ). b ∷ l) (digits_kept ds both.1))

plus_kept : (ds : List ℕ) → IsAll Digit ds → without_separators (43 ∷ ds) ≡ 43 ∷ ds
plus_kept ds each = ap (λ (l : List ℕ). 43 ∷ l) (digits_kept ds each)

abbrev pub IsPlus : List ℕ → Type 0
IsPlus bytes = (digits : List ℕ) × (bytes ≡ 43 ∷ digits) × IsAll Digit digits

same_bytes : (user : Option (List ℕ)) (a b : List ℕ) → user ≡ Some a → user ≡ Some b → a ≡ b
same_bytes user a b e f = cc

pub joined : (user : Option (List ℕ)) (bytes : List ℕ) (ps : List Param) (number : List ℕ) (r : Bool) → user ≡ Some bytes → IsPlus bytes → has_user_phone ps ≡ true →
    (IsTrue r ↔ (without_separators bytes ≡ without_separators number)) → IsTrue r ↔ IsPhone user ps (without_separators number)
joined user bytes ps number r is plus phone same = (
  λ t. (plus.0, is ∙ ap (λ (l : List ℕ). Some l) plus.1, plus.2, phone, sym (same.0 t) ∙ ap without_separators plus.1 ∙ plus_kept plus.0 plus.2),
  λ p. same.1 (ap without_separators (same_bytes user bytes (43 ∷ p.0) is p.1) ∙ plus_kept p.0 p.2 ∙ sym p.4),
)

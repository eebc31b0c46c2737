-- A name that is spelled in full stays so, and is a token.
use Rattle.std.proofs.Common.{◌≡◌, ◌==◌, ◌&&◌, ◌||◌, not, Bool, true, false, ℕ, List, [], ◌∷◌, length, Option, Some, None, refl, subst, inl, inr}
use Rattle.std.proofs.lemmas.Bool.{cases_Bool}
use Rattle.std.proofs.lemmas.Slice.Eq.{bytes_eq-Decides}
use Rattle.std.specs.List.{list_all}
use Rattle.std.specs.Str.{bytes_eq, str_eq_ignore_ascii_case}
use Rattle.mmtel_base.specs.Classes.{in_class}
use Rattle.mmtel_base.specs.declared.classes.Class.TheVariants.{Token}
use Rattle.mmtel_base.proofs.Runs.{and_true}
use Rattle.mmtel_base.proofs.ChainTheorems.{filled_by}
use Rattle.mmtel_lex.specs.Grammar.{IsToken}
use Rattle.mmtel_message.specs.Names.{compact_forms, more_compact_forms, routing_names, content_names, caller_names, network_names, of_forms, of_names, or_else, long_name}

-- a name that is its own spelling, and a token
abbrev is_fixed : List ℕ → Bool
is_fixed n = bytes_eq (long_name n) n && (not (length n == 0) && list_all (in_class Token) n)

pub record IsFixed (n : List ℕ) : Type 0 where
  pub spelled : long_name n ≡ n
  pub token : IsToken n

not_true : (b : Bool) → not b ≡ true → b ≡ false
not_true true e = absurd cc
not_true false e = refl

fixed_is : (n : List ℕ) → is_fixed n ≡ true → IsFixed n
fixed_is n e =
    let a = and_true (bytes_eq (long_name n) n) (not (length n == 0) && list_all (in_class Token) n) e in
    let b = and_true (not (length n == 0)) (list_all (in_class Token) n) a.1 in
    record { spelled = (bytes_eq-Decides (long_name n) n).0 a.0; token = record { filled = filled_by (length n) (not_true (length n == 0) b.0); each = b.1 } }

abbrev are_fixed : List (List ℕ) → Bool
are_fixed names = list_all is_fixed names

abbrev are_fixed_forms : List (List ℕ × List ℕ) → Bool
are_fixed_forms forms = list_all (λ x. is_fixed x.1) forms

in_names : (names : List (List ℕ)) (n m : List ℕ) → are_fixed names ≡ true → of_names names n ≡ Some m → IsFixed m
in_names [] n m e f = absurd cc
in_names (name ∷ names) n m e f =
    let both = and_true (is_fixed name) (are_fixed names) e in
    elim (cases_Bool (str_eq_ignore_ascii_case n name)) [
      | inl y ↦ let same : name ≡ m = (let g = rw y at f in cc) in subst (λ (x : List ℕ). IsFixed x) same (fixed_is name both.0)
      | inr other ↦ in_names names n m both.1 (rw other at f)
    ]

in_forms : (forms : List (List ℕ × List ℕ)) (n m : List ℕ) → are_fixed_forms forms ≡ true → of_forms forms n ≡ Some m → IsFixed m
in_forms [] n m e f = absurd cc
in_forms (x ∷ forms) n m e f =
    let both = and_true (is_fixed x.1) (are_fixed_forms forms) e in
    elim (cases_Bool (str_eq_ignore_ascii_case n x.1 || str_eq_ignore_ascii_case n x.0)) [
      | inl y ↦ let same : x.1 ≡ m = (let g = rw y at f in cc) in subst (λ (z : List ℕ). IsFixed z) same (fixed_is x.1 both.0)
      | inr other ↦ in_forms forms n m both.1 (rw other at f)
    ]

or_fixed : (o : Option (List ℕ)) (other : List ℕ) → ((m : List ℕ) → o ≡ Some m → IsFixed m) → (o ≡ None → IsFixed other) → IsFixed (or_else o other)
or_fixed None other found rest = rest refl
or_fixed (Some m) other found rest = found m refl

-- the spelling of a name that is a token
pub long_fixed : (n : List ℕ) → IsToken n → IsFixed (long_name n)
unfolding in_class
long_fixed n token =
    or_fixed (of_forms compact_forms n) _ (λ m f. in_forms compact_forms n m refl f) (λ none1.
    or_fixed (of_forms more_compact_forms n) _ (λ m f. in_forms more_compact_forms n m refl f) (λ none2.
    or_fixed (of_names routing_names n) _ (λ m f. in_names routing_names n m refl f) (λ none3.
    or_fixed (of_names content_names n) _ (λ m f. in_names content_names n m refl f) (λ none4.
    or_fixed (of_names caller_names n) _ (λ m f. in_names caller_names n m refl f) (λ none5.
    or_fixed (of_names network_names n) n (λ m f. in_names network_names n m refl f) (λ none6.
    record { spelled = rw (none1, none2, none3, none4, none5, none6) refl; token = token }))))))

-- A number is written as the decimal digits of its value, and read where they are written.
use Rattle.std.proofs.Common.{◌≡◌, true, false, nat_lt, ℕ, ◌≤◌, ◌<◌, ◌^◌, List, [], ◌∷◌, length, get_or, Option, Some, None, refl, ap, sym, ◌∙◌, arith, inl, inr}
use Rattle.std.specs.Prelude.{decimal, IfSome}
use Rattle.std.specs.Str.{all_ascii_digits}
use Rattle.std.specs.Str.Parse.{digits_value, AllDigits}
use Rattle.std.specs.Char.{digit_value, is_ascii_digit}
use Rattle.std.specs.List.{list_all}
use Rattle.std.proofs.lemmas.Bool.{cases_Bool}
use Rattle.std.proofs.lemmas.Bool.Decides.{nat_tests}
use Rattle.std.proofs.lemmas.Fmt.{decimal-digits_value, decimal_is_IsNumeral, decimal_digit, first_decimal}
use Rattle.std.proofs.lemmas.Str.Parse.{numerals_by_value, tells_all_ascii_digits}
use Rattle.mmtel_base.specs.Classes.{in_class, IsAll}
use Rattle.mmtel_base.specs.declared.classes.Class.TheVariants.{Digit}
use Rattle.mmtel_base.proofs.ChainTheorems.{unless_some}
use Rattle.mmtel_base.proofs.NumberTheorems.{number_takes, number_again}
use Rattle.mmtel_base.proofs.Runs.{and_true}
use Rattle.mmtel_base.specs.Numbers.{Writes, has_leading_zero, number_of, plain_number}

ascii_digit : (c : ℕ) → in_class Digit c ≡ true → is_ascii_digit c ≡ true
unfolding in_class
ascii_digit c e = e

ascii_digits : (ds : List ℕ) → IsAll Digit ds → all_ascii_digits ds ≡ true
ascii_digits [] each = refl
ascii_digits (c ∷ ds) each =
    let both = and_true (in_class Digit c) (list_all (in_class Digit) ds) each in
    rw (ascii_digit c both.0, ascii_digits ds both.1) refl

class_digit : (c : ℕ) → digit_value c < 10 → in_class Digit c ≡ true
unfolding in_class
class_digit c lt = grind (arith, nat_tests)

class_digits : (ds : List ℕ) → AllDigits 10 ds → IsAll Digit ds
class_digits [] all = refl
class_digits (c ∷ ds) all = rw (class_digit c all.0, class_digits ds all.1) refl

-- a number that is printed is written by its digits
pub decimal_writes : (n : ℕ) → n < 2 ^ 64 → Writes (decimal n) n
decimal_writes n small =
    let numeral = decimal_is_IsNumeral n small in
    record { digits = record { filled = numeral.0.0; each = class_digits (decimal n) numeral.0.1 }; value = numeral.1 }

zero_alone : (ds : List ℕ) → 0 < length ds → has_leading_zero ds ≡ false → get_or ds 0 0 ≡ 48 → length ds ≡ 1
zero_alone [] filled plain e = absurd (omega arith)
zero_alone (b ∷ []) filled plain e = refl
zero_alone (b ∷ c ∷ ds) filled plain e = absurd (grind (arith, nat_tests, plain, e))

pub spelled : (limit : ℕ) (s : List ℕ) (n : ℕ) → limit < 2 ^ 64 → plain_number limit s ≡ Some n → s ≡ decimal n
spelled limit s n small e =
    let plain = unless_some (has_leading_zero s) (number_of limit s) n e in
    let is = number_takes limit s n plain.1 in
    let worth : digits_value 10 s ≡ n = is.0.value in
    let fits : digits_value 10 s < 2 ^ 64 = omega (arith, worth, is.1) in
    let text : decimal (digits_value 10 s) ≡ s =
    decimal-digits_value (numerals_by_value (λ ds. all_ascii_digits ds ≡ true) tells_all_ascii_digits) s (ascii_digits s is.0.digits.each) is.0.digits.filled (zero_alone s is.0.digits.filled plain.0) fits in
    sym text ∙ ap decimal worth

leads_other : (s : List ℕ) → 48 < get_or s 0 0 → has_leading_zero s ≡ false
leads_other [] lt = refl
leads_other (b ∷ []) lt = refl
leads_other (b ∷ c ∷ s) lt = grind (arith, nat_tests)

decimal_plain : (n : ℕ) → n < 2 ^ 64 → has_leading_zero (decimal n) ≡ false
decimal_plain n small =
    elim (cases_Bool (nat_lt 0 n)) [
      | inl y ↦
          let filled : 0 < n = grind (arith, nat_tests, y) in
          leads_other (decimal n) (first_decimal n filled small)
      | inr m ↦
          let none : n ≡ 0 = grind (arith, nat_tests, m) in
          let lt : n < 10 = omega arith in
          rw (decimal_digit n lt) refl
    ]

reads_decimal : (limit n : ℕ) → limit < 2 ^ 64 → n ≤ limit → plain_number limit (decimal n) ≡ Some n
reads_decimal limit n small le =
    let fits : n < 2 ^ 64 = omega arith in
    rw (decimal_plain n fits) (number_again limit (decimal n) n (decimal_writes n fits) le)

pub reads : (limit : ℕ) (s : List ℕ) → limit < 2 ^ 64 → (n : ℕ) → n ≤ limit → s ≡ decimal n → plain_number limit s ≡ Some n
reads limit s small n le e = rw e (reads_decimal limit n small le)

-- ---- of the result of a function

pub if_spelled : (limit : ℕ) (s : List ℕ) (answer : Option ℕ) → limit < 2 ^ 64 → plain_number limit s ≡ answer → IfSome answer (λ n. s ≡ decimal n)
if_spelled limit s None small e = tt
if_spelled limit s (Some n) small e = spelled limit s n small e

pub by_digits : (limit : ℕ) (s : List ℕ) → has_leading_zero s ≡ false → plain_number limit s ≡ number_of limit s
by_digits limit s plain = rw plain refl

pub by_zero : (limit : ℕ) (s : List ℕ) → has_leading_zero s ≡ true → plain_number limit s ≡ None
by_zero limit s zero = rw zero refl

-- Digits and the number that they write.
use Rattle.std.proofs.Common.{◌≡◌, nat_lt, None, true, false, ℕ, zero, suc, ◌+◌, ◌*◌, ◌-◌, ◌≤◌, ◌<◌, List, [], ◌∷◌, ◌++◌, length, take, drop, get_or, refl, sym, ap, ◌∙◌, arith}
use Rattle.std.proofs.lemmas.List.{take-append-drop}
use Rattle.std.specs.List.{list_all}
use Rattle.std.specs.Prelude.{nat_le}
use Rattle.std.specs.Char.{digit_value}
use Rattle.std.specs.Str.Parse.{digits_value, digits_value_after}
use Rattle.std.proofs.lemmas.Int.Digits.{digits_value_more}
use Rattle.std.proofs.lemmas.Bool.Decides.{nat_tests}
use Rattle.mmtel_base.specs.Classes.{in_class, is_digit}
use Rattle.mmtel_base.specs.declared.classes.Class.TheVariants.{Digit}
use Rattle.mmtel_base.specs.Classes.{IsAll}
use Rattle.mmtel_base.specs.Numbers.{value_up_to}
use Rattle.mmtel_base.proofs.Runs.{and_true}

after_ge : (n : ℕ) (ds : List ℕ) → n ≤ digits_value_after 10 n ds
after_ge n [] = omega arith
after_ge n (c ∷ ds) = omega (arith, after_ge (n * 10 + digit_value c) ds)

after_append : (n : ℕ) (xs ys : List ℕ) → digits_value_after 10 n (xs ++ ys) ≡ digits_value_after 10 (digits_value_after 10 n xs) ys
after_append n [] ys = refl
after_append n (x ∷ xs) ys = after_append (n * 10 + digit_value x) xs ys

-- the value of the digits is not less than that of a prefix
pub front_le : (i : ℕ) (ds : List ℕ) → digits_value 10 (take i ds) ≤ digits_value 10 ds
front_le i ds =
    let parts : digits_value 10 ds ≡ digits_value_after 10 (digits_value 10 (take i ds)) (drop i ds) = ap (λ (t : List ℕ). digits_value 10 t) (sym (take-append-drop i ds)) ∙ after_append 0 (take i ds) (drop i ds) in
    omega (arith, parts, after_ge (digits_value 10 (take i ds)) (drop i ds))

pub record IsDigit (c : ℕ) : Type 0 where
  pub low : 48 ≤ c
  pub high : c ≤ 57
  pub worth : digit_value c ≡ c - 48

value_is : (c : ℕ) → 48 ≤ c → c ≤ 57 → digit_value c ≡ c - 48
value_is c low high =
    let a : nat_lt c 48 ≡ false = grind (arith, nat_tests) in
    let b : nat_lt c 58 ≡ true = grind (arith, nat_tests) in
    rw (a, b) refl

digit_is : (c : ℕ) → is_digit c ≡ true → IsDigit c
digit_is c e =
    let both = and_true (nat_le 48 c) (nat_le c 57) e in
    let low : 48 ≤ c = grind (arith, nat_tests, both.0) in
    let high : c ≤ 57 = grind (arith, nat_tests, both.1) in
    record { low = low; high = high; worth = value_is c low high }

pub digit_at : (ds : List ℕ) (i : ℕ) → IsAll Digit ds → i < length ds → IsDigit (get_or ds i 0)
unfolding in_class
digit_at [] i each lt = absurd (omega arith)
digit_at (c ∷ ds) zero each lt = digit_is c (and_true (is_digit c) (list_all (in_class Digit) ds) each).0
digit_at (c ∷ ds) (suc i) each lt = digit_at ds i (and_true (is_digit c) (list_all (in_class Digit) ds) each).1 (omega arith)

pub one_more : (ds : List ℕ) (i n : ℕ) → IsAll Digit ds → i < length ds → n ≡ digits_value 10 (take i ds) → n * 10 + (get_or ds i 0 - 48) ≡ digits_value 10 (take (i + 1) ds)
one_more ds i n each lt e =
    let worth : digit_value (get_or ds i 0) ≡ get_or ds i 0 - 48 = (digit_at ds i each lt).worth in
    omega (arith, digits_value_more 10 ds i lt, worth, e)

pub over : (limit : ℕ) (ds : List ℕ) → limit < digits_value 10 ds → value_up_to limit ds ≡ None
unfolding value_up_to
over limit ds large =
    let over : nat_lt limit (digits_value 10 ds) ≡ true = grind (arith, nat_tests) in
    rw over refl

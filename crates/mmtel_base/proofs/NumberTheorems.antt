-- A number that is read is written by those digits, and the digits of a number are read as that number.
use Rattle.std.proofs.Common.{◌≡◌, ◌==◌, nat_lt, false, cond, ℕ, ◌≤◌, List, length, Some, None, refl, arith}
use Rattle.std.specs.List.{list_all}
use Rattle.std.specs.Str.Parse.{digits_value}
use Rattle.std.proofs.lemmas.Bool.Decides.{nat_tests}
use Rattle.mmtel_base.specs.Classes.{in_class}
use Rattle.mmtel_base.specs.declared.classes.Class.TheVariants.{Digit}
use Rattle.mmtel_base.specs.Numbers.{value_up_to, number_of, Writes}
use Rattle.mmtel_base.proofs.ChainTheorems.{unless_some, where_some, some_is, filled_by, filled_test}

within_takes : (limit : ℕ) (s : List ℕ) (n : ℕ) → value_up_to limit s ≡ Some n → (digits_value 10 s ≡ n) × (n ≤ limit)
unfolding value_up_to
within_takes limit s n e =
    let g = unless_some (nat_lt limit (digits_value 10 s)) (Some (digits_value 10 s)) n e in
    let same : digits_value 10 s ≡ n = some_is (digits_value 10 s) n g.1 in
    let fits : digits_value 10 s ≤ limit = grind (arith, nat_tests, g.0) in
    (same, omega arith)

pub number_takes : (limit : ℕ) (s : List ℕ) (n : ℕ) → number_of limit s ≡ Some n → Writes s n × (n ≤ limit)
unfolding number_of
number_takes limit s n e =
    let g = unless_some (length s == 0) (cond (list_all (in_class Digit) s) (value_up_to limit s) None) n e in
    let d = where_some (list_all (in_class Digit) s) (value_up_to limit s) n g.1 in
    let w = within_takes limit s n d.1 in
    (record { digits = record { filled = filled_by _ g.0; each = d.0 }; value = w.0 }, w.1)

not_over : (n m : ℕ) → m ≤ n → nat_lt n m ≡ false
not_over n m le = grind (arith, nat_tests)

pub number_again : (limit : ℕ) (s : List ℕ) (n : ℕ) → Writes s n → n ≤ limit → number_of limit s ≡ Some n
unfolding number_of value_up_to
number_again limit s n is le = rw (filled_test (length s) is.digits.filled, is.digits.each, is.value, not_over limit n le) refl

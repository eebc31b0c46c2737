-- Numbers in decimal digits: those of SIP may begin with zeros (RFC 3261 §25.1: 1*DIGIT), those of this project's own formats may not.
use Rattle.std.specs.Prelude.{◌≡◌, Bool, false, [], Option, Some, None, ◌==◌, if◌then◌else◌, ℕ, nat_lt, ◌+◌, ◌-◌, ◌^◌, min, List, ◌∷◌, ◌++◌, length, decimal}
use Rattle.std.specs.List.{list_all}
use Rattle.std.specs.Str.Parse.{digits_value}
use Rattle.mmtel_base.specs.Classes.{in_class, IsOneOrMore}
use Rattle.mmtel_base.specs.declared.classes.Class.TheVariants.{Digit}

-- the number that the digits write, where it is at most the limit
unfoldable pub value_up_to : ℕ → List ℕ → Option ℕ
value_up_to limit digits = if nat_lt limit (digits_value 10 digits) then None else Some (digits_value 10 digits)

-- the number, where the bytes are one digit or more and nothing else, and it is at most the limit
unfoldable pub number_of : ℕ → List ℕ → Option ℕ
number_of limit s = if length s == 0 then None else if list_all (in_class Digit) s then value_up_to limit s else None

-- one digit or more that write this number
pub record Writes (s : List ℕ) (n : ℕ) : Type 0 where
  pub digits : IsOneOrMore Digit s
  pub value : digits_value 10 s ≡ n

-- a zero comes first and is not alone
abbrev pub has_leading_zero : List ℕ → Bool
has_leading_zero [] = false
has_leading_zero (b ∷ []) = false
has_leading_zero (b ∷ c ∷ s) = b == 48

-- the number, at most the limit, that these decimal digits without leading zeros write
abbrev pub plain_number : ℕ → List ℕ → Option ℕ
plain_number limit s = if has_leading_zero s then None else number_of limit s

-- the value of a tag, branch or Call-ID that is made of a token and a number: the token, a '-' and the number (RFC 3261 §19.3, §8.1.1.7, §8.1.1.4)
abbrev pub token_text : List ℕ → ℕ → List ℕ
token_text token n = token ++ 45 ∷ decimal n

-- the number after this one, in 64 bits: after the greatest it stays the greatest
abbrev pub next_number : ℕ → ℕ
next_number n = min (n + 1) (2 ^ 64 - 1)

-- Classes of bytes (RFC 3261 §25.1, RFC 3966 §3).
use Rattle.std.specs.Prelude.{ℕ, Bool, true, false, ◌&&◌, ◌||◌, nat_le, ◌==◌, not, ◌≡◌, ◌<◌, List, [], ◌∷◌, length}
use Rattle.std.specs.List.{list_all}
use Rattle.mmtel_base.specs.declared.classes.Class.{Class}
use Rattle.mmtel_base.specs.declared.classes.Class.TheVariants.{Letter, Digit, Token, Host, User, Phone, SchemeRest, Blank, Display, UriByte, BareByte}

-- ALPHA
abbrev pub is_letter : ℕ → Bool
is_letter b = (nat_le 65 b && nat_le b 90) || (nat_le 97 b && nat_le b 122)

-- DIGIT
abbrev pub is_digit : ℕ → Bool
is_digit b = nat_le 48 b && nat_le b 57

-- a byte of a token: a letter, a digit, or one of - . ! % * _ + ` ' ~
abbrev pub is_token : ℕ → Bool
is_token b = is_letter b || is_digit b || b == 33 || b == 37 || b == 39 || b == 42 || b == 43 || b == 45 || b == 46 || b == 95 || b == 96 || b == 126

-- the bytes of a class; visible bytes are 33 to 126
unfoldable pub in_class : Class → ℕ → Bool
in_class Letter b = is_letter b
in_class Digit b = is_digit b
in_class Token b = is_token b
in_class Host b = is_letter b || is_digit b || b == 45 || b == 46
in_class User b = nat_le 33 b && nat_le b 126 && not (b == 34) && not (b == 60) && not (b == 62) && not (b == 64)
in_class Phone b = is_digit b || b == 40 || b == 41 || b == 45 || b == 46
in_class SchemeRest b = is_letter b || is_digit b || b == 43 || b == 45 || b == 46
in_class Blank b = b == 32 || b == 9
in_class Display b = b == 32 || b == 9 || is_token b
in_class UriByte b = nat_le 33 b && nat_le b 126 && not (b == 34) && not (b == 60) && not (b == 62)
in_class BareByte b = nat_le 33 b && nat_le b 126 && not (b == 34) && not (b == 60) && not (b == 62) && not (b == 44) && not (b == 59) && not (b == 63)

-- each byte is of the class
abbrev pub IsAll : Class → List ℕ → Type 0
IsAll k s = list_all (in_class k) s ≡ true

-- no byte of the class comes first
abbrev pub Stops : Class → List ℕ → Type 0
Stops k [] = Unit {0}
Stops k (b ∷ s) = in_class k b ≡ false

-- one byte or more, each of the class
pub record IsOneOrMore (k : Class) (s : List ℕ) : Type 0 where
  pub filled : 0 < length s
  pub each : IsAll k s

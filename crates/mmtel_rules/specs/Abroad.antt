-- Which targets are abroad (TS 24.611 §4.9.1.3, condition international): global telephone numbers (RFC 3966 §5.1.4) of another country than that of the server.
use Rattle.std.specs.Prelude.{ℕ, List, [], ◌∷◌, Bool, true, false, not, ◌==◌, ◌&&◌, Option, Some, None, if◌then◌else◌}
use Rattle.std.specs.Option.{option_map_or}
use Rattle.mmtel_base.specs.Classes.{in_class}
use Rattle.mmtel_base.specs.declared.classes.Class.TheVariants.{Digit}
use Rattle.std.specs.List.{list_all}
use Rattle.mmtel_lex.specs.Identity.{has_user_phone, without_separators}
use Rattle.mmtel_lex.specs.declared.values.Param.{Param}
use Rattle.mmtel_lex.specs.declared.values.Uri.{Uri}
use Rattle.mmtel_lex.specs.declared.values.Uri.TheVariants.{Sip, Tel}

-- the digits after a '+'
abbrev pub digits_after_plus : List ℕ → Option (List ℕ)
digits_after_plus [] = None
digits_after_plus (b ∷ s) = if b == 43 then Some s else None

-- one digit or more, and digits alone
abbrev pub are_digits : List ℕ → Bool
are_digits [] = false
are_digits (b ∷ s) = in_class Digit b && list_all (in_class Digit) s

abbrev pub if_digits : Option (List ℕ) → Option (List ℕ)
if_digits None = None
if_digits (Some digits) = if are_digits digits then Some digits else None

-- of a sip URI that represents a telephone number (RFC 3261 §19.1.6)
abbrev pub user_digits : Option (List ℕ) → List Param → Option (List ℕ)
user_digits None params = None
user_digits (Some user) params = if has_user_phone params then if_digits (digits_after_plus user) else None

-- what follows the '+' of the global number that the URI is, or represents
abbrev pub global_digits : Uri → Option (List ℕ)
global_digits (Sip user host port params headers) = user_digits user params
global_digits (Tel number params) = digits_after_plus number

-- the first is a prefix of the second
abbrev pub is_prefix_of : List ℕ → List ℕ → Bool
is_prefix_of [] s = true
is_prefix_of (b ∷ bs) [] = false
is_prefix_of (b ∷ bs) (c ∷ s) = b == c && is_prefix_of bs s

-- a number of another country: its digits, without visual separators, do not begin with those of the home country; none is where that is not known
abbrev pub is_abroad : Uri → (country : Option (List ℕ)) → Bool
is_abroad uri None = false
is_abroad uri (Some country) = option_map_or (λ digits. not (is_prefix_of country (without_separators digits))) (global_digits uri) false

-- Which URIs name one identity: two sip URIs by user and host, two tel URIs by their numbers without visual separators (RFC 3966 §3 and §4), a sip and a tel URI where the
-- sip URI represents the number (RFC 3261 §19.1.6).
use Rattle.std.specs.Prelude.{◌≡◌, ℕ, Bool, true, false, not, ◌==◌, ◌||◌, List, ◌∷◌, Option, Some, None, codes, filter}
use Rattle.std.specs.Str.{str_to_ascii_lowercase, bytes_eq}
use Rattle.mmtel_base.specs.Classes.{IsAll}
use Rattle.mmtel_base.specs.declared.classes.Class.TheVariants.{Digit}
use Rattle.mmtel_lex.specs.declared.values.Param.{Param}
use Rattle.mmtel_lex.specs.declared.values.Uri.{Uri}
use Rattle.mmtel_lex.specs.declared.values.Uri.TheVariants.{Sip, Tel}
use Rattle.mmtel_lex.specs.Params.{param_value}

-- a visual separator: '-', '.', '(' or ')' (RFC 3966 §3)
abbrev pub is_visual_separator : ℕ → Bool
is_visual_separator b = b == 45 || b == 46 || b == 40 || b == 41

-- the number without its visual separators
abbrev pub without_separators : List ℕ → List ℕ
without_separators number = filter (λ b. not (is_visual_separator b)) number

-- the value 'phone', byte for byte
abbrev pub is_phone_value : Option (List ℕ) → Bool
is_phone_value None = false
is_phone_value (Some value) = bytes_eq value (codes "phone")

-- the first parameter 'user', its name in any case, has the value 'phone' (RFC 3261 §19.1.1)
abbrev pub has_user_phone : List Param → Bool
has_user_phone params = is_phone_value (param_value (codes "user") params)

-- a sip URI with this user and these parameters represents the telephone number: its user is '+' and digits, and is the number
abbrev pub IsPhone : Option (List ℕ) → List Param → List ℕ → Type 0
IsPhone user params number =
    (digits : List ℕ) × (user ≡ Some (43 ∷ digits)) × IsAll Digit digits × (has_user_phone params ≡ true) × (number ≡ 43 ∷ digits)

-- the URIs name the same identity
abbrev pub IsSameIdentity : Uri → Uri → Type 0
IsSameIdentity (Sip u h p ps hs) (Sip v g q qs gs) = (u ≡ v) × (str_to_ascii_lowercase h ≡ str_to_ascii_lowercase g)
IsSameIdentity (Sip u h p ps hs) (Tel number qs) = IsPhone u ps (without_separators number)
IsSameIdentity (Tel number qs) (Sip u h p ps hs) = IsPhone u ps (without_separators number)
IsSameIdentity (Tel m ps) (Tel n qs) = without_separators m ≡ without_separators n

-- the host of a sip URI
abbrev pub host_of : Uri → Option (List ℕ)
host_of (Sip user host port params headers) = Some host
host_of (Tel number params) = None

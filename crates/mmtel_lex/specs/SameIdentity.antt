-- Whether URIs name one identity, as a computable test (RFC 3966 §3 and §4, RFC 3261 §19.1.6); a theorem says that it is the relation IsSameIdentity.
use Rattle.std.specs.Prelude.{ℕ, Bool, true, false, ◌&&◌, ◌==◌, List, [], ◌∷◌, Option, Some, None}
use Rattle.std.specs.List.{list_all}
use Rattle.std.specs.Str.{bytes_eq, str_eq_ignore_ascii_case}
use Rattle.mmtel_base.specs.Classes.{in_class}
use Rattle.mmtel_base.specs.declared.classes.Class.TheVariants.{Digit}
use Rattle.mmtel_lex.specs.Identity.{without_separators, has_user_phone}
use Rattle.mmtel_lex.specs.declared.values.Param.{Param}
use Rattle.mmtel_lex.specs.declared.values.Uri.{Uri}
use Rattle.mmtel_lex.specs.declared.values.Uri.TheVariants.{Sip, Tel}

abbrev pub is_same_user : Option (List ℕ) → Option (List ℕ) → Bool
is_same_user None None = true
is_same_user None (Some v) = false
is_same_user (Some u) None = false
is_same_user (Some u) (Some v) = bytes_eq u v

-- '+' and digits
abbrev pub is_plus_digits : List ℕ → Bool
is_plus_digits [] = false
is_plus_digits (b ∷ s) = b == 43 && list_all (in_class Digit) s

-- a sip URI with this user and these parameters represents the telephone number
abbrev pub is_phone : Option (List ℕ) → List Param → List ℕ → Bool
is_phone None params number = false
is_phone (Some u) params number = is_plus_digits u && (has_user_phone params && bytes_eq number u)

-- the URIs name the same identity
unfoldable pub is_same_identity : Uri → Uri → Bool
is_same_identity (Sip u h p ps hs) (Sip v g q qs gs) = is_same_user u v && str_eq_ignore_ascii_case h g
is_same_identity (Sip u h p ps hs) (Tel number qs) = is_phone u ps (without_separators number)
is_same_identity (Tel number qs) (Sip u h p ps hs) = is_phone u ps (without_separators number)
is_same_identity (Tel m ps) (Tel n qs) = bytes_eq (without_separators m) (without_separators n)

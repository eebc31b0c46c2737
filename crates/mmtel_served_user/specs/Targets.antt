-- Targets of a call: the Request-URI, and the URIs to which it is diverted. A diversion to a telephone number goes to the home domain (RFC 3261 §19.1.6, RFC 3966 §5.1.4).
use Rattle.std.specs.Prelude.{ℕ, ◌==◌, Bool, false, not, ◌&&◌, Option, Some, None, is_none, List, [], ◌∷◌, Result, Ok, Err, codes, if◌then◌else◌}
use Rattle.std.specs.Str.{str_eq_ignore_ascii_case}
use Rattle.mmtel_lex.specs.Identity.{without_separators}
use Rattle.mmtel_lex.specs.Reading.{Refusal, uri_of}
use Rattle.mmtel_lex.specs.declared.values.Param.{Param}
use Rattle.mmtel_lex.specs.declared.values.Uri.{Uri}
use Rattle.mmtel_lex.specs.declared.values.Uri.TheVariants.{Sip, Tel}
use Rattle.mmtel_types.specs.declared.numbers.Account.{Account}
use Rattle.mmtel_served_user.specs.declared.targets.Target.{Target}

-- ---- the first target

-- a URI that was read, unchanged; none for what is no URI, or one of another scheme than sip and tel
abbrev pub requested_target : Result Uri Refusal → Option Target
requested_target (Ok uri) = Some (record { uri = uri; of_number = false })
requested_target (Err refusal) = None

-- the target that a Request-URI of these bytes names
abbrev pub first_target : (uri : List ℕ) → Option Target
first_target uri = requested_target (uri_of uri)

-- ---- the target of a diversion

-- it begins with '+' (RFC 3966 §5.1.4)
abbrev pub is_global : List ℕ → Bool
is_global [] = false
is_global (b ∷ rest) = b == 43

-- a tel URI of a global number
abbrev pub is_global_number : Uri → Bool
is_global_number (Sip user host port params headers) = false
is_global_number (Tel number params) = is_global number

-- the sip URI that represents the number in a domain
abbrev pub phone_uri : (number domain : List ℕ) → Uri
phone_uri number domain = Sip (Some number) domain None (record { name = codes "user"; value = Some (codes "phone") } ∷ []) []

-- a global number goes to the home domain, without its visual separators and without parameters; any other tel URI stays
abbrev pub tel_target : (home number : List ℕ) → List Param → Uri
tel_target home number params = if is_global number then phone_uri (without_separators number) home else Tel number params

-- the new target of a diversion to this URI
abbrev pub new_target : (home : List ℕ) → Uri → Uri
new_target home (Sip user host port params headers) = Sip user host port params headers
new_target home (Tel number params) = tel_target home number params

-- with a flag that says whether it was made from a number
abbrev pub diverted_target : (home : List ℕ) → Uri → Target
diverted_target home uri = record { uri = new_target home uri; of_number = is_global_number uri }

-- ---- the home domain

-- a sip URI whose host is the home domain, without case (RFC 3261 §19.1.4)
abbrev pub is_at_home : (home : List ℕ) → Uri → Bool
is_at_home home (Sip user host port params headers) = str_eq_ignore_ascii_case host home
is_at_home home (Tel number params) = false

-- a target that belongs to nobody: it is in the home domain and of no account, and was not made from a number
abbrev pub is_unknown : (home : List ℕ) → Option Account → Target → Bool
is_unknown home account target = is_none account && (is_at_home home target.uri && not target.of_number)

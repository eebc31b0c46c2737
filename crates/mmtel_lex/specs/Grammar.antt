-- How parameters, URIs and name-addrs are spelled: which lists of bytes are of the grammar, and the value that each spells (RFC 3261 §19.1.1, §20.10 and §25.1, RFC 3966 §3).
-- Each relation is about the whole list: it is its parts, one after the other.
use Rattle.std.specs.Prelude.{reverse, ◌≡◌, ℕ, ◌<◌, List, [], ◌∷◌, ◌++◌, length, true, false, Option, ◌≢◌, ◌⊎◌, codes, decimal, Some, None, IfSome}
use Rattle.std.specs.List.{list_any, flat_map}
use Rattle.std.specs.Str.{str_to_ascii_lowercase}
use Rattle.mmtel_base.specs.Numbers.{Writes}
use Rattle.mmtel_base.specs.Scanning.{is_quoted_content, IsFree}
use Rattle.mmtel_base.specs.Classes.{is_letter, is_digit, IsAll, Stops, IsOneOrMore}
use Rattle.mmtel_base.specs.declared.classes.Class.TheVariants.{Token, Host, User, Phone, SchemeRest, Blank, Display, UriByte, BareByte}
use Rattle.mmtel_lex.specs.declared.values.Param.{Param}
use Rattle.mmtel_lex.specs.declared.values.NameAddr.{NameAddr}
use Rattle.mmtel_lex.specs.declared.values.Uri.{Uri}
use Rattle.mmtel_lex.specs.declared.values.Uri.TheVariants.{Sip, Tel}

-- ---- parameters (RFC 3261 §25.1: generic-param)

-- a token
abbrev pub IsToken : List ℕ → Type 0
IsToken s = IsOneOrMore Token s

-- a quoted string, its quotes included: within, a quote occurs only after a backslash
pub record IsQuoted (s : List ℕ) : Type 0 where
  pub inner : List ℕ
  pub whole : s ≡ 34 ∷ (inner ++ 34 ∷ [])
  pub inner_in : is_quoted_content false inner ≡ true

-- the value of a parameter: a token or a quoted string (a host is a token)
abbrev pub IsValue : List ℕ → Type 0
IsValue s = IsToken s ⊎ IsQuoted s

-- the text of a value: an '=' before it
abbrev pub value_text : Option (List ℕ) → List ℕ
value_text None = []
value_text (Some v) = 61 ∷ v

-- the text of a parameter: ;name or ;name=value
abbrev pub param_text : Param → List ℕ
param_text p = 59 ∷ (p.name ++ value_text p.value)

-- a name that is a token, with a value or with none
pub record IsParam (p : Param) : Type 0 where
  pub name : IsToken p.name
  pub value : IfSome p.value IsValue

-- the text of parameters: one after the other
abbrev pub params_text : List Param → List ℕ
params_text ps = flat_map param_text ps

-- each is one
abbrev pub AreParams : List Param → Type 0
AreParams [] = Unit {0}
AreParams (p ∷ ps) = IsParam p × AreParams ps

-- the bytes are parameters, each after its ';', and these are the ones that they spell
pub record IsParams (s : List ℕ) (ps : List Param) : Type 0 where
  pub whole : s ≡ params_text ps
  pub params_in : AreParams ps

-- ---- URIs (RFC 3261 §19.1.1, RFC 3966 §3)

-- the text of a user: an '@' after it
abbrev pub user_text : Option (List ℕ) → List ℕ
user_text None = []
user_text (Some u) = u ++ 64 ∷ []

-- the text of the header part: a '?' before it, where there is one
abbrev pub headers_text : List ℕ → List ℕ
headers_text [] = []
headers_text (h ∷ hs) = 63 ∷ h ∷ hs

-- digits that write a port, 1 to 65535
pub record IsPortOf (digits : List ℕ) (port : ℕ) : Type 0 where
  pub writes : Writes digits port
  pub low : 0 < port
  pub high : port < 65536

-- the text of a port, or of none
abbrev pub IsPort : List ℕ → Option ℕ → Type 0
IsPort text None = text ≡ []
IsPort text (Some port) = (digits : List ℕ) × (text ≡ 58 ∷ digits) × IsPortOf digits port

-- what may follow 'sip:': a user and '@', where there is a user, the host, a port, parameters and the header part; the '@' after the user is the only one. No byte
-- is a blank, a control character, a quote or an angle bracket: no value of a parameter is a quoted string here (uri-parameter)
pub record IsSip (s : List ℕ) (user : Option (List ℕ)) (host : List ℕ) (port : Option ℕ) (params : List Param) (headers : List ℕ) : Type 0 where
  pub bytes_in : IsAll UriByte s
  pub port_text : List ℕ
  pub whole : s ≡ user_text user ++ (host ++ (port_text ++ (params_text params ++ headers_text headers)))
  pub user_in : IfSome user (IsOneOrMore User)
  pub lone : IsFree 64 (host ++ (port_text ++ (params_text params ++ headers_text headers)))
  pub host_in : IsOneOrMore Host host
  pub host_fits : length host < 256
  pub port_in : IsPort port_text port
  pub params_in : AreParams params
  pub headers_in : IsAll User headers

-- a telephone number: a '+' or none, then digits and visual separators, with a digit among them (RFC 3966 §3)
pub record IsNumber (number : List ℕ) : Type 0 where
  pub sign : List ℕ
  pub phone_digits : List ℕ
  pub whole : number ≡ sign ++ phone_digits
  pub sign_in : (sign ≡ []) ⊎ (sign ≡ 43 ∷ [])
  pub phone_digits_in : IsAll Phone phone_digits
  pub digit_in : list_any is_digit phone_digits ≡ true

-- what may follow 'tel:': a number and parameters, of the same bytes as after 'sip:'
pub record IsTel (s : List ℕ) (number : List ℕ) (params : List Param) : Type 0 where
  pub bytes_in : IsAll UriByte s
  pub whole : s ≡ number ++ params_text params
  pub number_in : IsNumber number
  pub params_in : AreParams params

-- the name of a scheme: a letter, then letters, digits, '+', '-' and '.' (RFC 3261 §25.1: scheme)
abbrev pub IsSchemeName : List ℕ → Type 0
IsSchemeName [] = ⊥
IsSchemeName (b ∷ s) = (is_letter b ≡ true) × IsAll SchemeRest s

-- the bytes begin with a scheme of this name, and this follows its ':'
pub record BeginsWith (s name rest : List ℕ) : Type 0 where
  pub whole : s ≡ name ++ 58 ∷ rest
  pub name_in : IsSchemeName name

-- the name is that of the URI's scheme, in any case of letters
abbrev pub IsNamed : List ℕ → Uri → Type 0
IsNamed name (Sip user host port params headers) = str_to_ascii_lowercase name ≡ codes "sip"
IsNamed name (Tel number params) = str_to_ascii_lowercase name ≡ codes "tel"

-- what follows the scheme spells the URI
abbrev pub IsRest : List ℕ → Uri → Type 0
IsRest s (Sip user host port params headers) = IsSip s user host port params headers
IsRest s (Tel number params) = IsTel s number params

-- the bytes are of the grammar, and this is the URI that they spell
pub record IsUri (s : List ℕ) (u : Uri) : Type 0 where
  pub name : List ℕ
  pub rest : List ℕ
  pub begins : BeginsWith s name rest
  pub named : IsNamed name u
  pub rest_in : IsRest rest u

-- the bytes begin with a scheme whose name is neither sip nor tel
pub record IsForeign (s : List ℕ) : Type 0 where
  pub name : List ℕ
  pub rest : List ℕ
  pub begins : BeginsWith s name rest
  pub not_sip : str_to_ascii_lowercase name ≢ codes "sip"
  pub not_tel : str_to_ascii_lowercase name ≢ codes "tel"

-- the bytes are neither of the grammar nor of another scheme
pub record IsNoUri (s : List ℕ) : Type 0 where
  pub of_none : (u : Uri) → IsUri s u → ⊥
  pub not_foreign : IsForeign s → ⊥

-- ---- the text of a URI

-- a ':' and the port in decimal digits without leading zeros
abbrev pub port_text : Option ℕ → List ℕ
port_text None = []
port_text (Some n) = 58 ∷ decimal n

-- the text of a URI, its scheme in lower case
abbrev pub uri_text : Uri → List ℕ
uri_text (Sip user host port params headers) = codes "sip:" ++ (user_text user ++ (host ++ (port_text port ++ (params_text params ++ headers_text headers))))
uri_text (Tel number params) = codes "tel:" ++ (number ++ params_text params)

-- ---- name-addrs (RFC 3261 §20.10 and §25.1)

-- a display name of words, or none: tokens separated by blanks, without a blank at the end
pub record IsWords (s : List ℕ) : Type 0 where
  pub each : IsAll Display s
  pub ends : Stops Blank (reverse s)

-- the URI in angle brackets: a display name or none, blanks or none, <URI> and parameters; no blank comes before them
pub record IsAngled (s : List ℕ) (n : NameAddr) : Type 0 where
  pub gap : List ℕ
  pub whole : s ≡ n.display ++ (gap ++ (60 ∷ (n.uri ++ 62 ∷ params_text n.params)))
  pub starts : Stops Blank s
  pub display_in : IsWords n.display ⊎ IsQuoted n.display
  pub gap_in : IsAll Blank gap
  pub uri_in : IsOneOrMore UriByte n.uri
  pub params_in : AreParams n.params

-- the URI alone, without ',', ';' and '?', and parameters, which are then those of the name-addr
pub record IsBare (s : List ℕ) (n : NameAddr) : Type 0 where
  pub whole : s ≡ n.uri ++ params_text n.params
  pub no_display : n.display ≡ []
  pub uri_in : IsOneOrMore BareByte n.uri
  pub params_in : AreParams n.params

-- the bytes are of the grammar, and this is the name-addr that they spell
abbrev pub IsNameAddr : List ℕ → NameAddr → Type 0
IsNameAddr s n = IsAngled s n ⊎ IsBare s n

-- the display name and a blank before the '<', where there is a display name
abbrev pub display_text : List ℕ → List ℕ
display_text [] = []
display_text (b ∷ d) = (b ∷ d) ++ 32 ∷ []

-- the text of a name-addr, its URI in brackets
abbrev pub name_addr_text : NameAddr → List ℕ
name_addr_text n = display_text n.display ++ (60 ∷ (n.uri ++ 62 ∷ params_text n.params))

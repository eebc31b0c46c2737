-- The results of the readers on each list of bytes, as total functions: of a whole list (uri_of, name_addr_of, params_of), and of a prefix with what follows it (token_at,
-- text_at, all_params_at, host_at, port_at).
-- A layer above cites them where it needs "is readable" as a computable test. What is read is defined by Grammar, and the contracts of the readers of whole lists tie the two.
use Rattle.std.specs.Prelude.{◌≡◌, ℕ, zero, suc, List, [], ◌∷◌, ◌++◌, codes, is_none, ◌&&◌, ◌+◌, length, take, drop, Option, Some, None, Result, Ok, Err, nat_lt, ◌==◌}
use Rattle.std.specs.Prelude.{Bool, false, if◌then◌else◌}
use Rattle.mmtel_base.specs.Chain.{◌>>=◌}
use Rattle.mmtel_base.specs.Classes.{in_class}
use Rattle.mmtel_base.specs.Numbers.{number_of}
use Rattle.mmtel_base.specs.Scanning.{leading_run, after_run, after_byte, closing_quote_from, split_once_at, without_trailing}
use Rattle.mmtel_base.specs.declared.classes.Class.TheVariants.{Letter, Digit, Token, Host, User, Phone, SchemeRest, Blank, Display, UriByte, BareByte}
use Rattle.mmtel_lex.specs.declared.faults.LexFault.{LexFault}
use Rattle.mmtel_lex.specs.declared.faults.LexFault.TheVariants as lex
use Rattle.mmtel_lex.specs.declared.faults.UriFault.{UriFault}
use Rattle.mmtel_lex.specs.declared.faults.UriFault.TheVariants as faults
use Rattle.mmtel_lex.specs.declared.values.Param.{Param}
use Rattle.mmtel_lex.specs.declared.values.NameAddr.{NameAddr}
use Rattle.mmtel_lex.specs.declared.values.Uri.{Uri}
use Rattle.mmtel_lex.specs.declared.values.Uri.TheVariants.{Sip, Tel}
use Rattle.std.specs.List.{list_any, list_all}
use Rattle.std.specs.Str.{str_eq_ignore_ascii_case}

-- The view of what a function returned is what reading gives, unless memory ran out.
abbrev pub Fails : {Y : Type 0} → LexFault → Option Y → Type 0
Fails lex.Malformed read = read ≡ None
Fails lex.NoMemory read = Unit {0}

abbrev pub IsResult : {X Y : Type 0} → (X → Y) → Result X LexFault → Option Y → Type 0
IsResult view (Ok x) read = read ≡ Some (view x)
IsResult view (Err e) read = Fails e read

-- the value, where no bytes remain
abbrev pub at_end : {A : Type 0} → A → List ℕ → Option A
at_end x [] = Some x
at_end x (b ∷ s) = None

-- a token and what follows it
unfoldable pub token_at : List ℕ → Option (List ℕ × List ℕ)
token_at s = if length (leading_run Token s) == 0 then None else Some (leading_run Token s, after_run Token s)

-- a quoted string or a token, and what follows it
abbrev pub text_from : Option (List ℕ) → List ℕ → Option (List ℕ × List ℕ)
text_from None s = token_at s
text_from (Some t) s = closing_quote_from false t >>= λ n. Some (34 ∷ (take n t ++ 34 ∷ []), drop (n + 1) t)

unfoldable pub text_at : List ℕ → Option (List ℕ × List ℕ)
text_at s = text_from (after_byte 34 s) s

-- the value after a '=', if there is one
abbrev pub value_from : Option (List ℕ) → List ℕ → Option (Option (List ℕ) × List ℕ)
value_from None s = Some (None, s)
value_from (Some t) s = text_at t >>= λ v. Some (Some v.0, v.1)

unfoldable pub value_at : List ℕ → Option (Option (List ℕ) × List ℕ)
value_at s = value_from (after_byte 61 s) s

-- a parameter, after its ';'
unfoldable pub param_at : List ℕ → Option (Param × List ℕ)
param_at s = do
  n ← token_at s
  v ← value_at n.1
  Some (record { name = n.0; value = v.0 }, v.1)

-- a parameter, where a ';' comes, and more
abbrev pub next_params : (List ℕ → Option (List Param × List ℕ)) → Option (List ℕ) → List ℕ → Option (List Param × List ℕ)
next_params more None s = Some ([], s)
next_params more (Some t) s = do
  first ← param_at t
  others ← more first.1
  Some (first.0 ∷ others.0, others.1)

-- parameters, at most that many
unfoldable pub params_at : ℕ → List ℕ → Option (List Param × List ℕ)
params_at zero s = Some ([], s)
params_at (suc n) s = next_params (λ r. params_at n r) (after_byte 59 s) s

-- parameters, until something else comes
unfoldable pub all_params_at : List ℕ → Option (List Param × List ℕ)
all_params_at s = params_at (length s) s

-- all of the bytes, as parameters
unfoldable pub params_of : List ℕ → Option (List Param)
params_of s = all_params_at s >>= λ ps. at_end ps.0 ps.1

-- ---- URIs

-- the user before the only '@', where there is one
abbrev pub user_from : List ℕ → Option (List ℕ × List ℕ) → Option (Option (List ℕ) × List ℕ)
user_from s None = Some (None, s)
user_from s (Some p) = if length p.0 == 0 then None else if list_all (in_class User) p.0 && is_none (split_once_at 64 p.1) then Some (Some p.0, p.1) else None

unfoldable pub user_at : List ℕ → Option (Option (List ℕ) × List ℕ)
user_at s = user_from s (split_once_at 64 s)

unfoldable pub host_at : List ℕ → Option (List ℕ × List ℕ)
host_at s = if length (leading_run Host s) == 0 then None else if nat_lt 255 (length (leading_run Host s)) then None else Some (leading_run Host s, after_run Host s)

-- a port, which is not 0
abbrev pub port_of : Option ℕ → Option ℕ
port_of None = None
port_of (Some n) = if n == 0 then None else Some n

unfoldable pub port_number : List ℕ → Option ℕ
port_number digits = port_of (number_of 65535 digits)

abbrev pub port_from : Option (List ℕ) → List ℕ → Option (Option ℕ × List ℕ)
port_from None s = Some (None, s)
port_from (Some t) s = port_number (leading_run Digit t) >>= λ n. Some (Some n, after_run Digit t)

unfoldable pub port_at : List ℕ → Option (Option ℕ × List ℕ)
port_at s = port_from (after_byte 58 s) s

-- one byte or more, and nothing else
unfoldable pub headers_of : List ℕ → Option (List ℕ)
headers_of s = if length (leading_run User s) == 0 then None else if length (after_run User s) == 0 then Some (leading_run User s) else None

abbrev pub headers_from : Option (List ℕ) → List ℕ → Option (List ℕ)
headers_from None s = if length s == 0 then Some [] else None
headers_from (Some t) s = headers_of t

unfoldable pub headers_at : List ℕ → Option (List ℕ)
headers_at s = headers_from (after_byte 63 s) s

-- the parts after 'sip:', one after the other
abbrev pub sip_parts : List ℕ → Option Uri
sip_parts s = do
  u ← user_at s
  h ← host_at u.1
  p ← port_at h.1
  ps ← all_params_at p.1
  hs ← headers_at ps.1
  Some (Sip u.0 h.0 p.0 ps.0 hs)

-- all of the bytes after 'sip:', each of which is one of a URI
unfoldable pub sip_of : List ℕ → Option Uri
sip_of s = if list_all (in_class UriByte) s then sip_parts s else None

-- ---- schemes

abbrev pub begins_with_letter : List ℕ → Bool
begins_with_letter [] = false
begins_with_letter (b ∷ s) = in_class Letter b

abbrev pub scheme_from : List ℕ → Option (List ℕ) → Option (List ℕ × List ℕ)
scheme_from name None = None
scheme_from name (Some rest) = Some (name, rest)

-- a scheme's name, and what follows its ':'
unfoldable pub scheme_of : List ℕ → Option (List ℕ × List ℕ)
scheme_of s = if begins_with_letter s then scheme_from (leading_run SchemeRest s) (after_byte 58 (after_run SchemeRest s)) else None

abbrev pub sign_from : Option (List ℕ) → List ℕ → List ℕ × List ℕ
sign_from None s = ([], s)
sign_from (Some t) s = (43 ∷ [], t)

abbrev pub sign_of : List ℕ → List ℕ × List ℕ
sign_of s = sign_from (after_byte 43 s) s

unfoldable pub number_at : List ℕ → Option (List ℕ × List ℕ)
number_at s = if list_any (in_class Digit) (leading_run Phone (sign_of s).1) then Some ((sign_of s).0 ++ leading_run Phone (sign_of s).1, after_run Phone (sign_of s).1) else None

-- the parts after 'tel:', one after the other
abbrev pub tel_parts : List ℕ → Option Uri
tel_parts s = do
  n ← number_at s
  ps ← all_params_at n.1
  at_end (Tel n.0 ps.0) ps.1

-- all of the bytes after 'tel:', each of which is one of a URI
unfoldable pub tel_of : List ℕ → Option Uri
tel_of s = if list_all (in_class UriByte) s then tel_parts s else None

pub data Refusal : Type 0 where
  malformed : Refusal
  foreign : Refusal

abbrev pub or_malformed : Option Uri → Result Uri Refusal
or_malformed None = Err malformed
or_malformed (Some u) = Ok u

abbrev pub uri_from : Option (List ℕ × List ℕ) → Result Uri Refusal
uri_from None = Err malformed
uri_from (Some x) = if str_eq_ignore_ascii_case x.0 (codes "sip") then or_malformed (sip_of x.1) else if str_eq_ignore_ascii_case x.0 (codes "tel")
    then or_malformed (tel_of x.1) else Err foreign

unfoldable pub uri_of : List ℕ → Result Uri Refusal
uri_of s = uri_from (scheme_of s)

-- what read_uri returned is what uri_of gives
abbrev pub Refuses : UriFault → Result Uri Refusal → Type 0
Refuses faults.Malformed read = read ≡ Err malformed
Refuses faults.Scheme read = read ≡ Err foreign
Refuses faults.NoMemory read = Unit {0}

abbrev pub IsUriResult : Result Uri UriFault → Result Uri Refusal → Type 0
IsUriResult (Ok u) read = read ≡ Ok u
IsUriResult (Err e) read = Refuses e read

-- ---- name-addrs

-- what follows a '<': the URI, a '>' and parameters
unfoldable pub angle_of : List ℕ → List ℕ → Option NameAddr
angle_of display s = if length (leading_run UriByte s) == 0 then None
    else (after_byte 62 (after_run UriByte s) >>= λ r. all_params_at r >>= λ ps. at_end (record { display = display; uri = leading_run UriByte s; params = ps.0 }) ps.1)

-- a URI without brackets, and parameters
unfoldable pub bare_of : List ℕ → Option NameAddr
bare_of s = if length (leading_run BareByte s) == 0 then None
    else (all_params_at (after_run BareByte s) >>= λ ps. at_end (record { display = []; uri = leading_run BareByte s; params = ps.0 }) ps.1)

-- words up to a '<', which no blank begins, or no '<'
abbrev pub words_from : List ℕ → Option (List ℕ) → Option NameAddr
words_from s None = bare_of s
words_from s (Some u) = if length (leading_run Blank s) == 0 then angle_of (without_trailing Blank (leading_run Display s)) u else None

unfoldable pub words_of : List ℕ → Option NameAddr
words_of s = words_from s (after_byte 60 (after_run Display s))

-- a display name in quotes, blanks and a '<'
unfoldable pub quoted_of : List ℕ → Option NameAddr
quoted_of s = text_at s >>= λ d. after_byte 60 (after_run Blank d.1) >>= λ u. angle_of d.0 u

abbrev pub name_addr_from : List ℕ → Option (List ℕ) → Option NameAddr
name_addr_from s None = words_of s
name_addr_from s (Some t) = quoted_of s

unfoldable pub name_addr_of : List ℕ → Option NameAddr
name_addr_of s = name_addr_from s (after_byte 34 s)

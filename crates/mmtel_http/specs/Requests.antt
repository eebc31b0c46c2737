-- What the bytes of a connection contain as an HTTP/1.1 request (RFC 9112): an unfinished one, a malformed one, one that is too large, or a whole one.
use Rattle.std.specs.Prelude.{◌≡◌, ℕ, ◌+◌, ◌==◌, ◌&&◌, Bool, true, false, List, [], ◌∷◌, length, take, drop, map, Some, None, if◌then◌else◌, nat_lt, nat_le, codes}
use Rattle.std.specs.declared.option.Option.{Option}
use Rattle.std.specs.List.{list_all}
use Rattle.std.specs.Str.{str_eq_ignore_ascii_case}
use Rattle.std.specs.Option.{option_map, option_map_or}
use Rattle.httparse.specs.Grammar.{RequestHead}
use Rattle.httparse.specs.Spans.{name_and_value}
use Rattle.mmtel_base.specs.Classes.{in_class}
use Rattle.mmtel_base.specs.declared.classes.Class.TheVariants.{Digit}
use Rattle.mmtel_base.specs.Numbers.{number_of}
use Rattle.mmtel_http.specs.Heads.{head_of}
use Rattle.mmtel_http.specs.declared.wholes.Whole.{Whole}
use Rattle.mmtel_http.specs.declared.wholes.Whole.TheVariants.{More, Done, Bad, Large}

-- a request: the method, the target, the one value of the field of the asserted identity (3GPP TS 24.109 §6) and of Content-Type where there is exactly one, the body, and its
-- length in bytes
pub record HttpRequestView : Type 0 where
  pub method : List ℕ
  pub target : List ℕ
  pub identity : Option (List ℕ)
  pub kind : Option (List ℕ)
  pub body : List ℕ
  pub len : ℕ

pub data ParsedRequestView : Type 0 where
  unfinished : ParsedRequestView
  bad : ParsedRequestView
  large : ParsedRequestView
  parsed : HttpRequestView → ParsedRequestView

-- ---- the end of a head

-- the bytes split at each LF: lines without it, and last what no LF ends
abbrev pub with_first : ℕ → List (List ℕ) → List (List ℕ)
with_first b [] = (b ∷ []) ∷ []
with_first b (line ∷ lines) = (b ∷ line) ∷ lines

abbrev pub lines_of : List ℕ → List (List ℕ)
lines_of [] = [] ∷ []
lines_of (b ∷ s) = if b == 10 then [] ∷ lines_of s else with_first b (lines_of s)

-- nothing, or a CR alone
abbrev pub is_empty_line : List ℕ → Bool
is_empty_line [] = true
is_empty_line (b ∷ []) = b == 13
is_empty_line (b ∷ c ∷ s) = false

-- whether a line that is not empty has come once this line has; None where the head ends with it
abbrev pub seen_after : Bool → List ℕ → Option Bool
seen_after seen line = if is_empty_line line then (if seen then None else Some false) else Some true

-- how many bytes the lines have, with their LFs, through the first empty one after one that is not empty; the flag says that such a one came before
abbrev pub head_size : Bool → List (List ℕ) → Option ℕ
head_size seen [] = None
head_size seen (rest ∷ []) = None
head_size seen (line ∷ next ∷ more) =
    option_map_or (λ s. option_map (λ n. length line + 1 + n) (head_size s (next ∷ more))) (seen_after seen line) (Some (length line + 1))

-- the length of the head that the bytes begin with
abbrev pub head_end : List ℕ → Option ℕ
head_end bytes = head_size false (lines_of bytes)

-- used between the functions of this crate only: the first line of the bytes, and what follows it
pub record IsFirstLine (s line after : List ℕ) : Type 0 where
  pub lines : lines_of s ≡ line ∷ lines_of after
  pub count : length s ≡ length line + 1 + length after

-- ---- fields

-- the values of the fields of a name, case-insensitive, in order
abbrev pub values_named : List ℕ → List (List ℕ × List ℕ) → List (List ℕ)
values_named name [] = []
values_named name (f ∷ rest) =
    if str_eq_ignore_ascii_case f.0 name then f.1 ∷ values_named name rest
    else values_named name rest

-- the one value
abbrev pub sole_value : List (List ℕ) → Option (List ℕ)
sole_value [] = None
sole_value (v ∷ []) = Some v
sole_value (v ∷ w ∷ rest) = None

-- digits only, one or more
abbrev pub is_decimal_number : List ℕ → Bool
is_decimal_number v = nat_lt 0 (length v) && list_all (in_class Digit) v

-- the maximum length of a body
abbrev pub max_body : ℕ
max_body = 65536

-- with a body of so many bytes
abbrev pub with_body : HttpRequestView → ℕ → ParsedRequestView
with_body a size =
    if nat_le size (length a.body) then parsed (record a { body = take size a.body; len = a.len + size }) else unfinished

-- with a body of so many bytes, where they are not too many
abbrev pub with_size : HttpRequestView → Option ℕ → ParsedRequestView
with_size a None = large
with_size a (Some size) = with_body a size

-- by the values of Content-Length
abbrev pub request_by_lengths : HttpRequestView → List (List ℕ) → ParsedRequestView
request_by_lengths a [] = with_body a 0
request_by_lengths a (v ∷ []) = if is_decimal_number v then with_size a (number_of max_body v) else bad
request_by_lengths a (v ∷ w ∷ rest) = bad

-- by the values of Transfer-Encoding
abbrev pub request_by_codings : HttpRequestView → List (List ℕ) → List (List ℕ) → ParsedRequestView
request_by_codings a [] lengths = request_by_lengths a lengths
request_by_codings a (v ∷ rest) lengths = bad

-- a head with these parts, and what follows it
abbrev pub request_by_fields : List ℕ → List ℕ → List (List ℕ × List ℕ) → ℕ → List ℕ → ParsedRequestView
request_by_fields method target fields len rest =
    request_by_codings (record {
      method = method;
      target = target;
      identity = sole_value (values_named (codes "x-3gpp-asserted-identity") fields);
      kind = sole_value (values_named (codes "content-type") fields);
      body = rest;
      len = len;
    }) (values_named (codes "transfer-encoding") fields) (values_named (codes "content-length") fields)

-- ---- the whole

abbrev pub request_by_head : Option RequestHead → ℕ → List ℕ → ParsedRequestView
request_by_head None len rest = bad
request_by_head (Some h) len rest = request_by_fields h.method h.target (map name_and_value h.fields) len rest

-- the bytes within which a head has to end
abbrev pub head_window : ℕ
head_window = 8192

abbrev pub request_by_end : List ℕ → Option ℕ → ParsedRequestView
request_by_end bytes None = if nat_lt head_window (length bytes) then bad else unfinished
request_by_end bytes (Some n) = request_by_head (head_of (take n bytes)) n (drop n bytes)

-- the request that the bytes contain
unfoldable pub request_of : List ℕ → ParsedRequestView
request_of bytes = request_by_end bytes (head_end (take head_window bytes))

-- whether they are a whole request
abbrev pub whole_of : ParsedRequestView → Whole
whole_of unfinished = More
whole_of bad = Bad
whole_of large = Large
whole_of (parsed a) = Done a.len

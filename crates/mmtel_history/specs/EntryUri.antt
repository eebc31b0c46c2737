-- What the URI of a History-Info entry says (RFC 7044 §5 and §10.1, RFC 4458 §2): a cause among its parameters, and a mark in its header part.
use Rattle.std.specs.Prelude.{ℕ, zero, suc, Bool, true, false, not, ◌&&◌, ◌==◌, ◌-◌, if◌then◌else◌, nat_lt, List, [], ◌∷◌, ◌++◌, length, take, drop, filter, count_by}
use Rattle.std.specs.Prelude.{Option, Some, None, is_some, codes, decimal}
use Rattle.std.specs.List.{list_any, find, slice_split, join_with_byte, onto_first, after_last, suffix_len}
use Rattle.std.specs.Str.{str_eq_ignore_ascii_case}
use Rattle.mmtel_base.specs.Numbers.{number_of}
use Rattle.mmtel_base.specs.Scanning.{split_once_at}
use Rattle.mmtel_lex.specs.UriParts.{parts, text_after, is_named, user_part, host_part, host_and_params, uri_params, header_parts}

-- ---- the cause

-- a number of three digits from 100 to 699
abbrev pub from_hundred : Option ℕ → Option ℕ
from_hundred None = None
from_hundred (Some n) = if nat_lt n 100 then None else Some n

unfoldable pub cause_number : List ℕ → Option ℕ
cause_number digits = if length digits == 3 then from_hundred (number_of 699 digits) else None

abbrev pub cause_in : Option (List ℕ) → Option ℕ
cause_in None = None
cause_in (Some param) = cause_number (text_after 61 param)

abbrev pub is_cause : List ℕ → Bool
is_cause param = is_named (codes "cause") param

-- the cause of a diversion that led to the URI: its first parameter of that name
unfoldable pub cause_of : List ℕ → Option ℕ
cause_of uri = cause_in (find is_cause (uri_params uri))

-- a parameter of that name is there
abbrev pub has_cause : List ℕ → Bool
has_cause uri = list_any is_cause (uri_params uri)

-- how many there are
abbrev pub causes_in : List ℕ → ℕ
causes_in uri = count_by is_cause (uri_params uri)

-- ---- the mark

-- an escaped semicolon, whose letter may be of either case
abbrev pub begins_escape : List ℕ → Bool
begins_escape s = str_eq_ignore_ascii_case (take 3 s) (codes "%3B")

-- the parts of a text between escaped semicolons; the count says how many bytes of one are still to be skipped
abbrev pub escaped_from : ℕ → List ℕ → List (List ℕ)
escaped_from n [] = [] ∷ []
escaped_from zero (x ∷ s) = if begins_escape (x ∷ s) then [] ∷ escaped_from 2 s else onto_first x (escaped_from zero s)
escaped_from (suc n) (x ∷ s) = escaped_from n s

abbrev pub escaped_parts : List ℕ → List (List ℕ)
escaped_parts s = escaped_from 0 s

abbrev pub is_history : List ℕ → Bool
is_history word = str_eq_ignore_ascii_case word (codes "history")

-- a Privacy part with the word `history`
unfoldable pub hides : List ℕ → Bool
hides part = is_named (codes "Privacy") part && list_any is_history (escaped_parts (text_after 61 part))

-- the header part of the URI requests that the entry be hidden
unfoldable pub is_marked : List ℕ → Bool
is_marked uri = list_any hides (header_parts uri)

-- ---- what is added to a URI

abbrev pub has_headers : List ℕ → Bool
has_headers uri = is_some (split_once_at 63 (host_part uri))

abbrev pub mark_text : Bool → List ℕ
mark_text true = codes "&Privacy=history"
mark_text false = codes "?Privacy=history"

-- the URI with its mark, which is added once
unfoldable pub marked_uri : List ℕ → List ℕ
marked_uri uri = if is_marked uri then uri else uri ++ mark_text (has_headers uri)

abbrev pub headers_from : Option (List ℕ × List ℕ) → List ℕ
headers_from None = []
headers_from (Some x) = 63 ∷ x.1

-- the URI with this in place of what is between its last '@' and its '?'
abbrev pub with_host_part : List ℕ → List ℕ → List ℕ
with_host_part front uri = user_part uri ++ (front ++ headers_from (split_once_at 63 (host_part uri)))

-- a host and the parameters that are no causes
abbrev pub without_causes : List (List ℕ) → List (List ℕ)
without_causes [] = []
without_causes (host ∷ params) = host ∷ filter (λ p. not (is_cause p)) params

-- the text of a host and parameters without the causes among them
abbrev pub host_part_without_causes : List ℕ → List ℕ
host_part_without_causes front = join_with_byte 59 (without_causes (parts 59 front))

-- the URI without the causes among its parameters: each of that name is removed
unfoldable pub without_cause : List ℕ → List ℕ
without_cause uri = with_host_part (host_part_without_causes (host_and_params uri)) uri

-- the text of a cause, a ';' before it; nothing where there is none
abbrev pub cause_text : Option ℕ → List ℕ
cause_text None = []
cause_text (Some cause) = codes ";cause=" ++ decimal cause

-- the URI with this cause in place of its own, after its other parameters
unfoldable pub with_cause : ℕ → List ℕ → List ℕ
with_cause cause uri = with_host_part (host_part_without_causes (host_and_params uri) ++ cause_text (Some cause)) uri

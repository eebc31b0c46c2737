-- Where the parts of a URI are, whatever its scheme (RFC 3261 §19.1.1): its parameters and its header part are searched for after its last '@', or in all of it
-- where it has none.
use Rattle.std.specs.Prelude.{ℕ, Bool, not, ◌==◌, ◌-◌, List, [], length, take, drop, Option, Some, None}
use Rattle.std.specs.List.{slice_split, after_last, suffix_len}
use Rattle.std.specs.Str.{str_eq_ignore_ascii_case}
use Rattle.mmtel_base.specs.Scanning.{split_once_at}

-- the parts of a text, separated by bytes of one value
abbrev pub parts : ℕ → List ℕ → List (List ℕ)
parts b s = slice_split (λ x. x == b) s

-- what comes before the first such byte, or all of the text
abbrev pub prefix_or_all : List ℕ → Option (List ℕ × List ℕ) → List ℕ
prefix_or_all s None = s
prefix_or_all s (Some x) = x.0

-- what follows the first such byte, or nothing
abbrev pub rest_or_none : Option (List ℕ × List ℕ) → List ℕ
rest_or_none None = []
rest_or_none (Some x) = x.1

abbrev pub text_before : ℕ → List ℕ → List ℕ
text_before b s = prefix_or_all s (split_once_at b s)

abbrev pub text_after : ℕ → List ℕ → List ℕ
text_after b s = rest_or_none (split_once_at b s)

-- what comes before a '=' is this name, without case
abbrev pub is_named : List ℕ → List ℕ → Bool
is_named name part = str_eq_ignore_ascii_case (text_before 61 part) name

-- ---- the places of a URI

-- up to and including the last '@'; nothing where there is none
unfoldable pub user_part : List ℕ → List ℕ
user_part uri = take (length uri - suffix_len (λ x. not (x == 64)) uri) uri

-- what follows the last '@', or all
unfoldable pub host_part : List ℕ → List ℕ
host_part uri = after_last (λ x. x == 64) uri

-- the host with its port, and the parameters: before the '?'
abbrev pub host_and_params : List ℕ → List ℕ
host_and_params uri = text_before 63 (host_part uri)

-- the parameters: each after a ';'
abbrev pub uri_params : List ℕ → List (List ℕ)
uri_params uri = drop 1 (parts 59 (host_and_params uri))

-- the header part: what follows the '?', split at '&'
abbrev pub header_parts : List ℕ → List (List ℕ)
header_parts uri = parts 38 (text_after 63 (host_part uri))

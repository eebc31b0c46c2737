-- The values at the keys of a record: what is read of a TOML value, or the fault that it is wrong at its key.
use Rattle.std.specs.Prelude.{◌≡◌, ℕ, ◌+◌, ◌*◌, ◌==◌, ℤ, pos, negsuc, int_le, List, [], ◌∷◌, ◌++◌, Bool, true, false, ◌&&◌, ◌||◌, not, nat_le}
use Rattle.std.specs.Prelude.{Option, Some, None, Result, Ok, Err, if◌then◌else◌, codes, length, slice_index_or, slice_set}
use Rattle.std.specs.List.{list_all, list_any}
use Rattle.std.specs.Str.{bytes_eq}
use Rattle.toml.specs.Data.{Data, Items, no_items, item, as_str, as_bool, as_integer, as_array}
use Rattle.mmtel_base.specs.Classes.{in_class}
use Rattle.mmtel_base.specs.declared.classes.Class.TheVariants.{Digit, Token, Host}
use Rattle.mmtel_base.specs.Numbers.{number_of}
use Rattle.mmtel_lex.specs.Reading.{uri_of, Refusal}
use Rattle.mmtel_lex.specs.declared.values.Uri.{Uri}
use Rattle.mmtel_lex.specs.declared.values.Uri.TheVariants.{Sip, Tel}
use Rattle.mmtel_sheet_grammar.specs.ReadResults.{Read, then_read, or_wrong}
use Rattle.mmtel_sheet_grammar.specs.Moments.{moment_of_text}
use Rattle.mmtel_sheet_grammar.specs.declared.faults.SheetFault.TheVariants.{Wrong}

-- a truth value
abbrev pub truth_at : List ℕ → Data → Read Bool
truth_at at d = or_wrong at (as_bool d)

-- the whole number, where it is of the range
abbrev pub in_range : ℕ → ℕ → ℤ → Option ℕ
in_range least most (pos n) = if nat_le least n && nat_le n most then Some n else None
in_range least most (negsuc n) = None

-- a whole number of a range
abbrev pub number_at : ℕ → ℕ → List ℕ → Data → Read ℕ
number_at least most at d = then_read (or_wrong at (as_integer d)) (λ z. or_wrong at (in_range least most z))

-- any text
abbrev pub text_at : List ℕ → Data → Read (List ℕ)
text_at at d = or_wrong at (as_str d)

-- the URI, where the bytes are one
abbrev pub uri_read : Result Uri Refusal → Option Uri
uri_read (Ok u) = Some u
uri_read (Err e) = None

-- a sip or tel URI
abbrev pub uri_at : List ℕ → Data → Read Uri
uri_at at d = then_read (text_at at d) (λ s. or_wrong at (uri_read (uri_of s)))

-- one byte or more of digits
abbrev pub is_digits : List ℕ → Bool
is_digits s = nat_le 1 (length s) && list_all (in_class Digit) s

-- a '+' and digits
abbrev pub is_international : List ℕ → Bool
is_international [] = false
is_international (b ∷ s) = bytes_eq (b ∷ []) (codes "+") && is_digits s

-- a URI to which calls may be diverted: a sip URI, or tel:+ and digits
abbrev pub is_target : Uri → Bool
is_target (Sip user host port params headers) = true
is_target (Tel number params) = is_international number && nat_le (length params) 0

-- such a URI of at most 256 bytes
abbrev pub target_or_wrong : List ℕ → List ℕ → Uri → Read Uri
target_or_wrong at s u = if is_target u && nat_le (length s) 256 then Ok u else Err (Wrong at)

abbrev pub target_at : List ℕ → Data → Read Uri
target_at at d = then_read (text_at at d) (λ s. then_read (or_wrong at (uri_read (uri_of s))) (λ u. target_or_wrong at s u))

-- a host, or '*'
abbrev pub is_domain : List ℕ → Bool
is_domain s = bytes_eq s (codes "*") || (nat_le 1 (length s) && (nat_le (length s) 255 && list_all (in_class Host) s))

abbrev pub domain_at : List ℕ → Data → Read (List ℕ)
domain_at at d = then_read (text_at at d) (λ s. if is_domain s then Ok s else Err (Wrong at))

-- a token
abbrev pub is_token_text : List ℕ → Bool
is_token_text s = nat_le 1 (length s) && list_all (in_class Token) s

abbrev pub token_at : List ℕ → Data → Read (List ℕ)
token_at at d = then_read (text_at at d) (λ s. if is_token_text s then Ok s else Err (Wrong at))

-- a time
abbrev pub time_at : List ℕ → Data → Read ℤ
time_at at d = then_read (text_at at d) (λ s. or_wrong at (moment_of_text s))

module _ {A : Type 0} where
  -- items, each read, after those that were read before
  abbrev pub items_from : (Data → Read A) → List A → Items → Read (List A)
  items_from read done no_items = Ok done
  items_from read done (item d ds) = then_read (read d) (λ a. items_from read (done ++ a ∷ []) ds)

-- an array of URIs
abbrev pub uris_at : List ℕ → Data → Read (List Uri)
uris_at at d = then_read (or_wrong at (as_array d)) (λ ds. items_from (uri_at at) [] ds)

-- an array of tokens
abbrev pub tokens_at : List ℕ → Data → Read (List (List ℕ))
tokens_at at d = then_read (or_wrong at (as_array d)) (λ ds. items_from (token_at at) [] ds)

-- ---- hours of the week

-- the index of a day in the week, from Monday on
unfoldable pub day_of : List ℕ → Option ℕ
day_of s =
    if bytes_eq s (codes "mon") then Some 0
    else if bytes_eq s (codes "tue") then Some 1
    else if bytes_eq s (codes "wed") then Some 2
    else if bytes_eq s (codes "thu") then Some 3
    else if bytes_eq s (codes "fri") then Some 4
    else if bytes_eq s (codes "sat") then Some 5
    else if bytes_eq s (codes "sun") then Some 6
    else None

abbrev pub no_days : List Bool
no_days = false ∷ false ∷ false ∷ false ∷ false ∷ false ∷ false ∷ []

-- one more day, which was not named before
abbrev pub with_day : List Bool → ℕ → Option (List Bool)
with_day days n = if slice_index_or days n false then None else Some (slice_set days n true)

abbrev pub day_read : List ℕ → List Bool → Data → Read (List Bool)
day_read at days d = then_read (text_at at d) (λ s. then_read (or_wrong at (day_of s)) (λ n. or_wrong at (with_day days n)))

-- days beside those that were named before
abbrev pub days_from : List ℕ → List Bool → Items → Read (List Bool)
days_from at days no_items = Ok days
days_from at days (item d ds) = then_read (day_read at days d) (λ more. days_from at more ds)

abbrev pub has_day : List Bool → Bool
has_day days = list_any (λ day. day) days

abbrev pub days_or_wrong : List ℕ → List Bool → Read (List Bool)
days_or_wrong at days = if has_day days then Ok days else Err (Wrong at)

-- an array of one day or more, each named once
abbrev pub days_at : List ℕ → Data → Read (List Bool)
days_at at d = then_read (or_wrong at (as_array d)) (λ ds. then_read (days_from at no_days ds) (λ days. days_or_wrong at days))

-- the minutes since the day began, of at most this many
abbrev pub minutes_by : ℕ → Option ℕ → Option ℕ → Option ℕ
minutes_by most None minutes = None
minutes_by most (Some hours) None = None
minutes_by most (Some hours) (Some minutes) = if nat_le (hours * 60 + minutes) most then Some (hours * 60 + minutes) else None

-- HH:MM
abbrev pub clock_of : ℕ → List ℕ → Option ℕ
clock_of most (a ∷ b ∷ colon ∷ c ∷ d ∷ []) = if colon == 58 then minutes_by most (number_of 24 (a ∷ b ∷ [])) (number_of 59 (c ∷ d ∷ [])) else None
clock_of most _ = None

abbrev pub clock_at : ℕ → List ℕ → Data → Read ℕ
clock_at most at d = then_read (text_at at d) (λ s. or_wrong at (clock_of most s))

-- the minutes by which a clock is ahead of UTC
abbrev pub is_offset : ℤ → Bool
is_offset z = int_le (negsuc 839) z && int_le z (pos 840)

abbrev pub offset_at : List ℕ → Data → Read ℤ
offset_at at d = then_read (or_wrong at (as_integer d)) (λ z. if is_offset z then Ok z else Err (Wrong at))

-- The listing of the outputs of a run: this project's own format, the one of scripts with `to` in place of `peer`.
use Rattle.std.specs.Prelude.{ℕ, Bool, false, ◌&&◌, nat_le, nat_lt, ◌==◌, if◌then◌else◌, List, [], ◌∷◌, ◌++◌, ◌+◌, ◌-◌, ◌/◌, ◌%◌, length, take, drop, Option, Some, None}
use Rattle.std.specs.Prelude.{codes, decimal}
use Rattle.std.specs.List.{list_all, flat_map, onto_first}
use Rattle.std.specs.Str.{bytes_eq}
use Rattle.mmtel_environment.specs.declared.events.Offer.{Offer}
use Rattle.mmtel_environment.specs.declared.events.Offer.TheVariants.{To, Web}

-- bytes split after each CRLF; the flag says that a CR came directly before
abbrev pub cut : Bool → List ℕ → List (List ℕ)
cut after_cr [] = []
cut after_cr (b ∷ s) = if after_cr && b == 10 then (b ∷ []) ∷ cut false s else onto_first b (cut (b == 13) s)

-- the pieces of a text: each that a CRLF ends, with that CRLF, and what remains after the last one
abbrev pub pieces_of : List ℕ → List (List ℕ)
pieces_of s = cut false s

-- what precedes a CRLF at the end
abbrev pub before_crlf : List ℕ → Option (List ℕ)
before_crlf piece = if nat_le 2 (length piece) && bytes_eq (drop (length piece - 2) piece) (codes "\r\n") then Some (take (length piece - 2) piece) else None

-- a byte that is written as itself: one of 32 to 126
abbrev pub is_plain : ℕ → Bool
is_plain b = nat_le 32 b && nat_le b 126

-- a digit of a hexadecimal number, in lower case
abbrev pub hex_digit : ℕ → ℕ
hex_digit n = if nat_lt n 10 then 48 + n else 87 + n

abbrev pub hex_pair : ℕ → List ℕ
hex_pair b = hex_digit (b / 16) ∷ hex_digit (b % 16) ∷ []

-- `x` and the bytes in pairs of digits
abbrev pub hex_line : List ℕ → List ℕ
hex_line bytes = codes "x" ++ flat_map hex_pair bytes ++ codes "\n"

-- a mark and the bytes themselves, or else the whole piece in digits
abbrev pub marked_line : List ℕ → List ℕ → List ℕ → List ℕ
marked_line mark bytes piece = if list_all is_plain bytes then mark ++ bytes ++ codes "\n" else hex_line piece

-- the line of a piece: `|` where a CRLF ended it, else `+`
abbrev pub line_before : Option (List ℕ) → List ℕ → List ℕ
line_before (Some bytes) piece = marked_line (codes "|") bytes piece
line_before None piece = marked_line (codes "+") piece piece

abbrev pub piece_line : List ℕ → List ℕ
piece_line piece = line_before (before_crlf piece) piece

-- the lines of the bytes of an output
abbrev pub data_lines : List ℕ → List ℕ
data_lines bytes = flat_map piece_line (pieces_of bytes)

-- `at M to N` or `at M web`, and then the bytes
abbrev pub offer_lines : Offer → List ℕ
offer_lines (To peer moment bytes) = codes "at " ++ decimal moment ++ codes " to " ++ decimal peer.0 ++ codes "\n" ++ data_lines bytes
offer_lines (Web moment bytes) = codes "at " ++ decimal moment ++ codes " web\n" ++ data_lines bytes

abbrev pub listing_of : List Offer → List ℕ
listing_of offers = flat_map offer_lines offers

-- Escaped bytes of a URI: a '%' and two hexadecimal digits, of either case, represent the byte that these write (RFC 3261 §19.1.2 and §25.1: escaped; RFC 3986 §2.1).
use Rattle.std.specs.Prelude.{◌≡◌, ℕ, ◌+◌, ◌*◌, nat_lt, false, Bool, List, [], ◌∷◌, ◌++◌, Option, Some, None, if◌then◌else◌, is_some, ◌&&◌}
use Rattle.std.specs.Char.{digit_value}
use Rattle.std.specs.Option.{option_map}
use Rattle.mmtel_base.specs.Chain.{◌>>=◌}
use Rattle.mmtel_lex.specs.UriParts.{parts}

-- the value of a hexadecimal digit
abbrev pub hex_value : ℕ → Option ℕ
hex_value b = if nat_lt (digit_value b) 16 then Some (digit_value b) else None

-- to what the text after a '%' decodes: the byte of the two digits, and then what follows them
abbrev pub unescaped_part : List ℕ → Option (List ℕ)
unescaped_part [] = None
unescaped_part (a ∷ []) = None
unescaped_part (a ∷ b ∷ rest) = do
  high ← hex_value a
  low ← hex_value b
  Some ((high * 16 + low) ∷ rest)

-- to what several decode, one after another; nothing where one of them decodes to nothing
abbrev pub unescaped_parts : List (List ℕ) → Option (List ℕ)
unescaped_parts [] = Some []
unescaped_parts (part ∷ parts) = do
  here ← unescaped_part part
  more ← unescaped_parts parts
  Some (here ++ more)

-- what comes before the first '%', as it is, and to what each part after a '%' decodes
abbrev pub decoded_parts : List (List ℕ) → Option (List ℕ)
decoded_parts [] = Some []
decoded_parts (front ∷ parts) = option_map (λ t. front ++ t) (unescaped_parts parts)

-- the bytes to which the text decodes; none where a '%' is not followed by two hexadecimal digits
unfoldable pub percent_decoded_text : List ℕ → Option (List ℕ)
percent_decoded_text s = decoded_parts (parts 37 s)

-- ---- in the words of the RFCs

-- two hexadecimal digits come first
abbrev pub begins_hex : List ℕ → Bool
begins_hex [] = false
begins_hex (a ∷ []) = false
begins_hex (a ∷ b ∷ rest) = is_some (hex_value a) && is_some (hex_value b)

-- a '%' that two hexadecimal digits do not follow
pub record IsBroken (s : List ℕ) : Type 0 where
  pub before : List ℕ
  pub rest : List ℕ
  pub whole : s ≡ before ++ 37 ∷ rest
  pub digits : begins_hex rest ≡ false

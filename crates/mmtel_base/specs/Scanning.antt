-- Splitting a list of bytes: at the end of a run of a class, at the first occurrence of a byte, at a closing quote; and trimming it.
use Rattle.std.specs.Prelude.{suc, ◌++◌, nat_lt, length, reverse, position, ◌&&◌, ◌+◌, Option, Some, None, ◌==◌, if◌then◌else◌, ℕ, Bool, not, List, [], ◌∷◌, ◌≡◌, true}
use Rattle.std.specs.Prelude.{false, take, drop}
use Rattle.std.specs.List.{prefix_len, list_all}
use Rattle.std.specs.Str.{bytes_eq}
use Rattle.std.specs.Option.{option_map}
use Rattle.mmtel_base.specs.Classes.{in_class}
use Rattle.mmtel_base.specs.declared.classes.Class.{Class}

-- the longest prefix of bytes of the class
unfoldable pub leading_run : Class → List ℕ → List ℕ
leading_run k s = take (prefix_len (in_class k) s) s

-- what follows that prefix
unfoldable pub after_run : Class → List ℕ → List ℕ
after_run k s = drop (prefix_len (in_class k) s) s

-- what follows the byte, where it comes first
abbrev pub after_byte : ℕ → List ℕ → Option (List ℕ)
after_byte b [] = None
after_byte b (x ∷ s) = if x == b then Some s else None

-- what comes before the first such byte, and what comes after it
unfoldable pub split_once_at : ℕ → List ℕ → Option (List ℕ × List ℕ)
split_once_at b s = option_map (λ n. (take n s, drop (n + 1) s)) (position (λ x. x == b) s)

-- no such byte occurs
abbrev pub IsFree : ℕ → List ℕ → Type 0
IsFree b s = list_all (λ x. not (x == b)) s ≡ true

-- the bytes between the quotes of a quoted string (RFC 3261 §25.1: qdtext and quoted-pair): no quote except after a backslash, and no backslash alone at the end; the flag
-- says that a backslash came just before
abbrev pub is_quoted_content : Bool → List ℕ → Bool
is_quoted_content escaped [] = not escaped
is_quoted_content true (b ∷ s) = is_quoted_content false s
is_quoted_content false (b ∷ s) = not (b == 34) && is_quoted_content (b == 92) s

-- the place of the first quote that no backslash escapes; the flag as above
unfoldable pub closing_quote_from : Bool → List ℕ → Option ℕ
closing_quote_from escaped [] = None
closing_quote_from true (b ∷ s) = option_map (λ n. n + 1) (closing_quote_from false s)
closing_quote_from false (b ∷ s) = if b == 34 then Some 0 else option_map (λ n. n + 1) (closing_quote_from (b == 92) s)

-- the bytes split by the quote at this place: what comes before it is the inside of a quoted string
pub record IsClosedAt (s : List ℕ) (at : ℕ) : Type 0 where
  pub whole : s ≡ take at s ++ 34 ∷ drop (suc at) s
  pub inner : is_quoted_content false (take at s) ≡ true

-- without the bytes of the class at the end
unfoldable pub without_trailing : Class → List ℕ → List ℕ
without_trailing k s = reverse (after_run k (reverse s))

-- without the bytes of the class at both ends
abbrev pub without_outer : Class → List ℕ → List ℕ
without_outer k s = without_trailing k (after_run k s)

-- what follows these bytes, where they come first
abbrev pub after_text : List ℕ → List ℕ → Option (List ℕ)
after_text front s = if nat_lt (length s) (length front) then None else if bytes_eq (take (length front) s) front then Some (drop (length front) s) else None

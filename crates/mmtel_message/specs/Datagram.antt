-- The bytes of lines and a body: each line ended by CR LF, then an empty line, then the body (RFC 3261 §7).
use Rattle.std.specs.Prelude.{◌≡◌, ◌<◌, None, ℕ, false, List, [], ◌∷◌, ◌++◌, length}
use Rattle.mmtel_message.specs.Lines.{first_break, starts_blank}
use Rattle.mmtel_message.specs.declared.lines.Break.TheVariants.{Line}

-- each line with the end of the one before it
abbrev pub tail_text : List (List ℕ) → List ℕ
tail_text [] = []
tail_text (r ∷ rs) = 13 ∷ 10 ∷ (r ++ tail_text rs)

-- lines with a line end between two
abbrev pub text_of : List (List ℕ) → List ℕ
text_of [] = []
text_of (l ∷ ls) = l ++ tail_text ls

-- a start line, further lines and a body
abbrev pub datagram : List ℕ → List (List ℕ) → List ℕ → List ℕ
datagram first rs body = (first ++ tail_text rs) ++ (13 ∷ 10 ∷ 13 ∷ 10 ∷ body)

-- no line end within
abbrev pub IsWhole : List ℕ → Type 0
IsWhole r = first_break Line r ≡ None

-- lines without a line end within
abbrev pub AreApart : List (List ℕ) → Type 0
AreApart [] = Unit {0}
AreApart (r ∷ rs) = IsWhole r × AreApart rs

-- lines that are not empty and have no line end within; one that begins with a blank continues the one before
abbrev pub AreWhole : List (List ℕ) → Type 0
AreWhole [] = Unit {0}
AreWhole (r ∷ rs) = (IsWhole r × (0 < length r)) × AreWhole rs

-- none of the lines continues another
abbrev pub AreUnfolded : List (List ℕ) → Type 0
AreUnfolded [] = Unit {0}
AreUnfolded (r ∷ rs) = (starts_blank r ≡ false) × AreUnfolded rs

-- The lines of a text, and numbers in the format of configurations and scripts: formats of this project's own.
use Rattle.std.specs.Prelude.{ℕ, Bool, true, false, nat_lt, ◌==◌, if◌then◌else◌, List, [], ◌∷◌, ◌++◌, ◌+◌, Option, Some, None, Result, Ok, Err}
use Rattle.std.specs.List.{onto_first, slice_split}
use Rattle.mmtel_base.specs.Chain.{◌>>=◌}
use Rattle.mmtel_base.specs.Numbers.{plain_number}

-- the lines: an LF ends each, and the last may lack it
abbrev pub lines_of : List ℕ → List (List ℕ)
lines_of [] = []
lines_of (b ∷ s) = if b == 10 then [] ∷ lines_of s else onto_first b (lines_of s)

-- an empty line, or one that begins with `#`
abbrev pub is_comment : List ℕ → Bool
is_comment [] = true
is_comment (b ∷ s) = b == 35

-- the number, of at least the least and at most the limit, that these decimal digits without leading zeros write
abbrev pub number_from : ℕ → ℕ → List ℕ → Option ℕ
number_from least limit s = do
  n ← plain_number limit s
  if nat_lt n least then None else Some n

-- the result of a function of a value, or the number of the line without one
abbrev pub and_then : {A B : Type 0} → ℕ → Option A → (A → Result B ℕ) → Result B ℕ
and_then number (Some x) more = more x
and_then number None more = Err number

-- the contents of lines, each read after those of the lines before it, or the number of the first that may not follow there; the lines begin at this number, after lines with these
-- contents
abbrev pub lines_by : {L : Type 0} → (List L → List ℕ → Option L) → ℕ → List L → List (List ℕ) → Result (List L) ℕ
lines_by read number lines [] = Ok lines
lines_by read number lines (text ∷ texts) = and_then number (read lines text) (λ line. lines_by read (number + 1) (lines ++ line ∷ []) texts)

-- the words of a line, which are separated by one space
unfoldable pub words_of : List ℕ → List (List ℕ)
words_of s = slice_split (λ b. b == 32) s

-- the words after a first one, where a space follows it
abbrev pub words_after : Option (List ℕ) → List (List ℕ)
words_after None = []
words_after (Some s) = words_of s

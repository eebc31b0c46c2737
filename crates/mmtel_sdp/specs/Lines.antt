-- A text as lines `x=value`, each of which LF or CRLF ends (RFC 4566 §5 and §9).
use Rattle.std.specs.Prelude.{ℕ, List, [], ◌∷◌, ◌++◌, length, Option, Some, None, ◌==◌, if◌then◌else◌}
use Rattle.std.specs.List.{slice_split, flat_map}
use Rattle.std.specs.Str.{byte}
use Rattle.mmtel_base.specs.Chain.{◌>>=◌}
use Rattle.mmtel_base.specs.Scanning.{split_once_at}
use Rattle.mmtel_sdp.specs.declared.lines.Line.{Line}

-- a line without the CR at its end; no CR occurs elsewhere in it
abbrev pub text_from : Option (List ℕ × List ℕ) → List ℕ → Option (List ℕ)
text_from None raw = Some raw
text_from (Some p) raw = if length p.1 == 0 then Some p.0 else None

-- x=value
abbrev pub line_of : List ℕ → Option Line
line_of [] = None
line_of (letter ∷ []) = None
line_of (letter ∷ equals ∷ value) = if equals == byte "=" then Some (record { letter = letter; value = value }) else None

-- what is between two LFs, as a line
unfoldable pub line_at : List ℕ → Option Line
line_at raw = text_from (split_once_at 13 raw) raw >>= λ text. line_of text

-- each part is a line but the last, which is empty: a LF ends each line
abbrev pub lines_in : List (List ℕ) → Option (List Line)
lines_in [] = None
lines_in (last ∷ []) = if length last == 0 then Some [] else None
lines_in (raw ∷ next ∷ more) = line_at raw >>= λ line. lines_in (next ∷ more) >>= λ lines. Some (line ∷ lines)

-- the lines of a text
unfoldable pub lines_of : List ℕ → Option (List Line)
lines_of s = lines_in (slice_split (λ b. b == 10) s)

-- a line as it is written, with CRLF
abbrev pub line_text_of : Line → List ℕ
line_text_of line = line.letter ∷ byte "=" ∷ (line.value ++ 13 ∷ 10 ∷ [])

-- lines as they are written
abbrev pub text_of : List Line → List ℕ
text_of lines = flat_map line_text_of lines

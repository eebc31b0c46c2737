-- A message split into lines.
use Rattle.std.specs.Prelude.{◌&&◌, ◌+◌, Option, Some, None, ◌==◌, if◌then◌else◌, ℕ, Bool, List, [], ◌∷◌, ◌++◌, false, drop}
use Rattle.std.specs.Option.{option_map}
use Rattle.mmtel_base.specs.Classes.{in_class}
use Rattle.mmtel_base.specs.Scanning.{after_run, without_trailing}
use Rattle.mmtel_base.specs.declared.classes.Class.TheVariants.{Blank}
use Rattle.mmtel_message.specs.declared.lines.Break.{Break}
use Rattle.mmtel_message.specs.declared.lines.Break.TheVariants.{Line, Head}

-- the byte comes first
abbrev pub begins_with_byte : ℕ → List ℕ → Bool
begins_with_byte b [] = false
begins_with_byte b (x ∷ s) = x == b

-- CR LF comes first
abbrev pub crlf : List ℕ → Bool
crlf [] = false
crlf (b ∷ s) = b == 13 && begins_with_byte 10 s

abbrev pub begins_with_break : Break → List ℕ → Bool
begins_with_break Line s = crlf s
begins_with_break Head s = crlf s && crlf (drop 2 s)

abbrev pub width : Break → ℕ
width Line = 2
width Head = 4

-- the first place where it occurs
unfoldable pub first_break : Break → List ℕ → Option ℕ
first_break k [] = None
first_break k (b ∷ s) = if begins_with_break k (b ∷ s) then Some 0 else option_map (λ n. n + 1) (first_break k s)

-- a byte put before lines
abbrev pub put : ℕ → List (List ℕ) → List (List ℕ)
put b [] = (b ∷ []) ∷ []
put b (l ∷ ls) = if crlf (b ∷ l) then [] ∷ drop 1 l ∷ ls else (b ∷ l) ∷ ls

-- what comes before, between and after the line ends
unfoldable pub split : List ℕ → List (List ℕ)
split [] = [] ∷ []
split (b ∷ s) = put b (split s)

-- the lines of what follows a line end, if there was one
abbrev pub rest_lines : Option (List ℕ) → List (List ℕ)
rest_lines None = []
rest_lines (Some s) = split s

abbrev pub starts_blank : List ℕ → Bool
starts_blank [] = false
starts_blank (b ∷ s) = in_class Blank b

-- a line and the one that continues it
abbrev pub continued_line : List ℕ → List ℕ → List ℕ
continued_line line more = without_trailing Blank line ++ (32 ∷ after_run Blank more)

-- the lines, where those so far have been joined to this one
unfoldable pub logical_lines_from : List ℕ → List (List ℕ) → List (List ℕ)
logical_lines_from line [] = line ∷ []
logical_lines_from line (l ∷ ls) = if starts_blank l then logical_lines_from (continued_line line l) ls else line ∷ logical_lines_from l ls

-- each line with those that continue it
abbrev pub logical_lines : List (List ℕ) → List (List ℕ)
logical_lines [] = []
logical_lines (l ∷ ls) = logical_lines_from l ls

abbrev pub or_found : Option ℕ → Option ℕ → Option ℕ
or_found (Some n) found = Some n
or_found None found = found

-- the last place where a line ends
unfoldable pub last_line_end : List ℕ → Option ℕ
last_line_end [] = None
last_line_end (b ∷ s) = or_found (option_map (λ n. n + 1) (last_line_end s)) (if crlf (b ∷ s) then Some 0 else None)

-- where the last complete line ends: at the end of the head, or else at the last line end
abbrev pub whole_end : List ℕ → Option ℕ
whole_end s = or_found (first_break Head s) (last_line_end s)

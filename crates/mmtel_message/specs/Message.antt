-- A message as contracts see it (RFC 3261 §7): its start line, its header lines (name and value) and its body; and lookup and edits by a name, which is compared
-- without case (§7.3.1).
use Rattle.std.specs.Prelude.{not, Option, Some, None, if◌then◌else◌, ℕ, Bool, List, [], ◌∷◌, filter, map}
use Rattle.std.specs.List.{flat_map, list_any}
use Rattle.std.specs.Str.{str_eq_ignore_ascii_case}
use Rattle.mmtel_message.specs.Values.{values_in}
use Rattle.mmtel_message.specs.declared.values.Mode.{Mode}

-- a header line: its name and its value
abbrev pub Line : Type 0
Line = List ℕ × List ℕ

-- a list of one header line
unfoldable pub line : List ℕ → List ℕ → List Line
line name value = (name, value) ∷ []

-- a message, whose start line is of the type S
pub record Message (S : Type 0) : Type 0 where
  pub start : S
  pub lines : List Line
  pub body : List ℕ

abbrev pub is_line : List ℕ → Line → Bool
is_line name l = str_eq_ignore_ascii_case l.0 name

-- the lines of the name
abbrev pub lines_named : List ℕ → List Line → List Line
lines_named name ls = filter (λ l. is_line name l) ls

-- there is a line of the name
abbrev pub has_line : List ℕ → List Line → Bool
has_line name ls = list_any (λ l. is_line name l) ls

-- the value of the first line of the name
abbrev pub first_value : List ℕ → List Line → Option (List ℕ)
first_value name [] = None
first_value name (l ∷ ls) = if is_line name l then Some l.1 else first_value name ls

-- without the lines of the name
abbrev pub lines_without : List ℕ → List Line → List Line
lines_without name ls = filter (λ l. not (is_line name l)) ls

-- the first line of the name gets this value and further ones are removed, or one line is added
abbrev pub lines_with : List ℕ → List ℕ → List Line → List Line
lines_with name value [] = (name, value) ∷ []
lines_with name value (l ∷ ls) = if is_line name l then (name, value) ∷ lines_without name ls else l ∷ lines_with name value ls

-- the texts of the lines of the name, unsplit
abbrev pub line_texts : List ℕ → List Line → List (List ℕ)
line_texts name ls = map (λ l. l.1) (lines_named name ls)

abbrev pub line_values : Mode → List ℕ → Line → List (List ℕ)
line_values m name l = if is_line name l then values_in m l.1 else []

-- the values of the lines of the name, in order
abbrev pub values_named : Mode → List ℕ → List Line → List (List ℕ)
values_named m name ls = flat_map (λ l. line_values m name l) ls

-- Header lines (RFC 3261 §7.3.1 and §25.1): a token, blanks, ':', and a value without the blanks around it.
use Rattle.std.specs.Prelude.{◌&&◌, not, Option, Some, None, ◌==◌, if◌then◌else◌, ℕ, Bool, List, [], length}
use Rattle.std.specs.List.{list_all}
use Rattle.mmtel_base.specs.Scanning.{leading_run, after_run, after_byte, without_outer}
use Rattle.mmtel_base.specs.declared.classes.Class.TheVariants.{Blank, Token}
use Rattle.mmtel_message.specs.Names.{long_name}

-- a value has no byte 0, no CR and no LF
abbrev pub is_value_byte : ℕ → Bool
is_value_byte b = not (b == 0) && not (b == 13) && not (b == 10)

-- without the blanks around it
abbrev pub trim : List ℕ → List ℕ
trim s = without_outer Blank s

abbrev pub header_of : List ℕ → Option (List ℕ) → Option (List ℕ × List ℕ)
header_of name None = None
header_of name (Some value) = if list_all is_value_byte (trim value) then Some (long_name name, trim value) else None

-- the name and the value of a header line, where it is one
unfoldable pub header_at : List ℕ → Option (List ℕ × List ℕ)
header_at line = if length (leading_run Token line) == 0 then None else header_of (leading_run Token line) (after_byte 58 (after_run Blank (after_run Token line)))

abbrev pub or_unnamed : Option (List ℕ × List ℕ) → List ℕ × List ℕ
or_unnamed None = ([], [])
or_unnamed (Some h) = h

-- the name and the value of a header line; a line that is none has no name
abbrev pub header_line : List ℕ → List ℕ × List ℕ
header_line line = or_unnamed (header_at line)

-- The lines of the five fields, found in one pass (RFC 3261 §8.1.1): what the lines that follow add to what was found before them. Private functions alone cite this.
use Rattle.std.specs.Prelude.{Option, Some, None, ◌==◌, if◌then◌else◌, ℕ, List, count_by}
use Rattle.mmtel_message.specs.Fields.{only_value}
use Rattle.mmtel_message.specs.Message.{Line, is_line, first_value}
use Rattle.mmtel_message.specs.declared.five_lines.Only.{Only}
use Rattle.mmtel_message.specs.declared.five_lines.Only.TheVariants.{Nothing, One, Several}

-- the value of the first line of the name, where this was found before these lines
abbrev pub first_behind : List ℕ → Option (List ℕ) → List Line → Option (List ℕ)
first_behind name None ls = first_value name ls
first_behind name (Some v) ls = Some v

-- the value of the only line of the name, where this was found before these lines
abbrev pub only_behind : List ℕ → Only → List Line → Option (List ℕ)
only_behind name Nothing ls = only_value name ls
only_behind name (One v) ls = if count_by (λ l. is_line name l) ls == 0 then Some v.now else None
only_behind name Several ls = None

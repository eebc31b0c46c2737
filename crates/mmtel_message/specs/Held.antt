-- How a message is held: the received bytes, and for each line its name and its value, which is the place where it is among these bytes or an edit, a text of
-- its own; added lines come after received ones.
use Rattle.std.specs.Prelude.{Option, Some, None, ℕ, List, ◌++◌, map, take, drop, slice_get}
use Rattle.mmtel_message.specs.Message.{Line}
use Rattle.mmtel_message.specs.declared.held.Span.{Span}
use Rattle.mmtel_message.specs.declared.held.HeldValue.{HeldValue}
use Rattle.mmtel_message.specs.declared.held.HeldValue.TheVariants.{Received, Edited}

-- the bytes at a place
abbrev pub bytes_at : List ℕ → Span → List ℕ
bytes_at s p = take p.len (drop p.from s)

-- a value of a message that holds these bytes
abbrev pub value_of : List ℕ → HeldValue → List ℕ
value_of s (Received p) = bytes_at s p
value_of s (Edited t) = t

abbrev pub span_of : HeldValue → Option Span
span_of (Received p) = Some p
span_of (Edited t) = None

abbrev pub held_line : List ℕ → List ℕ × HeldValue → Line
held_line s h = (h.0, value_of s h.1)

-- the received lines, as they are held
abbrev pub held_lines : List ℕ → List (List ℕ × HeldValue) → List Line
held_lines s hs = map (λ h. held_line s h) hs

-- all lines: the received ones, and the added ones
abbrev pub lines_of : List ℕ → List (List ℕ × HeldValue) → List Line → List Line
lines_of s hs added = held_lines s hs ++ added

-- what contracts see of the lines of a message: names and values, the received bytes, and where the values of the first lines are among them
pub record Lines : Type 0 where
  pub values : List Line
  pub received : List ℕ
  pub spans : List (Option Span)

abbrev pub or_none : Option (Option Span) → Option Span
or_none None = None
or_none (Some p) = p

-- the place of a line's value; none for a line after these
abbrev pub span_at : List (Option Span) → ℕ → Option Span
span_at places n = or_none (slice_get places n)

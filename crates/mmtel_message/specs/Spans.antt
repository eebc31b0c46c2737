-- The lines of a head by the places where they begin, which private functions alone cite.
use Rattle.std.specs.Prelude.{◌+◌, ◌≤◌, ◌<◌, Option, Some, None, ℕ, Bool, false, List, length, drop}
use Rattle.std.specs.Option.{option_map}
use Rattle.mmtel_message.specs.declared.held.HeldValue.{HeldValue}
use Rattle.mmtel_message.specs.declared.held.HeldValue.TheVariants.{Received, Edited}
use Rattle.mmtel_message.specs.Lines.{rest_lines, starts_blank}

-- the lines from a place on
abbrev pub rest_at : List ℕ → Option ℕ → List (List ℕ)
rest_at s next = rest_lines (option_map (λ n. drop n s) next)

-- whether the line that begins at a place continues the one before
abbrev pub continues : List ℕ → Option ℕ → Bool
continues s None = false
continues s (Some n) = starts_blank (drop n s)

-- a later place
abbrev pub IsBehind : ℕ → List ℕ → ℕ → Type 0
IsBehind m s n = (m < n) × (n ≤ length s)

-- the place is among the bytes
abbrev pub IsWithin : List ℕ → HeldValue → Type 0
IsWithin s (Received p) = p.from + p.len ≤ length s
IsWithin s (Edited t) = Unit {0}

-- The values of one text: of a listed name, separated by commas (RFC 3261 §7.3.1), and the words of Privacy, separated by ';' (RFC 3323 §4.2).
use Rattle.std.specs.Prelude.{Option, Some, None, ◌==◌, if◌then◌else◌, ℕ, Bool, false, List, [], ◌∷◌, ◌++◌, ◌+◌, map, drop}
use Rattle.std.specs.List.{flat_map}
use Rattle.std.specs.Option.{option_map}
use Rattle.mmtel_message.specs.Headers.{trim}
use Rattle.mmtel_message.specs.declared.values.Mode.{Mode}
use Rattle.mmtel_message.specs.declared.values.Mode.TheVariants.{Plain, Quoted, Escaped, Angle, Words}

-- where the next byte is: outside quotes, in quotes, after a backslash, in angle brackets, or between the words of Privacy
abbrev pub mode_after : Mode → ℕ → Mode
mode_after Plain b = if b == 34 then Quoted else if b == 60 then Angle else Plain
mode_after Quoted b = if b == 34 then Plain else if b == 92 then Escaped else Quoted
mode_after Escaped b = Quoted
mode_after Angle b = if b == 62 then Plain else Angle
mode_after Words b = Words

-- a comma outside quotes and angle brackets separates, and so does a ';' between words
abbrev pub is_separator : Mode → ℕ → Bool
is_separator Plain b = b == 44
is_separator Quoted b = false
is_separator Escaped b = false
is_separator Angle b = false
is_separator Words b = b == 59

-- where the byte after a separating one is
abbrev pub base : Mode → Mode
base Plain = Plain
base Quoted = Plain
base Escaped = Plain
base Angle = Plain
base Words = Words

-- the place of the first byte that separates
unfoldable pub next_separator : Mode → List ℕ → Option ℕ
next_separator m [] = None
next_separator m (b ∷ s) = if is_separator m b then Some 0 else option_map (λ n. n + 1) (next_separator (mode_after m b) s)

abbrev pub put_byte : ℕ → List (List ℕ) → List (List ℕ)
put_byte b [] = (b ∷ []) ∷ []
put_byte b (l ∷ ls) = (b ∷ l) ∷ ls

-- what comes before, between and after the bytes that separate
unfoldable pub parts : Mode → List ℕ → List (List ℕ)
parts m [] = [] ∷ []
parts m (b ∷ s) = if is_separator m b then [] ∷ parts (base m) s else put_byte b (parts (mode_after m b) s)

abbrev pub rest_parts : Mode → Option (List ℕ) → List (List ℕ)
rest_parts m None = []
rest_parts m (Some s) = parts m s

-- the parts without the blanks around them
abbrev pub values_in : Mode → List ℕ → List (List ℕ)
values_in m s = map trim (parts m s)

-- the values from a place on; none where there is no place
abbrev pub values_from : Mode → List ℕ → Option ℕ → List (List ℕ)
values_from m s None = []
values_from m s (Some n) = values_in m (drop n s)

-- the values of a listed name's text
abbrev pub values_of : List ℕ → List (List ℕ)
values_of s = values_in Plain s

-- texts with a separator between them
abbrev pub joined_by : List ℕ → List (List ℕ) → List ℕ
joined_by between [] = []
joined_by between (v ∷ vs) = v ++ flat_map (λ w. between ++ w) vs

-- ---- words of private functions

-- the only byte that may separate two values, in this mode
abbrev pub separator : Mode → ℕ
separator Plain = 44
separator Quoted = 44
separator Escaped = 44
separator Angle = 44
separator Words = 59

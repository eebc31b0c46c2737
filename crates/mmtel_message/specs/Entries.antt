-- What a value of History-Info is (RFC 7044 §5): a name-addr whose first parameter `index` has an index-val, that is numbers separated by dots.
use Rattle.std.specs.Prelude.{Option, Some, None, ◌==◌, ◌&&◌, if◌then◌else◌, ℕ, Bool, true, false, List, [], ◌∷◌, codes}
use Rattle.std.specs.List.{list_all}
use Rattle.mmtel_base.specs.Classes.{is_digit}
use Rattle.mmtel_lex.specs.Reading.{name_addr_of}
use Rattle.mmtel_lex.specs.declared.values.NameAddr.{NameAddr}
use Rattle.mmtel_lex.specs.Params.{param_value}

-- whether a digit or a dot (46) may come, where the flag says that a digit came just before; and what the flag is then
abbrev pub dotted_step : Bool → ℕ → Option Bool
dotted_step digit b = if is_digit b then Some true else if digit && b == 46 then Some false else None

abbrev pub goes_on : (Bool → Bool) → Option Bool → Bool
goes_on more None = false
goes_on more (Some digit) = more digit

-- an index-val, or the rest of one: numbers separated by dots; the flag says that a digit came just before
unfoldable pub is_dotted : Bool → List ℕ → Bool
is_dotted digit [] = digit
is_dotted digit (b ∷ s) = goes_on (λ d. is_dotted d s) (dotted_step digit b)

-- the parameter is present and has a value, which is an index-val
abbrev pub is_index_value : Option (List ℕ) → Bool
is_index_value None = false
is_index_value (Some v) = is_dotted false v

-- the first parameter `index` is a place in History-Info
abbrev pub is_indexed : Option NameAddr → Bool
is_indexed None = false
is_indexed (Some n) = is_index_value (param_value (codes "index") n.params)

-- a value of History-Info
abbrev pub is_entry : List ℕ → Bool
is_entry v = is_indexed (name_addr_of v)

abbrev pub are_entries : List (List ℕ) → Bool
are_entries vs = list_all is_entry vs

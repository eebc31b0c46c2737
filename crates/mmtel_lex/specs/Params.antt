-- What parameters say (RFC 3261 §7.3.1 and §19.1.1): the first of a name decides, and names are compared without case.
use Rattle.std.specs.Prelude.{ℕ, Bool, if◌then◌else◌, List, [], ◌∷◌, Option, Some, None, is_some}
use Rattle.std.specs.Str.{str_eq_ignore_ascii_case}
use Rattle.mmtel_lex.specs.declared.values.Param.{Param}

-- the value of the first parameter of the name; None where there is none of that name, or the first has no value
abbrev pub param_value : List ℕ → List Param → Option (List ℕ)
param_value name [] = None
param_value name (p ∷ ps) = if str_eq_ignore_ascii_case p.name name then p.value else param_value name ps

-- the first parameter of the name
abbrev pub first_param : List ℕ → List Param → Option Param
first_param name [] = None
first_param name (p ∷ ps) = if str_eq_ignore_ascii_case p.name name then Some p else first_param name ps

-- there is a parameter of the name, with a value or without
abbrev pub has_param : List ℕ → List Param → Bool
has_param name ps = is_some (first_param name ps)

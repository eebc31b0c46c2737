-- What parameters in bytes are, as contracts see them.
use Rattle.std.specs.Prelude.{ℕ, List, [], Option, Some, None}
use Rattle.mmtel_lex.specs.declared.values.Param.{Param}
use Rattle.mmtel_lex.specs.Reading.{all_params_at}

-- what was read, or none
abbrev pub params_of_reading : Option (List Param × List ℕ) → List Param
params_of_reading None = []
params_of_reading (Some x) = x.0

-- the parameters with which the bytes begin
abbrev pub params_in : List ℕ → List Param
params_in s = params_of_reading (all_params_at s)

-- What the code read of a Request-URI, as the result of reading in the definitions.
use Rattle.std.specs.Prelude.{Ok, Err}
use Rattle.std.specs.declared.result.Result.{Result}
use Rattle.mmtel_lex.specs.Reading.{Refusal, foreign, malformed}
use Rattle.mmtel_lex.specs.declared.values.Uri.{Uri}
use Rattle.mmtel_admission.specs.declared.refusals.Target.{Target}
use Rattle.mmtel_admission.specs.declared.refusals.Target.TheVariants as target

abbrev pub target_in : Target → Result Uri Refusal
target_in (target.Known uri) = Ok uri
target_in target.Malformed = Err malformed
target_in target.Foreign = Err foreign

use Rattle.std.proofs.Common.{length}
use Rattle.mmtel_lex.proofs.ParamsSeek.{PassesOn}
use Rattle.mmtel_lex.proofs.param_refs.after_params.Given as goal

abbrev pub invariant-params : goal.invariant-params
invariant-params l = PassesOn l.rest l.fn.bytes

abbrev pub decreases-params : goal.decreases-params
decreases-params l = length l.rest

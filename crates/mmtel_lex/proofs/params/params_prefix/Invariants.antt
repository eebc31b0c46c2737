use Rattle.std.proofs.Common.{length}
use Rattle.mmtel_lex.proofs.ParamsLoop.{ReadsOn}
use Rattle.mmtel_lex.proofs.params.params_prefix.Given as goal

abbrev pub invariant-params : goal.invariant-params
invariant-params l = ReadsOn l.params l.rest l.fn.bytes

abbrev pub decreases-params : goal.decreases-params
decreases-params l = length l.rest

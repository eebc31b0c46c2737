use Rattle.std.proofs.Common.{length}
use Rattle.mmtel_lex.proofs.ParamsSeek.{SeeksOn}
use Rattle.mmtel_lex.proofs.param_refs.first_in.Given as goal

abbrev pub invariant-params : goal.invariant-params
invariant-params l = SeeksOn l.name l.rest l.fn.bytes

abbrev pub decreases-params : goal.decreases-params
decreases-params l = length l.rest

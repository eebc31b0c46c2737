use Rattle.std.proofs.Common.{vec_len}
use Rattle.mmtel_units_calls.proofs.conference_operations.end_all.Given as goal

abbrev pub decreases-loop-ended : goal.decreases-loop-ended
decreases-loop-ended l = vec_len l.rest

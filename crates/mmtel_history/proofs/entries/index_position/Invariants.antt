use Rattle.mmtel_history.proofs.IndexTheorems.{PassedBy}
use Rattle.mmtel_history.proofs.entries.index_position.Given as goal

abbrev pub invariant-loop-i : goal.invariant-loop-i
invariant-loop-i l = PassedBy l.params l.i

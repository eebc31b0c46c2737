use Rattle.mmtel_history.proofs.PartTheorems.{Reads}
use Rattle.mmtel_history.proofs.parts.first_escaped.Given as goal

abbrev pub invariant-loop-i : goal.invariant-loop-i
invariant-loop-i l = Reads l.i l.bytes

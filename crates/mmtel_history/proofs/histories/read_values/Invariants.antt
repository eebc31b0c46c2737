use Rattle.mmtel_history.proofs.ValuesLoop.{ReadSoFar}
use Rattle.mmtel_history.proofs.histories.read_values.Given as goal

abbrev pub invariant-loop-i : goal.invariant-loop-i
invariant-loop-i l = ReadSoFar l.value-items l.i l.entries.items

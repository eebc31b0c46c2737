use Rattle.mmtel_message.specs.Values.{next_separator}
use Rattle.mmtel_message.proofs.CommaTheorems.{Goes}
use Rattle.mmtel_message.proofs.values.walked_separator.Given as goal

abbrev pub invariant-loop-i : goal.invariant-loop-i
invariant-loop-i l = Goes (next_separator l.fn.mode l.bytes) l.i l.current l.bytes

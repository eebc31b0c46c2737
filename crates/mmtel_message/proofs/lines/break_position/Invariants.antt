use Rattle.std.proofs.Common.{◌-◌, ◌≤◌, length}
use Rattle.mmtel_message.specs.Lines.{first_break}
use Rattle.mmtel_message.proofs.LineTheorems.{Goes}
use Rattle.mmtel_message.proofs.lines.break_position.Given as goal

abbrev pub invariant-ends : goal.invariant-ends
invariant-ends l = Goes (first_break l.fn.separator l.fn.bytes) l.fn.separator l.from l.fn.bytes × (l.from ≤ length l.fn.bytes)

abbrev pub decreases-ends : goal.decreases-ends
decreases-ends l = length l.fn.bytes - l.from

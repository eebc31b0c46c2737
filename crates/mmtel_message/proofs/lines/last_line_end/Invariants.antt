use Rattle.std.proofs.Common.{◌≤◌, length}
use Rattle.std.specs.Prelude.{IfSome}
use Rattle.mmtel_message.specs.Lines.{last_line_end}
use Rattle.mmtel_message.proofs.LineTheorems.{Found}
use Rattle.mmtel_message.proofs.lines.last_line_end.Given as goal

abbrev pub invariant-loop-i : goal.invariant-loop-i
invariant-loop-i l = Found (last_line_end l.bytes) l.i l.found l.bytes × IfSome l.found (λ n. n ≤ length l.bytes)

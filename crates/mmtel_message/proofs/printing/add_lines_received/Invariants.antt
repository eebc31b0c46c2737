use Rattle.std.proofs.Common.{◌≡◌, ◌++◌, take}
use Rattle.mmtel_message.specs.Held.{held_lines}
use Rattle.mmtel_message.specs.Texts.{lines_text}
use Rattle.mmtel_message.proofs.printing.add_lines_received.Given as goal

abbrev pub invariant-loop-line : goal.invariant-loop-line
invariant-loop-line l = l.out ≡ l.fn.out ++ lines_text (held_lines l.received (take l.line-index l.held))

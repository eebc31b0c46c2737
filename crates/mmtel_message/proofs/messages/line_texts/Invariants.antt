use Rattle.std.proofs.Common.{◌≡◌, ◌++◌, ◌-◌, length, drop}
use Rattle.mmtel_message.specs.Message.{line_texts}
use Rattle.mmtel_message.proofs.messages.line_texts.Given as goal

abbrev pub invariant-lines : goal.invariant-lines
invariant-lines l = line_texts l.name l.lines.values ≡ l.out ++ line_texts l.name (drop l.from l.lines.values)

abbrev pub decreases-lines : goal.decreases-lines
decreases-lines l = length l.lines.values - l.from

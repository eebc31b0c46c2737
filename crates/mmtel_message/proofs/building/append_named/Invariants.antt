use Rattle.std.proofs.Common.{◌≡◌, ◌++◌, ◌-◌, length, drop}
use Rattle.mmtel_message.specs.Message.{lines_named}
use Rattle.mmtel_message.proofs.building.append_named.Given as goal

abbrev pub invariant-lines : goal.invariant-lines
invariant-lines l = l.fn.out ++ lines_named l.name l.lines.values ≡ l.out ++ lines_named l.name (drop l.from l.lines.values)

abbrev pub decreases-lines : goal.decreases-lines
decreases-lines l = length l.lines.values - l.from

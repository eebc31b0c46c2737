use Rattle.std.proofs.Common.{◌≡◌, ◌++◌, take, map}
use Rattle.std.specs.Prelude.{codes}
use Rattle.mmtel_message.specs.Message.{lines_named}
use Rattle.mmtel_message.specs.Responses.{to_line}
use Rattle.mmtel_message.proofs.responses.add_to.Given as goal

abbrev pub invariant-loop-i : goal.invariant-loop-i
invariant-loop-i l = l.out ≡ l.fn.out ++ map (to_line l.tag) (lines_named (codes "To") (take l.i l.lines.values))

use Rattle.std.proofs.Common.{◌≡◌, ◌++◌, take}
use Rattle.mmtel_trust.specs.HeaderTable.{other_lines}
use Rattle.mmtel_trust.proofs.header_table.add_others.Given as goal

abbrev pub invariant-loop-i : goal.invariant-loop-i
invariant-loop-i l = l.out ≡ l.fn.out ++ other_lines l.facing l.to_trusted (take l.i l.lines.values)

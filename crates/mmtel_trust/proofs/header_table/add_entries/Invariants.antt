use Rattle.std.proofs.Common.{◌≡◌, ◌++◌, map, take}
use Rattle.mmtel_trust.specs.HeaderTable.{history_line}
use Rattle.mmtel_trust.proofs.header_table.add_entries.Given as goal

abbrev pub invariant-loop-entry : goal.invariant-loop-entry
invariant-loop-entry l = l.out ≡ l.fn.out ++ map history_line (take l.entry-index l.entries)

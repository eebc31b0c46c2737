use Rattle.std.proofs.Common.{◌≡◌, ◌++◌, List}
use Rattle.mmtel_charging.specs.declared.rows.Row.{Row}
use Rattle.mmtel_journal.specs.Fields.{row_at}
use Rattle.mmtel_journal.proofs.CountedLists.{Progress}
use Rattle.mmtel_journal.proofs.payloads.read_rows.Given as goal

abbrev pub invariant-loop-left : goal.invariant-loop-left
invariant-loop-left l = (done : List Row) × Progress row_at l.tail done l.left l.rest × (l.rows.items ≡ l.fn.rows.items ++ done)

abbrev pub decreases-loop-left : goal.decreases-loop-left
decreases-loop-left l = l.left

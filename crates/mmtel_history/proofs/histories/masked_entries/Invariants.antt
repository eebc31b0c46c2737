use Rattle.std.proofs.Common.{◌≡◌, take}
use Rattle.mmtel_history.specs.HistoryInfo.{masked_list}
use Rattle.mmtel_history.proofs.histories.masked_entries.Given as goal

abbrev pub invariant-loop-entry : goal.invariant-loop-entry
invariant-loop-entry l = l.out.items ≡ masked_list l.all (take l.entry-index l.entries)

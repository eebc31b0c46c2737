use Rattle.std.proofs.Common.{◌≡◌, ℕ, List}
use Rattle.mmtel_types.specs.declared.numbers.Account.{Account}
use Rattle.mmtel_journal.specs.Fields.{sheet_at}
use Rattle.mmtel_journal.specs.Payloads.{put_sheets}
use Rattle.mmtel_journal.proofs.CountedLists.{Progress}
use Rattle.mmtel_journal.proofs.payloads.read_sheets.Given as goal

abbrev pub invariant-loop-left : goal.invariant-loop-left
invariant-loop-left l = (done : List (Account × List ℕ)) × Progress sheet_at l.tail done l.left l.rest × (l.sheets.texts ≡ put_sheets done l.fn.sheets.texts)

abbrev pub decreases-loop-left : goal.decreases-loop-left
decreases-loop-left l = l.left

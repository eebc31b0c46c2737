use Rattle.std.proofs.Common.{◌≡◌, take}
use Rattle.mmtel_journal.proofs.growing.copy_sheets.Given as goal

abbrev pub invariant-loop-sheet : goal.invariant-loop-sheet
invariant-loop-sheet l = l.copied ≡ take l.sheet-index l.sheets

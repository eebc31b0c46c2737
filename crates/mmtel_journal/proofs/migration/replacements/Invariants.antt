use Rattle.std.proofs.Common.{◌≡◌}
use Rattle.mmtel_journal.proofs.Migrating.{AreFound}
use Rattle.mmtel_journal.proofs.migration.replacements.Given as goal

abbrev pub invariant-loop-sheet : goal.invariant-loop-sheet
invariant-loop-sheet l = record {
  place : l.at ≡ l.sheet-index;
  found : AreFound l.sheet-index l.sheets l.found;
}

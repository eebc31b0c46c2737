use Rattle.std.proofs.Common.{◌≡◌, take}
use Rattle.mmtel_keeper.specs.Migration.{first_version_count}
use Rattle.mmtel_sqlite.proofs.statements.migrate_each.Given as goal

abbrev pub invariant-loop-sheet : goal.invariant-loop-sheet
invariant-loop-sheet g l = l.count ≡ first_version_count (take l.sheet-index l.sheets)

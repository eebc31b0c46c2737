use Rattle.std.proofs.Common.{◌≡◌, ◌++◌, ◌∷◌, length, take}
use Rattle.std.specs.Prelude.{All}
use Rattle.std.specs.Int.{w64, to_be_bytes}
use Rattle.mmtel_journal.specs.Migrating.{sheets_in}
use Rattle.mmtel_journal.specs.Payloads.{IsSheet, sheets_bytes}
use Rattle.mmtel_journal.proofs.migration.replaced_body.Given as goal

abbrev pub invariant-loop-new : goal.invariant-loop-new
invariant-loop-new l = record {
  fits : All IsSheet (sheets_in (take l.new-index l.found));
  written : l.payload.items ≡ 1 ∷ (to_be_bytes w64 (length l.found) ++ sheets_bytes (sheets_in (take l.new-index l.found)));
}

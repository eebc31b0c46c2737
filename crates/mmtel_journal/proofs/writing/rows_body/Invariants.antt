use Rattle.std.proofs.Common.{◌≡◌, ◌+◌, ◌*◌, ◌++◌, ◌∷◌, length, take}
use Rattle.std.specs.Prelude.{All}
use Rattle.std.specs.Int.{w64, to_be_bytes}
use Rattle.mmtel_journal.specs.Payloads.{IsRow, rows_bytes}
use Rattle.mmtel_journal.proofs.writing.rows_body.Given as goal

abbrev pub invariant-loop-row : goal.invariant-loop-row
invariant-loop-row l = record {
  fits : All IsRow (take l.row-index l.rows);
  written : l.body.items ≡ to_be_bytes w64 (9 + 45 * length l.rows) ++ (2 ∷ (to_be_bytes w64 (length l.rows) ++ rows_bytes (take l.row-index l.rows)));
}

use Rattle.std.proofs.Common.{◌≡◌, take}
use Rattle.mmtel_charging.specs.Rows.{text_of}
use Rattle.mmtel_charging.specs.Writing.{IsReady, records_text, written_bytes}
use Rattle.mmtel_charging.proofs.printing.write_rows.Given as goal

abbrev pub invariant-loop-row : goal.invariant-loop-row
invariant-loop-row l = IsReady l.writer × (written_bytes l.writer ≡ text_of (take l.row-index l.rows)) × (written_bytes l.writer ≡ records_text (take l.row-index l.rows))

use Rattle.std.proofs.Common.{◌≡◌, [], ◌∙◌, codes, refl, sym, append-nil}
use Rattle.csv.specs.Writing.{default_writer, row_text}
use Rattle.mmtel_charging.specs.Rows.{columns, fields_of, line_of}
use Rattle.mmtel_charging.specs.Writing.{written_bytes}
use Rattle.mmtel_charging.proofs.Lines.{header-line, rows-step}
use Rattle.mmtel_charging.proofs.printing.write_rows.Goals as goal

pub loop-row-init : goal.loop-row-init
loop-row-init c =
    let empty : written_bytes c.from_writer-writer.result ≡ [] = rw (c.from_writer-writer.ensures.wtr, c.from_writer-writer.ensures.empty, c.new-2.ensures.items) refl in
    (c.in_ok-write_record.ensures.ready, c.in_ok-write_record.ensures.csv_record ∙ rw empty header-line, c.in_ok-write_record.ensures.csv_record ∙ rw empty (sym (append-nil _)))

pub loop-row-preserved : goal.loop-row-preserved
loop-row-preserved c = (
  c.in_ok-write_row.ensures.ready,
  rows-step (λ row. line_of (fields_of row)) c.args.rows.now c.loop-row.row-index c.row-item.result (codes "kind,account,call,began,answered,ended,holds,cause,status\n")
      (written_bytes c.loop-row.writer) (written_bytes c.write_row.new.writer) c.loop-row-test.true c.row-item.is c.loop-row.invariant.1 c.in_ok-write_row.ensures.line,
  rows-step (λ row. row_text default_writer (fields_of row)) c.args.rows.now c.loop-row.row-index c.row-item.result (row_text default_writer columns)
      (written_bytes c.loop-row.writer) (written_bytes c.write_row.new.writer) c.loop-row-test.true c.row-item.is c.loop-row.invariant.2 c.in_ok-write_row.ensures.csv_record,
)

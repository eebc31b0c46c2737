-- What a CSV writer into memory has written: used between the functions of this crate alone.
use Rattle.std.specs.Prelude.{◌≡◌, ℕ, ◌<◌, ◌^◌, List, ◌++◌, Vec, false, IfSome}
use Rattle.std.specs.List.{flat_map}
use Rattle.std.specs.declared.alloc.Global.{Global}
use Rattle.csv.specs.Writing.{default_writer, fields_written, has_written, row_text, writer_pending, writer_setup, writer_under}
use Rattle.csv.specs.declared.writer.Writer.{Writer}
use Rattle.mmtel_types.specs.Causes as causes
use Rattle.mmtel_charging.specs.Rows.{columns, fields_of}
use Rattle.mmtel_charging.specs.declared.rows.Row.{Row}

-- the bytes that it has written, those that it still buffers included
abbrev pub written_bytes : Writer (Vec ℕ Global) → List ℕ
written_bytes writer = (writer_under writer).items ++ writer_pending writer

-- what is written before the rows and with them, in the form that the writer takes
abbrev pub records_text : List Row → List ℕ
records_text rows = row_text default_writer columns ++ flat_map (λ row. row_text default_writer (fields_of row)) rows

-- it has its usual settings and is between two records
pub record IsReady (writer : Writer (Vec ℕ Global)) : Type 0 where
  pub setup : writer_setup writer ≡ default_writer
  pub fields : fields_written writer ≡ 0
  pub none_written : has_written writer ≡ false

-- the numbers of a row fit into 64 bits
pub record InRange (row : Row) : Type 0 where
  pub account : row.account.0 < 2 ^ 64
  pub call : row.call.0 < 2 ^ 64
  pub began : row.began < 2 ^ 64
  pub answered : IfSome row.answered (λ moment. moment < 2 ^ 64)
  pub ended : row.ended < 2 ^ 64
  pub holds : row.holds < 2 ^ 64
  pub status : causes.status_of row.cause < 2 ^ 64

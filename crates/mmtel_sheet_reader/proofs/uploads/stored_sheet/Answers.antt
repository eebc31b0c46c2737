use Rattle.std.proofs.Common.{sym, ap}
use Rattle.mmtel_sheet_grammar.specs.Texts.{sheet_or_empty}
use Rattle.mmtel_sheet_reader.proofs.UploadTheorems.{is_without_record}
use Rattle.mmtel_sheet_reader.proofs.uploads.stored_sheet.Goals as goal

pub returns-in-Ok : goal.returns-in-Ok
returns-in-Ok c = record { exact = sym (ap sheet_or_empty c.in-Ok.ensures.total) }

pub returns-in_ok-sheet-in-Err : goal.returns-in_ok-sheet-in-Err
returns-in_ok-sheet-in-Err c =
    rw c.in_ok-sheet-in-Err.ensures.its
    (record { exact = is_without_record c.args.bytes.now c.in-Err.fault c.in-Err.ensures.total c.in_ok-sheet-in-Err.ensures.other })

use Rattle.mmtel_sheet_reader.proofs.UploadTheorems.{is_accepted, is_refused}
use Rattle.mmtel_sheet_reader.proofs.uploads.upload_of.Goals as goal

pub returns-in-Ok : goal.returns-in-Ok
returns-in-Ok c = record { exact = is_accepted c.args.bytes.now c.in-Ok.sheet c.in-Ok.ensures.total }

pub returns-in_ok-line-in-Err : goal.returns-in_ok-line-in-Err
returns-in_ok-line-in-Err c =
    rw c.in_ok-line-in-Err.ensures.line
    (record { exact = is_refused c.args.bytes.now c.in-Err.fault c.in-Err.ensures.total c.in_ok-line-in-Err.ensures.other })

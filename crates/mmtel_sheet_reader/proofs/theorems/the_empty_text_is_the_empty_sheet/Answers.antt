use Rattle.mmtel_sheet_reader.proofs.EmptyText.{empty_text, empty_upload}
use Rattle.mmtel_sheet_reader.proofs.theorems.the_empty_text_is_the_empty_sheet.Goals as goal

pub returns : goal.returns
returns c = record { its = empty_text; uploaded = empty_upload }

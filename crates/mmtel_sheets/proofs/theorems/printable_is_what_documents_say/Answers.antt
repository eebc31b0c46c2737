use Rattle.mmtel_sheets.proofs.DocumentSound.{printable_where_read}
use Rattle.mmtel_sheets.proofs.theorems.printable_is_what_documents_say.Goals as goal

pub returns : goal.returns
returns c = printable_where_read

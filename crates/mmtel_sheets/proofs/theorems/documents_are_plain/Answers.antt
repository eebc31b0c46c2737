use Rattle.mmtel_sheets.proofs.Plain.{document_plain}
use Rattle.mmtel_sheets.proofs.theorems.documents_are_plain.Goals as goal

pub returns : goal.returns
returns c = record { depth = λ s. (document_plain s).shallow; dates = λ s. (document_plain s).dateless }

use Rattle.mmtel_sheets.proofs.FirstVersion.{document_same, text_same}
use Rattle.mmtel_sheets.proofs.theorems.first_version_reads_as_before.Goals as goal

pub returns : goal.returns
returns c = record { document = document_same; text = text_same }

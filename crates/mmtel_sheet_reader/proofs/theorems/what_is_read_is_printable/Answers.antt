use Rattle.mmtel_sheet_reader.proofs.ReadMoments.{moment_printable}
use Rattle.mmtel_sheet_reader.proofs.ReadTables.{read_printable}
use Rattle.mmtel_sheet_reader.proofs.UriTexts.{uri_printable, target_printable}
use Rattle.mmtel_sheet_reader.proofs.theorems.what_is_read_is_printable.Goals as goal

pub returns : goal.returns
returns c = record { sheet = read_printable; uri = λ s u text. uri_printable s u; target = λ s u text. target_printable s u; moment = moment_printable }

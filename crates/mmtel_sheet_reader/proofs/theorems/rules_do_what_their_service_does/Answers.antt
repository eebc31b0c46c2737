use Rattle.mmtel_sheet_reader.proofs.ActionTheorems.{read_sheet_acts}
use Rattle.mmtel_sheet_reader.proofs.theorems.rules_do_what_their_service_does.Goals as goal

pub returns : goal.returns
returns c = record {
  diversion = λ ms s e. (read_sheet_acts ms s e).diversion;
  incoming = λ ms s e. (read_sheet_acts ms s e).incoming;
  outgoing = λ ms s e. (read_sheet_acts ms s e).outgoing;
}

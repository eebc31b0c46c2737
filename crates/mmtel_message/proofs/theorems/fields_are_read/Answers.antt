use Rattle.mmtel_message.proofs.GuaranteeTheorems.{five_read, read_via_line}
use Rattle.mmtel_message.proofs.theorems.fields_are_read.Goals as goal

pub returns : goal.returns
returns c = record {
  five = five_read;
  via = read_via_line;
}

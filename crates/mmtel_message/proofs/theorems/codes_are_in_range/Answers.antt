use Rattle.mmtel_message.proofs.GuaranteeTheorems.{read_code}
use Rattle.mmtel_message.proofs.theorems.codes_are_in_range.Goals as goal

pub returns : goal.returns
returns c = record {
  code = read_code;
}

use Rattle.mmtel_message.proofs.GuaranteeTheorems.{read_length}
use Rattle.mmtel_message.proofs.theorems.bodies_have_their_stated_length.Goals as goal

pub returns : goal.returns
returns c = record {
  length = read_length;
}

use Rattle.mmtel_message.proofs.GuaranteeTheorems.{first_holds}
use Rattle.mmtel_message.proofs.theorems.the_first_is_one_of_them.Goals as goal

pub returns : goal.returns
returns c = record {
  text = first_holds;
}

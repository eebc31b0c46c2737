use Rattle.mmtel_message.proofs.GuaranteeTheorems.{read_hops, read_hops_once}
use Rattle.mmtel_message.proofs.theorems.hops_are_numbers.Goals as goal

pub returns : goal.returns
returns c = record {
  number = read_hops;
  once = read_hops_once;
}

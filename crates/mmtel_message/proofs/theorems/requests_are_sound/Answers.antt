use Rattle.mmtel_message.proofs.GuaranteeTheorems.{read_method, read_tag, read_branch, read_target}
use Rattle.mmtel_message.proofs.theorems.requests_are_sound.Goals as goal

pub returns : goal.returns
returns c = record {
  method = read_method;
  tag = read_tag;
  branch = read_branch;
  target = read_target;
}

use Rattle.mmtel_message.proofs.GuaranteeTheorems.{fields_are}
use Rattle.mmtel_message.proofs.theorems.fields_are_on_lines.Goals as goal

pub returns : goal.returns
returns c = record {
  from = λ ls five e. (fields_are ls five e).from;
  to = λ ls five e. (fields_are ls five e).to;
  call_id = λ ls five e. (fields_are ls five e).call_id;
  cseq = λ ls five e. (fields_are ls five e).cseq;
}

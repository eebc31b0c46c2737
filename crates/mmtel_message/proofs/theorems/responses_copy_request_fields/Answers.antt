use Rattle.mmtel_message.proofs.ResponseTheorems.{via_of, from_of, to_of, id_of, cseq_of}
use Rattle.mmtel_message.proofs.theorems.responses_copy_request_fields.Goals as goal

pub returns : goal.returns
returns c = record {
  via = via_of;
  from = from_of;
  to = to_of;
  call_id = id_of;
  cseq = cseq_of;
}

use Rattle.std.proofs.Common.{refl}
use Rattle.mmtel_transaction.specs.Heads.{head_of}
use Rattle.mmtel_output.proofs.theorems.requests_have_heads.Goals as goal

pub returns : goal.returns
unfolding head_of
returns c = record {
  head = λ d number method given from to method_is can.
      rw (c.five_fields_read_back.ensures.read d number method given from to can.from_read can.to_read can.call_id can.small method_is can.branch can.sip can.port can.none) refl;
}

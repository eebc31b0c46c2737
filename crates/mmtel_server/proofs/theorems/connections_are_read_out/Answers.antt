use Rattle.mmtel_server.proofs.ReadOut.{has_all_bytes, unfailed}
use Rattle.mmtel_server.proofs.theorems.connections_are_read_out.Goals as goal

pub returns : goal.returns
returns c = record { unfailed = unfailed; all = has_all_bytes c.complete_requests_are_final.ensures.stand }

use Rattle.mmtel_message.proofs.GuaranteeTheorems.{read_routes, read_record_routes, read_asserted, read_served, read_refer}
use Rattle.mmtel_message.proofs.theorems.addresses_are_readable.Goals as goal

pub returns : goal.returns
returns c = record {
  route = read_routes;
  record_route = read_record_routes;
  asserted = read_asserted;
  served = read_served;
  refer = read_refer;
}

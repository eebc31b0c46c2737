use Rattle.mmtel_message.proofs.GuaranteeTheorems.{via_alone, route_alone, record_route_alone, contact_alone, asserted_alone, history_alone, supported_alone, require_alone}
use Rattle.mmtel_message.proofs.theorems.listed_values_are_on_own_lines.Goals as goal

pub returns : goal.returns
returns c = record {
  via = via_alone;
  route = route_alone;
  record_route = record_route_alone;
  contact = contact_alone;
  asserted = asserted_alone;
  history = history_alone;
  supported = supported_alone;
  require = require_alone;
}

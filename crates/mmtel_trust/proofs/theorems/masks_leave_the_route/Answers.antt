use Rattle.std.proofs.Common.{codes}
use Rattle.mmtel_trust.specs.PrivateFields.{hide_if}
use Rattle.mmtel_trust.proofs.ByName.{named-changed, params_hidden}
use Rattle.mmtel_trust.proofs.ParsedTheorems.{call_id_kept, cseq_kept, hops_kept, require_kept, route_kept, supported_kept, via_kept, way_kept}
use Rattle.mmtel_trust.proofs.IndexKeeping.{from_value, named-masked, tag_hidden, to_value}
use Rattle.mmtel_trust.proofs.theorems.masks_leave_the_route.Goals as goal

pub returns : goal.returns
returns c = record {
  via = λ p ls. named-masked p (codes "Via") ls (via_kept p);
  call_id = λ p ls. named-masked p (codes "Call-ID") ls (call_id_kept p);
  cseq = λ p ls. named-masked p (codes "CSeq") ls (cseq_kept p);
  hops = λ p ls. named-masked p (codes "Max-Forwards") ls (hops_kept p);
  route = λ p ls. named-masked p (codes "Route") ls (route_kept p);
  record_route = λ p ls. named-masked p (codes "Record-Route") ls (way_kept p);
  required = λ p ls. named-masked p (codes "Require") ls (require_kept p);
  supported = λ p ls. named-masked p (codes "Supported") ls (supported_kept p);
  from = λ p ls. named-changed p (codes "From") (hide_if p.from) (from_value p) ls;
  to = λ p ls. named-changed p (codes "To") (hide_if p.to) (to_value p) ls;
  params = params_hidden;
  tag = tag_hidden;
}

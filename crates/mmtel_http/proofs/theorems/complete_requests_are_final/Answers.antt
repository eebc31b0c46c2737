use Rattle.mmtel_http.proofs.Completeness.{complete_requests_are_final, unfinished_is_short}
use Rattle.mmtel_http.proofs.theorems.complete_requests_are_final.Goals as goal

pub returns : goal.returns
returns c = record { stand = complete_requests_are_final; short = unfinished_is_short }

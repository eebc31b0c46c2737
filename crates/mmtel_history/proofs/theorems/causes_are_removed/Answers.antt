use Rattle.mmtel_history.proofs.CauseTheorems.{without_params, without_user, without_headers, without_mark, without_plain, without_once}
use Rattle.mmtel_history.proofs.theorems.causes_are_removed.Goals as goal

pub returns : goal.returns
returns c = record { params = without_params; user = without_user; headers = without_headers; mark = without_mark; plain = without_plain; once = without_once }

use Rattle.mmtel_compose.proofs.ResponseTheorems.{rests}
use Rattle.mmtel_compose.proofs.theorems.responses_rest_on_six_names.Goals as goal

pub returns : goal.returns
returns c = record { same = rests }

use Rattle.mmtel_leg.proofs.ResponseTheorems as answers
use Rattle.mmtel_leg.proofs.theorems.the_last_response_decides.Goals as goal

pub returns : goal.returns
returns c = record { tag = answers.tag; routes = answers.routes; target = answers.target }

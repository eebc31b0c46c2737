use Rattle.mmtel_leg.proofs.ReceivedTheorems as heard
use Rattle.mmtel_leg.proofs.theorems.refusals_change_nothing.Goals as goal

pub returns : goal.returns
returns c = record { refused = heard.refused; last = heard.last }

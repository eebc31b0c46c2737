use Rattle.mmtel_mwi.proofs.Operations.{same_who}
use Rattle.mmtel_mwi.proofs.theorems.a_refresh_makes_no_subscription.Goals as goal

pub returns : goal.returns
returns c = record { same = same_who }

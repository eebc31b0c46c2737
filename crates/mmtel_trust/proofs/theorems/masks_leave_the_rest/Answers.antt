use Rattle.mmtel_trust.proofs.ParsedTheorems.{parsed-masked, public-masked, public_equal}
use Rattle.mmtel_trust.proofs.theorems.masks_leave_the_rest.Goals as goal

pub returns : goal.returns
returns c = record { received = parsed-masked; public = public-masked; equivalent = public_equal }

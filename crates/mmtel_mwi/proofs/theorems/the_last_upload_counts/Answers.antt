use Rattle.mmtel_mwi.proofs.Operations.{counted}
use Rattle.mmtel_mwi.proofs.theorems.the_last_upload_counts.Goals as goal

pub returns : goal.returns
returns c = record { counts = counted }

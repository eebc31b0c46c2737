use Rattle.mmtel_types.proofs.CauseTheorems.{distinguished}
use Rattle.mmtel_types.proofs.causes.causes_are_distinguished.Goals as goal

pub returns : goal.returns
returns c = record { distinguished = distinguished }

use Rattle.mmtel_leg.proofs.OperationTheorems.{come_back}
use Rattle.mmtel_leg.proofs.theorems.meters_come_back.Goals as goal

pub returns : goal.returns
returns c = record { all = come_back }

use Rattle.std.proofs.Common.{refl}
use Rattle.mmtel_call_parties.proofs.theorems.strangers_are_not_believed.Goals as goal

pub returns : goal.returns
returns c = record { parties = λ accounts m. refl }

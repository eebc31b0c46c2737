use Rattle.mmtel_call_theorems.proofs.Noninterference.Invariant.{calls_keep}
use Rattle.mmtel_call_theorems.proofs.noninterference_theorems.calls_keep_their_invariant.Goals as goal

pub returns : goal.returns
returns c = record { law = calls_keep }

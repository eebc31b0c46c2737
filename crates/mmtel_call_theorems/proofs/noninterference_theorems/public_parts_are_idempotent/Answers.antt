use Rattle.mmtel_call_theorems.proofs.Noninterference.Idempotence.{call_again}
use Rattle.mmtel_call_theorems.proofs.noninterference_theorems.public_parts_are_idempotent.Goals as goal

pub returns : goal.returns
returns c = record { law = call_again }

use Rattle.mmtel_call_theorems.proofs.Noninterference.NothingPrivate.{messages_have_nothing_private}
use Rattle.mmtel_call_theorems.proofs.noninterference_theorems.messages_have_nothing_private.Goals as goal

pub returns : goal.returns
returns c = record { law = messages_have_nothing_private }

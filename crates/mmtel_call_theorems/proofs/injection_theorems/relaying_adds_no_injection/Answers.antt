use Rattle.mmtel_call_theorems.proofs.NoInjection.ReceivedMessages.{copied_no_injection, parsed_no_injection}
use Rattle.mmtel_call_theorems.proofs.injection_theorems.relaying_adds_no_injection.Goals as goal

pub returns : goal.returns
returns c = record { copied = copied_no_injection; entries = λ m is. (parsed_no_injection m is).history_in }

use Rattle.mmtel_call_theorems.proofs.NoInjection.Traces.{emits_have_no_injection, emits_have_own_fields, finish_emits_have_no_injection}
use Rattle.mmtel_call_theorems.proofs.injection_theorems.calls_send_no_injection.Goals as goal

pub returns : goal.returns
returns c = record { no_injection = emits_have_no_injection; lines = emits_have_own_fields; finished = finish_emits_have_no_injection }

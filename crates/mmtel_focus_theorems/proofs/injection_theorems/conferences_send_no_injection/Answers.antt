use Rattle.mmtel_focus_theorems.proofs.NoInjectionOfTables.{emits_have_lines, emits_no_injection}
use Rattle.mmtel_focus_theorems.proofs.injection_theorems.conferences_send_no_injection.Goals as goal

pub returns : goal.returns
returns c = record { no_injection = emits_no_injection; lines = emits_have_lines }

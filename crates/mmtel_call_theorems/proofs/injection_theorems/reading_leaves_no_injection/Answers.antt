use Rattle.mmtel_call_theorems.proofs.NoInjection.Canonical.{read_no_injection}
use Rattle.mmtel_call_theorems.proofs.injection_theorems.reading_leaves_no_injection.Goals as goal

pub returns : goal.returns
returns c = record { law = read_no_injection }

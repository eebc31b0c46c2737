use Rattle.mmtel_call_theorems.proofs.NoInjection.Splitting.{cleans, heads, splits}
use Rattle.mmtel_call_theorems.proofs.injection_theorems.no_injection_keeps_own_fields.Goals as goal

pub returns : goal.returns
returns c = record { split = splits; no_injection = cleans; head = λ m is. let h = heads m is in (h.0, h.1.ends, h.1.lines, h.1.rest) }

use Rattle.std.proofs.Common.{[], ap, sym, ◌∙◌}
use Rattle.std.specs.FinMap.{from_entries}
use Rattle.mmtel_call_services.specs.Busy.{calls_of}
use Rattle.mmtel_call_services.proofs.Counting.{counted}
use Rattle.mmtel_call_services.proofs.busy.BusyCounts.new.Goals as goal

pub returns : goal.returns
returns c = record { none = λ number. ap (λ es. calls_of (from_entries es) number) c.new.ensures.empty ∙ sym (counted [] number) }

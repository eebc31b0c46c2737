use Rattle.mmtel_transaction.proofs.Arming.{armed_in_its_step}
use Rattle.mmtel_transaction.proofs.Settle.{firings_end, firings_use_up, more_changes_nothing, none_is_due, upcoming_is_least}
use Rattle.mmtel_transaction.proofs.theorems.deadlines_end.Goals as goal

pub returns : goal.returns
returns c = record { least = upcoming_is_least; none = none_is_due; armed = armed_in_its_step; use_up = firings_use_up; end = firings_end; more = more_changes_nothing }

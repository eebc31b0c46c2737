use Rattle.mmtel_focus_theorems.proofs.Lookups.{one_is_equivalent, ops_see_look_ups_alone}
use Rattle.mmtel_focus_theorems.proofs.noninterference.lookups_alone_are_seen.Goals as goal

pub returns : goal.returns
returns c = record { law = ops_see_look_ups_alone; one = one_is_equivalent }

use Rattle.mmtel_call_theorems.proofs.Noninterference.Lookups.{ends_look_up_none, openings_see_lookups_alone, steps_see_lookups_alone}
use Rattle.mmtel_call_theorems.proofs.noninterference_theorems.lookups_alone_are_seen.Goals as goal

pub returns : goal.returns
returns c = record { steps = steps_see_lookups_alone; openings = openings_see_lookups_alone; ends = ends_look_up_none }

use Rattle.mmtel_trust.proofs.ByName.{by_name, dropped_inside, named_inside, there-masked}
use Rattle.mmtel_trust.proofs.theorems.masks_see_no_names.Goals as goal

pub returns : goal.returns
returns c = record { chosen = by_name; named = named_inside; dropped = dropped_inside; there = there-masked }

use Rattle.mmtel_precedence.proofs.Locality.{only_reached_targets_count}
use Rattle.mmtel_precedence.proofs.theorems.only_reached_targets_count.Goals as goal

pub returns : goal.returns
returns c = record { law = only_reached_targets_count }

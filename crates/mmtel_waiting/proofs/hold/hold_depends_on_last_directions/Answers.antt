use Rattle.mmtel_waiting.proofs.HoldTheorems.{holds_of-state_after, holds-state_after}
use Rattle.mmtel_waiting.proofs.hold.hold_depends_on_last_directions.Goals as goal

pub returns : goal.returns
returns c = record { law = record { sides = holds_of-state_after; count = holds-state_after } }

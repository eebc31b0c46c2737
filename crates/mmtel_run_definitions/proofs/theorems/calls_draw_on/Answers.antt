use Rattle.mmtel_run_definitions.proofs.CallDraws.{draw_on, end_on}
use Rattle.mmtel_run_definitions.proofs.theorems.calls_draw_on.Goals as goal

pub returns : goal.returns
returns c = record { law = draw_on; ends = end_on }

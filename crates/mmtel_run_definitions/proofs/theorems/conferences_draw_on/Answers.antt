use Rattle.mmtel_run_definitions.proofs.ConferenceDraws.{conferences_draw_on}
use Rattle.mmtel_run_definitions.proofs.theorems.conferences_draw_on.Goals as goal

pub returns : goal.returns
returns c = record { law = conferences_draw_on }

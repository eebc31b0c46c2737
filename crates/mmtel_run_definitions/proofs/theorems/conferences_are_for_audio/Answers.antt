use Rattle.mmtel_run_definitions.proofs.Audio.{for_audio}
use Rattle.mmtel_run_definitions.proofs.theorems.conferences_are_for_audio.Goals as goal

pub returns : goal.returns
returns c = record { law = for_audio }

use Rattle.mmtel_run_theorems.proofs.ConferenceInvites.{conferences_send_once}
use Rattle.mmtel_run_theorems.proofs.noninterference.conferences_send_once.Goals as goal

pub returns : goal.returns
returns c = record { once = conferences_send_once }

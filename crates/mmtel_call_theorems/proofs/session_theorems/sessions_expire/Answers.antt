use Rattle.mmtel_call_theorems.proofs.Session.Expiring.{sessions_expire, sessions_expire_as_observed}
use Rattle.mmtel_call_theorems.proofs.session_theorems.sessions_expire.Goals as goal

pub returns : goal.returns
returns c = record { step = sessions_expire; seen = sessions_expire_as_observed }

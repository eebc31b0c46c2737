use Rattle.mmtel_call_theorems.proofs.Session.Keeping.{sessions_are_observed}
use Rattle.mmtel_call_theorems.proofs.session_theorems.sessions_are_observed.Goals as goal

pub returns : goal.returns
returns c = record { law = sessions_are_observed c.calls_continue.ensures.law }

use Rattle.mmtel_run_theorems.proofs.ShortSessions.{short_sessions_are_refused}
use Rattle.mmtel_run_theorems.proofs.theorems.short_sessions_are_refused.Goals as goal

pub returns : goal.returns
returns c = record { law = short_sessions_are_refused }

use Rattle.mmtel_run_definitions.proofs.Access.{granted_or_refused}
use Rattle.mmtel_run_definitions.proofs.theorems.access_is_granted_or_refused.Goals as goal

pub returns : goal.returns
returns c = record { law = granted_or_refused }

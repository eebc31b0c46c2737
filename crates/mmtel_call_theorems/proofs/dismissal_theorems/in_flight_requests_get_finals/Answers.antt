use Rattle.mmtel_call_theorems.proofs.Dismissal.{ends_dismiss, nothing_in_flight, steps_dismiss, steps_go_on}
use Rattle.mmtel_call_theorems.proofs.dismissal_theorems.in_flight_requests_get_finals.Goals as goal

pub returns : goal.returns
returns c = record { dismissed = steps_dismiss; step = steps_go_on; end = ends_dismiss; nothing = nothing_in_flight }

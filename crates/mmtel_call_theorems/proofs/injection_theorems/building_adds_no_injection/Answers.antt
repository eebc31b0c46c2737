use Rattle.mmtel_call_theorems.proofs.NoInjection.Building.{request_no_injection, response_no_injection}
use Rattle.mmtel_call_theorems.proofs.injection_theorems.building_adds_no_injection.Goals as goal

pub returns : goal.returns
returns c = record { request = request_no_injection; response = response_no_injection }

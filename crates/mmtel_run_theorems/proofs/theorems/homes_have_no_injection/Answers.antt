use Rattle.mmtel_run_theorems.proofs.Homes.{homes_are_no_injection}
use Rattle.mmtel_run_theorems.proofs.theorems.homes_have_no_injection.Goals as goal

pub returns : goal.returns
returns c = record { law = homes_are_no_injection }

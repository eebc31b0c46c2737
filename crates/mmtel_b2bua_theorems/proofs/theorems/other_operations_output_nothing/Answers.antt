use Rattle.mmtel_b2bua_theorems.proofs.Tabling.{nothing_of_others}
use Rattle.mmtel_b2bua_theorems.proofs.theorems.other_operations_output_nothing.Goals as goal

pub returns : goal.returns
returns c = record { law = nothing_of_others }

use Rattle.mmtel_b2bua_theorems.proofs.Legs.{legs_back}
use Rattle.mmtel_b2bua_theorems.proofs.theorems.legs_go_back.Goals as goal

pub returns : goal.returns
returns c = record { law = legs_back }

use Rattle.mmtel_b2bua_theorems.proofs.Tabling.{output_own, take_steps}
use Rattle.mmtel_b2bua_theorems.proofs.theorems.calls_take_their_steps.Goals as goal

pub returns : goal.returns
returns c = record { law = take_steps c.calls_continue.ensures.law c.charging_is_exact.ensures.law; own = output_own c.calls_continue.ensures.law c.charging_is_exact.ensures.law }

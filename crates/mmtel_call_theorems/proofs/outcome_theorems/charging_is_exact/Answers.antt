use Rattle.mmtel_call_theorems.proofs.OutcomeTheorems.{charging_is_exact}
use Rattle.mmtel_call_theorems.proofs.outcome_theorems.charging_is_exact.Goals as goal

pub returns : goal.returns
returns c = record { law = charging_is_exact c.next_steps_are_moves.ensures.law c.endings_are_moves.ensures.law c.later_endings_extend.ensures.law c.moves_give_the_outcome.ensures.law }

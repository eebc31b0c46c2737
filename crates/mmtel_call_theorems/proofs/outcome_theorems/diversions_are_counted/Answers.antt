use Rattle.mmtel_call_theorems.proofs.OutcomeTheorems.{diversions_are_counted}
use Rattle.mmtel_call_theorems.proofs.outcome_theorems.diversions_are_counted.Goals as goal

pub returns : goal.returns
returns c = record { law = diversions_are_counted c.next_steps_are_moves.ensures.law c.endings_are_moves.ensures.law c.later_endings_extend.ensures.law c.moves_give_the_outcome.ensures.law }

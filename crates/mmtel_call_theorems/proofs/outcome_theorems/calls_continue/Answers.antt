use Rattle.mmtel_call_theorems.proofs.ContinuationTheorem.{calls_continue}
use Rattle.mmtel_call_theorems.proofs.outcome_theorems.calls_continue.Goals as goal

pub returns : goal.returns
returns c = record { law = calls_continue c.next_steps_are_moves.ensures.law c.endings_are_moves.ensures.law c.later_endings_extend.ensures.law c.moves_give_the_outcome.ensures.law }

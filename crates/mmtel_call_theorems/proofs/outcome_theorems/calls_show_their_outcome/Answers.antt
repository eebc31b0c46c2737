use Rattle.mmtel_call_theorems.proofs.OutcomeTheorems.{shows_its_outcome}
use Rattle.mmtel_call_theorems.proofs.AfterOffered.{shows_nothing_later}
use Rattle.mmtel_call_theorems.proofs.outcome_theorems.calls_show_their_outcome.Goals as goal

pub returns : goal.returns
returns c =
    record {
      law = shows_its_outcome c.next_steps_are_moves.ensures.law c.endings_are_moves.ensures.law c.later_endings_extend.ensures.law c.moves_give_the_outcome.ensures.law;
      nothing_later = shows_nothing_later;
    }

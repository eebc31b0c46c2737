use Rattle.mmtel_focus_theorems.proofs.Queries.{equivalent_rooms_answer_equally}
use Rattle.mmtel_focus_theorems.proofs.noninterference.equivalent_rooms_answer_equally.Goals as goal

pub returns : goal.returns
returns c = record { law = equivalent_rooms_answer_equally }

use Rattle.mmtel_message.proofs.ResponseTheorems.{completed_again, bare_is, late}
use Rattle.mmtel_message.proofs.theorems.replies_can_be_completed.Goals as goal

pub returns : goal.returns
returns c = record {
  completed = completed_again;
  bare = bare_is;
  late = late;
}

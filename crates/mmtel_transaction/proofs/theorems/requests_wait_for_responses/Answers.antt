use Rattle.mmtel_transaction.proofs.Among.{ringing, unanswered}
use Rattle.mmtel_transaction.proofs.theorems.requests_wait_for_responses.Goals as goal

pub returns : goal.returns
returns c = record { unanswered = unanswered; ringing = ringing }

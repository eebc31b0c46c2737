use Rattle.mmtel_transaction.proofs.Ends.{last_ones, stays_ended}
use Rattle.mmtel_transaction.proofs.theorems.ends_are_reported_once.Goals as goal

pub returns : goal.returns
returns c = record { ended = last_ones; stays = stays_ended }

use Rattle.mmtel_transaction.proofs.AcksOwn.{acks_belong}
use Rattle.mmtel_transaction.proofs.Matches.{hears_by_matching, owners_are_live}
use Rattle.mmtel_transaction.proofs.theorems.messages_belong_to_one_transaction.Goals as goal

pub returns : goal.returns
returns c = record { says = hears_by_matching; live = owners_are_live; acks = acks_belong }

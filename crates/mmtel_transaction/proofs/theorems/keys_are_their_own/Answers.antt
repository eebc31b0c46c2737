use Rattle.mmtel_transaction.proofs.Distinct.{own_keys}
use Rattle.mmtel_transaction.proofs.theorems.keys_are_their_own.Goals as goal

pub returns : goal.returns
returns c = record { distinct = own_keys }

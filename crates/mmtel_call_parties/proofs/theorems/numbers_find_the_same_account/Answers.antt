use Rattle.mmtel_call_parties.proofs.Numbers.{account-equal}
use Rattle.mmtel_call_parties.proofs.theorems.numbers_find_the_same_account.Goals as goal

pub returns : goal.returns
returns c = record { account = account-equal }

use Rattle.mmtel_mwi.proofs.Operations.{numbered}
use Rattle.mmtel_mwi.proofs.theorems.numbers_are_given_once.Goals as goal

pub returns : goal.returns
returns c = record { ascending = numbered }

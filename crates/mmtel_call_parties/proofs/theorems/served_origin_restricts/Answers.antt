use Rattle.mmtel_call_parties.proofs.UntrustedSenders.{origin-restricts}
use Rattle.mmtel_call_parties.proofs.theorems.served_origin_restricts.Goals as goal

pub returns : goal.returns
returns c = record { account = origin-restricts }

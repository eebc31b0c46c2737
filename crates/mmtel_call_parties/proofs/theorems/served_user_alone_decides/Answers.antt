use Rattle.mmtel_call_parties.proofs.UntrustedSenders.{origin-alone, target-alone}
use Rattle.mmtel_call_parties.proofs.theorems.served_user_alone_decides.Goals as goal

pub returns : goal.returns
returns c = record {
  origin = λ es m user named orig. origin-alone es m named.0 user named.1 named.2 orig;
  target = λ es m user named term. target-alone es m named.0 user named.1 named.2 term;
}

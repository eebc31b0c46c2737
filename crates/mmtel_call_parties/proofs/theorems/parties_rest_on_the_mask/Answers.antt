use Rattle.mmtel_call_parties.proofs.UntrustedSenders.{parties-masked, parties-public}
use Rattle.mmtel_call_parties.proofs.theorems.parties_rest_on_the_mask.Goals as goal

pub returns : goal.returns
returns c = record {
  public = parties-public;
  masked = λ restricts accounts m n e. parties-masked restricts accounts m n (c.equal_masks_decide_the_same.ensures.equivalent restricts accounts accounts m n e);
}

use Rattle.mmtel_run_definitions.proofs.EquivalentMessages.{kinship, names_the_registrant}
use Rattle.mmtel_run_definitions.proofs.theorems.equal_masks_are_equivalent.Goals as goal

pub returns : goal.returns
returns c = record {
  equivalent = kinship c.equal_masks_decide_the_same.ensures.equivalent c.masked_requests_get_one_response.ensures.kept c.heads_see_no_private_field.ensures.received c.responses_are_masked.ensures.one_head;
  names = names_the_registrant c.equal_masks_decide_the_same.ensures.equivalent;
}

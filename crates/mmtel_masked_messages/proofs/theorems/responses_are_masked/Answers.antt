use Rattle.mmtel_masked_messages.proofs.HeadTheorems.{lines_keep}
use Rattle.mmtel_masked_messages.proofs.ResponseTheorems.{are_masked, equal, one_head, relayed, see_from_alone}
use Rattle.mmtel_masked_messages.proofs.theorems.responses_are_masked.Goals as goal

pub returns : goal.returns
returns c =
    let keep = lines_keep c.heads_rest_on_five_names.ensures.fields in
    let five = c.heads_rest_on_five_names.ensures.lines in
    record { see_from = see_from_alone; masked = are_masked; one_head = one_head keep five; relayed = relayed keep five; equal = equal }

use Rattle.mmtel_call_theorems.proofs.Noninterference.Sent.{Heads}
use Rattle.mmtel_call_theorems.proofs.Noninterference.Stepping.{steps_see_public_parts}
use Rattle.mmtel_call_theorems.proofs.noninterference_theorems.steps_see_public_parts.Goals as goal

pub returns : goal.returns
returns c =
    let heads : Heads = record { fields = c.heads_rest_on_five_names.ensures.fields; five = c.heads_rest_on_five_names.ensures.lines } in
    record { law = steps_see_public_parts heads c.verdicts_depend_on_matches.ensures.law }

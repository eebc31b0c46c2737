use Rattle.mmtel_call_theorems.proofs.Noninterference.Diverting.{ends_of_attempts}
use Rattle.mmtel_call_theorems.proofs.Noninterference.Failing.{deadlines_while_offered, responses_while_offered, timeouts_while_offered}
use Rattle.mmtel_call_theorems.proofs.Noninterference.Sent.{Heads}
use Rattle.mmtel_call_theorems.proofs.noninterference_theorems.diversions_see_public_parts.Goals as goal

pub returns : goal.returns
returns c =
    let heads : Heads = record { fields = c.heads_rest_on_five_names.ensures.fields; five = c.heads_rest_on_five_names.ensures.lines } in
    let law = c.verdicts_depend_on_matches.ensures.law in
    record { ends = ends_of_attempts heads law; answers = responses_while_offered heads law; timeouts = timeouts_while_offered heads law; deadlines = deadlines_while_offered heads law }

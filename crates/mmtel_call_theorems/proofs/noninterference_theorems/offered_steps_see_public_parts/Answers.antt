use Rattle.mmtel_call_theorems.proofs.Noninterference.Offered.{cancels_while_offered, requests_while_offered}
use Rattle.mmtel_call_theorems.proofs.Noninterference.Sent.{Heads}
use Rattle.mmtel_call_theorems.proofs.noninterference_theorems.offered_steps_see_public_parts.Goals as goal

pub returns : goal.returns
returns c =
    let heads : Heads = record { fields = c.heads_rest_on_five_names.ensures.fields; five = c.heads_rest_on_five_names.ensures.lines } in
    record { requests = requests_while_offered heads; cancels = cancels_while_offered heads }

use Rattle.mmtel_call_theorems.proofs.Noninterference.Dismissals.{dismissals}
use Rattle.mmtel_call_theorems.proofs.Noninterference.Leaving.{responses_to_others, timeouts_of_others}
use Rattle.mmtel_call_theorems.proofs.Noninterference.Sent.{Heads}
use Rattle.mmtel_call_theorems.proofs.noninterference_theorems.other_requests_see_public_parts.Goals as goal

pub returns : goal.returns
returns c =
    let heads : Heads = record { fields = c.heads_rest_on_five_names.ensures.fields; five = c.heads_rest_on_five_names.ensures.lines } in
    record { answers = responses_to_others heads; timeouts = timeouts_of_others heads; dismissals = dismissals heads }

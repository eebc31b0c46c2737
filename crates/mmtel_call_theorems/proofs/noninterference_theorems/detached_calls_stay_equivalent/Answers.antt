use Rattle.mmtel_call_theorems.proofs.Noninterference.Detaching.{detaching_keeps_equivalence}
use Rattle.mmtel_call_theorems.proofs.Noninterference.Sent.{Heads}
use Rattle.mmtel_call_theorems.proofs.noninterference_theorems.detached_calls_stay_equivalent.Goals as goal

pub returns : goal.returns
returns c =
    let heads : Heads = record { fields = c.heads_rest_on_five_names.ensures.fields; five = c.heads_rest_on_five_names.ensures.lines } in
    record { law = detaching_keeps_equivalence heads }

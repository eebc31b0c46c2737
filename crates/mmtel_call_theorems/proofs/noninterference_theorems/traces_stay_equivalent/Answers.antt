use Rattle.mmtel_call_theorems.proofs.Noninterference.Sent.{Heads}
use Rattle.mmtel_call_theorems.proofs.Noninterference.Traces.{traces_stay_equivalent}
use Rattle.mmtel_call_theorems.proofs.noninterference_theorems.traces_stay_equivalent.Goals as goal

pub returns : goal.returns
returns c =
    let heads : Heads = record { fields = c.heads_rest_on_five_names.ensures.fields; five = c.heads_rest_on_five_names.ensures.lines } in
    record { law = traces_stay_equivalent heads c.verdicts_depend_on_matches.ensures.law }

use Rattle.mmtel_call_theorems.proofs.Noninterference.Sent.{Heads}
use Rattle.mmtel_focus_theorems.proofs.NoninterferenceTheorems.{operations_are_seen_equally, tables_stay_equivalent}
use Rattle.mmtel_focus_theorems.proofs.noninterference.conferences_stay_equivalent.Goals as goal

pub returns : goal.returns
returns c =
    let heads : Heads = record { fields = c.heads_rest_on_five_names.ensures.fields; five = c.heads_rest_on_five_names.ensures.lines } in
    record { tables = tables_stay_equivalent heads; steps = operations_are_seen_equally heads }

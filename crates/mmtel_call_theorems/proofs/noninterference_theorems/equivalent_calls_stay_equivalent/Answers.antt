use Rattle.mmtel_call_theorems.proofs.Noninterference.EquivalentCalls.{calls_stay_equivalent, steps_keep_equivalence}
use Rattle.mmtel_call_theorems.proofs.Noninterference.Sent.{Heads}
use Rattle.mmtel_call_theorems.proofs.Noninterference.FixedOpenings.{openings_stay}
use Rattle.mmtel_call_theorems.proofs.noninterference_theorems.equivalent_calls_stay_equivalent.Goals as goal

pub returns : goal.returns
returns c =
    let heads : Heads = record { fields = c.heads_rest_on_five_names.ensures.fields; five = c.heads_rest_on_five_names.ensures.lines } in
    let law = c.verdicts_depend_on_matches.ensures.law in
    record { law = steps_keep_equivalence heads law; openings = openings_stay; calls = calls_stay_equivalent heads law }

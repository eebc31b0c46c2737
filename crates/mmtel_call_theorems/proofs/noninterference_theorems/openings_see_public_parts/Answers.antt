use Rattle.mmtel_call_theorems.proofs.Noninterference.Openings.{openings_are_equivalent, openings_give_equivalent_calls, openings_see_public_parts}
use Rattle.mmtel_call_theorems.proofs.Noninterference.Sent.{Heads}
use Rattle.mmtel_call_theorems.proofs.noninterference_theorems.openings_see_public_parts.Goals as goal

pub returns : goal.returns
returns c =
    let heads : Heads = record { fields = c.heads_rest_on_five_names.ensures.fields; five = c.heads_rest_on_five_names.ensures.lines } in
    let law = c.verdicts_depend_on_matches.ensures.law in
    record { alone = openings_see_public_parts heads law; equivalent = openings_are_equivalent heads law; calls = openings_give_equivalent_calls heads law }

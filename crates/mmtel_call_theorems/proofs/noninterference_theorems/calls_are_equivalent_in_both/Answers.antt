use Rattle.mmtel_call_theorems.proofs.Noninterference.Configurations.{calls_in_both, one_is_equivalent, openings_in_both, steps_in_both, traces_in_both}
use Rattle.mmtel_call_theorems.proofs.Noninterference.Sent.{Heads}
use Rattle.mmtel_call_theorems.proofs.noninterference_theorems.calls_are_equivalent_in_both.Goals as goal

pub returns : goal.returns
returns c =
    let heads : Heads = record { fields = c.heads_rest_on_five_names.ensures.fields; five = c.heads_rest_on_five_names.ensures.lines } in
    let law = c.verdicts_depend_on_matches.ensures.law in
    record { steps = steps_in_both heads law; calls = calls_in_both heads law; openings = openings_in_both heads law; traces = traces_in_both heads law; one = one_is_equivalent }

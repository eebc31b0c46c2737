use Rattle.mmtel_call_theorems.proofs.Noninterference.Ringing.{provisional_to_attempt, success_to_attempt}
use Rattle.mmtel_call_theorems.proofs.Noninterference.Sent.{Heads}
use Rattle.mmtel_call_theorems.proofs.noninterference_theorems.responses_see_public_parts.Goals as goal

pub returns : goal.returns
returns c =
    let heads : Heads = record { fields = c.heads_rest_on_five_names.ensures.fields; five = c.heads_rest_on_five_names.ensures.lines } in
    record { provisional = provisional_to_attempt heads; answered = success_to_attempt heads }

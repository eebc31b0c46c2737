use Rattle.mmtel_call_theorems.proofs.Noninterference.Acks.{acks_once_answered}
use Rattle.mmtel_call_theorems.proofs.Noninterference.Across.{cancels_once_answered, deadlines_once_answered, requests_once_answered, responses_across, timeouts_once_answered}
use Rattle.mmtel_call_theorems.proofs.Noninterference.Sent.{Heads}
use Rattle.mmtel_call_theorems.proofs.noninterference_theorems.answered_steps_see_public_parts.Goals as goal

pub returns : goal.returns
returns c =
    let heads : Heads = record { fields = c.heads_rest_on_five_names.ensures.fields; five = c.heads_rest_on_five_names.ensures.lines } in
    record {
      requests = requests_once_answered heads;
      acks = acks_once_answered heads;
      cancels = cancels_once_answered heads;
      answers = responses_across heads;
      timeouts = timeouts_once_answered heads;
      deadlines = deadlines_once_answered heads;
    }

use Rattle.mmtel_masked_messages.proofs.RequestTheorems.{attempts_hidden, entries_head, entries_hidden, one_head, relayed_hidden, shown_head, shown_heads}
use Rattle.mmtel_masked_messages.proofs.theorems.requests_hide_their_sender.Goals as goal

pub returns : goal.returns
returns c =
    let five = c.heads_rest_on_five_names.ensures.lines in
    record {
      attempts = attempts_hidden;
      relayed = relayed_hidden;
      one_head = one_head five;
      foreign = shown_head five;
      shown = shown_heads five;
      entries = entries_hidden;
      entries_head = entries_head five;
    }

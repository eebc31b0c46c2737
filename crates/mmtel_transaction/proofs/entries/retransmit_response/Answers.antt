use Rattle.std.proofs.Common.{◌+◌, sym, ap, ◌∙◌}
use Rattle.std.specs.Prelude.{slice_get, slice_set}
use Rattle.std.proofs.lemmas.List.{set-set}
use Rattle.mmtel_transaction.specs.Changes.{after_retransmission}
use Rattle.mmtel_transaction.specs.declared.entries.ReliableResponse.{ReliableResponse}
use Rattle.mmtel_transaction.proofs.entries.retransmit_response.Goals as goal

pub returns : goal.returns
returns c =
    let xs = c.args.responses.now in
    let old = c.replace-answer.result in
    let new : ReliableResponse = record old { retransmissions = old.retransmissions + 1; step = c.args.step } in
    c.replace.ensures.items
    ∙ (ap (λ ys. slice_set ys c.args.place new) c.replace-answer.ensures.items
    ∙ (set-set xs c.args.place c.blank.result new ∙ ap (λ o. after_retransmission c.args.step c.args.place o xs) (sym c.replace-answer.ensures.handed_out)))

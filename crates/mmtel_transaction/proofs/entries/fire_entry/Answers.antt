use Rattle.std.proofs.Common.{◌≡◌, Some, None, refl, sym, ap, ◌∙◌, subst, arith}
use Rattle.std.proofs.lemmas.Option.{slice_get_within}
use Rattle.mmtel_transaction.proofs.Reliable.{few_there, foremost_in_at}
use Rattle.mmtel_transaction.proofs.entries.fire_entry.Goals as goal

pub retransmit_response-requires-clause-within : goal.retransmit_response-requires-clause-within
retransmit_response-requires-clause-within c =
    let w = foremost_in_at c.args.entry.now _ (sym c.in-Some.ensures) in
    slice_get_within c.args.entry.now.reliable c.in-Some.place w.answer w.there

pub retransmit_response-requires-clause-few : goal.retransmit_response-requires-clause-few
retransmit_response-requires-clause-few c = few_there c.args.entry.now.reliable c.in-Some.place _ (foremost_in_at c.args.entry.now _ (sym c.in-Some.ensures))

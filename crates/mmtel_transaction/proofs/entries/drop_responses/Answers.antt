use Rattle.std.proofs.Common.{◌≡◌, None, Some, sym, ap, ◌∙◌}
use Rattle.std.specs.List.{position}
use Rattle.mmtel_transaction.specs.Changes.{without_rseq}
use Rattle.mmtel_transaction.proofs.Reliable.{has_own, without_all, without_place}
use Rattle.mmtel_transaction.proofs.entries.drop_responses.Goals as goal

pub responses-preserved : goal.responses-preserved
responses-preserved c =
    let own = c.args.rseq in
    let xs = c.responses.responses in
    let at : position (has_own own) xs ≡ Some c.in-Some.place = ap (position (has_own own)) (sym c.items.ensures) ∙ sym c.in-Some.ensures in
    ap (without_rseq own) c.remove.ensures.rest ∙ (without_place own xs c.in-Some.place c.remove.result at c.remove.ensures.handed_out ∙ c.responses.invariant)

pub returns : goal.returns
returns c =
    let own = c.args.rseq in
    let xs = c.responses.responses in
    let at : position (has_own own) xs ≡ None = ap (position (has_own own)) (sym c.items.ensures) ∙ sym c.in_default.ensures in
    sym (without_all own xs at) ∙ c.responses.invariant

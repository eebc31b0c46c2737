use Rattle.std.proofs.Common.{◌≡◌, ◌∷◌, [], ◌++◌, sym, ap, subst, ◌∙◌}
use Rattle.mmtel_timers.specs.Parts.{ArePartsFrom, joined}
use Rattle.mmtel_timers.proofs.Parted.{joined_more, parts_more}
use Rattle.mmtel_timers.proofs.parted_shelves.add_parts.Goals as goal

pub loop-parts-preserved : goal.loop-parts-preserved
loop-parts-preserved g c =
    let rank = g.T.Ranked.rank in
    let parts = c.loop-parts.parts.items in
    let more : c.push_reserved.new.self.items ≡ parts ++ [] ∷ [] =
    c.push_reserved.ensures.items ∙ (ap (λ ps. ps ++ c.new-none.result ∷ []) c.reserve.ensures.items ∙ ap (λ xs. parts ++ xs ∷ []) c.new-none.ensures) in
    (ap joined more ∙ (joined_more parts ∙ c.loop-parts.invariant.0), λ are. subst (ArePartsFrom rank 0) (sym more) (parts_more rank 0 parts (c.loop-parts.invariant.1 are)))

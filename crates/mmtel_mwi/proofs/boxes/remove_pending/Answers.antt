use Rattle.std.proofs.Common.{sym, ◌∙◌}
use Rattle.mmtel_mwi.specs.Boxes.{has_branch}
use Rattle.mmtel_mwi.proofs.Places.{without_nowhere, without_there}
use Rattle.mmtel_mwi.proofs.boxes.remove_pending.Goals as goal

pub returns-in-None : goal.returns-in-None
returns-in-None c =
    without_nowhere (has_branch c.args.branch.now) c.args.pending.now.items (rw c.as_slice.ensures.value at (sym c.place_pending.ensures.place ∙ c.in-None.is))

pub returns-in-Some : goal.returns-in-Some
returns-in-Some c =
    c.remove.ensures.items
    ∙ without_there (has_branch c.args.branch.now) c.args.pending.now.items c.in-Some.place (rw c.as_slice.ensures.value at (sym c.place_pending.ensures.place ∙ c.in-Some.is))

use Rattle.std.proofs.Common.{◌≤◌, length, sym, ap, subst, ◌∙◌}
use Rattle.std.specs.Prelude.{slice_get}
use Rattle.std.proofs.lemmas.Option.{slice_get_past}
use Rattle.mmtel_timers.specs.Parts.{IsInPart, joined}
use Rattle.mmtel_timers.proofs.Parted.{read_in_part}
use Rattle.mmtel_timers.proofs.parted_shelves.PartedShelf.look.Goals as goal

pub returns-in-Some-clause-item : goal.returns-in-Some-clause-item
returns-in-Some-clause-item g c =
    let parts = c.self.inside.parts.items in
    let place = c.args.place in
    let part = c.in-Some.part in
    let own = c.in-Some.own in
    let at : IsInPart parts place part own = subst (λ ps. IsInPart ps place part own) c.deref.ensures.value c.in-Some.ensures in
    c.look.ensures.item ∙ (read_in_part parts place part own at c.index.result.now c.index.ensures ∙ ap (λ xs. slice_get xs place) c.self.view_is)

pub returns-in-None-clause-item : goal.returns-in-None-clause-item
returns-in-None-clause-item g c =
    let parts = c.self.inside.parts.items in
    let place = c.args.place in
    let past : length (joined parts) ≤ place = subst (λ ps. length (joined ps) ≤ place) c.deref.ensures.value c.in-None.ensures in
    sym (slice_get_past (joined parts) place past) ∙ ap (λ xs. slice_get xs place) c.self.view_is

use Rattle.std.proofs.Common.{◌≡◌, ◌≤◌, length, remove, sym, ap, subst, ◌∙◌, arith}
use Rattle.std.specs.Prelude.{slice_get}
use Rattle.std.proofs.lemmas.Option.{slice_get_past, slice_get_within}
use Rattle.mmtel_timers.specs.Parts.{IsInPart, joined}
use Rattle.mmtel_timers.proofs.Parted.{out_joined, out_state, place_within, read_in_part, read_part}
use Rattle.mmtel_timers.proofs.parted_shelves.PartedShelf.remove.Goals as goal

pub overflow_sub-self : goal.overflow_sub-self
overflow_sub-self g c =
    let parts = c.self.inside.parts.items in
    let place = c.args.place in
    let part = c.in-Some.part in
    let own = c.in-Some.own in
    let at : IsInPart parts place part own = subst (λ ps. IsInPart ps place part own) c.deref.ensures.value c.in-Some.ensures in
    let some = place_within g.T.Ranked.rank parts c.self.invariant.parted place part own at in
    omega (arith, some, c.self.invariant.count)

pub index_mut-requires : goal.index_mut-requires
index_mut-requires g c =
    let parts = c.self.inside.parts.items in
    let place = c.args.place in
    let part = c.in-Some.part in
    let own = c.in-Some.own in
    let at : IsInPart parts place part own = subst (λ ps. IsInPart ps place part own) c.deref.ensures.value c.in-Some.ensures in
    let inside = slice_get_within parts part at.items at.there in
    omega (arith, inside, c.self.inside.parts.ok.0)

pub invariant_of-self : goal.invariant_of-self
invariant_of-self g c =
    let parts = c.self.inside.parts.items in
    let place = c.args.place in
    let part = c.in-Some.part in
    let own = c.in-Some.own in
    let at : IsInPart parts place part own = subst (λ ps. IsInPart ps place part own) c.deref.ensures.value c.in-Some.ensures in
    let read = read_part parts place part own at c.index_mut.result.now c.index_mut.ensures.value in
    let out : c.remove.new.self ≡ remove at.items own = c.remove.ensures.rest ∙ ap (λ xs. remove xs own) read in
    out_state g.T.Ranked.rank parts c.self.invariant.parted place part own at c.remove.new.self c.self.inside.len out c.self.invariant.count

pub returns-in-Some-clause-item : goal.returns-in-Some-clause-item
returns-in-Some-clause-item g c =
    let parts = c.self.inside.parts.items in
    let place = c.args.place in
    let part = c.in-Some.part in
    let own = c.in-Some.own in
    let at : IsInPart parts place part own = subst (λ ps. IsInPart ps place part own) c.deref.ensures.value c.in-Some.ensures in
    c.remove.ensures.item ∙ (read_in_part parts place part own at c.index_mut.result.now c.index_mut.ensures.value ∙ ap (λ xs. slice_get xs place) c.self.view_is)

pub returns-in-Some-clause-rest : goal.returns-in-Some-clause-rest
returns-in-Some-clause-rest g c =
    let parts = c.self.inside.parts.items in
    let place = c.args.place in
    let part = c.in-Some.part in
    let own = c.in-Some.own in
    let at : IsInPart parts place part own = subst (λ ps. IsInPart ps place part own) c.deref.ensures.value c.in-Some.ensures in
    let read = read_part parts place part own at c.index_mut.result.now c.index_mut.ensures.value in
    let out : c.remove.new.self ≡ remove at.items own = c.remove.ensures.rest ∙ ap (λ xs. remove xs own) read in
    out_joined g.T.Ranked.rank parts c.self.invariant.parted place part own at c.remove.new.self out ∙ ap (λ xs. remove xs place) c.self.view_is

pub returns-in-None-clause-item : goal.returns-in-None-clause-item
returns-in-None-clause-item g c =
    let parts = c.self.inside.parts.items in
    let place = c.args.place in
    let past : length (joined parts) ≤ place = subst (λ ps. length (joined ps) ≤ place) c.deref.ensures.value c.in-None.ensures in
    sym (slice_get_past (joined parts) place past) ∙ ap (λ xs. slice_get xs place) c.self.view_is

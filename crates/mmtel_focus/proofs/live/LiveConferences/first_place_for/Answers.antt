use Rattle.std.proofs.Common.{subst, sym, take}
use Rattle.mmtel_output.proofs.Ascending.{ascends}
use Rattle.mmtel_output.proofs.Marking.{all_unmarked, below_unmarked}
use Rattle.mmtel_output.specs.Marks.{AreBelow, AreUnmarked, Ascend}
use Rattle.mmtel_focus.specs.Marks.{LiveConferencesView, marks_of, number_of}
use Rattle.mmtel_focus.proofs.live.LiveConferences.first_place_for.Goals as goal

pub lower_bound-requires : goal.lower_bound-requires
lower_bound-requires c = ascends number_of 0 c.self.inside.opened c.deref.result.now (subst (λ l. Ascend number_of 0 l c.self.inside.opened) (sym c.deref.ensures.value) c.self.invariant.ascend)

pub returns-in-None-clause-none : goal.returns-in-None-clause-none
returns-in-None-clause-none c =
    subst (λ (t : LiveConferencesView). AreUnmarked marks_of c.args.mark (take c.len.result t.items)) c.self.view_is
    (all_unmarked number_of marks_of c.self.inside.index c.args.mark c.in-None.ensures c.self.inside.conferences.items c.len.result c.self.invariant.marked)

pub returns-in-Some-clause-none : goal.returns-in-Some-clause-none
returns-in-Some-clause-none c =
    let n = c.in-Some.number in
    subst (λ (t : LiveConferencesView). AreUnmarked marks_of c.args.mark (take c.lower_bound.result t.items)) c.self.view_is
    (below_unmarked number_of marks_of c.self.inside.index c.args.mark n c.in-Some.ensures c.self.inside.conferences.items c.lower_bound.result c.self.invariant.marked
    (subst (λ l. AreBelow number_of n (take c.lower_bound.result l)) c.deref.ensures.value c.lower_bound.ensures.lower))

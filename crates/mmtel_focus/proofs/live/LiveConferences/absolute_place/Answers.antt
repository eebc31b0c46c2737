use Rattle.std.proofs.Common.{◌+◌, ◌<◌, length, subst, sym, arith}
use Rattle.mmtel_focus.specs.Marks.{LiveConferencesView}
use Rattle.mmtel_focus.proofs.live.LiveConferences.absolute_place.Goals as goal

pub place_after-requires : goal.place_after-requires
place_after-requires c =
    let p = c.in-Some.place in
    let h : c.args.from + p < length c.self.inside.conferences.items = subst (λ (t : LiveConferencesView). c.args.from + p < length t.items) (sym c.self.view_is) (c.requires p c.in-Some.is) in
    omega (arith, h, c.len.ensures)

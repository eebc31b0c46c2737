use Rattle.std.proofs.Common.{◌≡◌, Some, refl, subst, sym}
use Rattle.std.specs.Prelude.{slice_get, slice_set}
use Rattle.mmtel_focus.specs.Joining.{new_conference}
use Rattle.mmtel_focus.specs.Marks.{LiveConferencesView, TableInvariant}
use Rattle.mmtel_focus.specs.Conferences.{Conference}
use Rattle.mmtel_focus.proofs.TableInvariant.{back_kept}
use Rattle.mmtel_focus.proofs.live.LiveConferences.put_back.Goals as goal

pub invariant_of-self : goal.invariant_of-self
invariant_of-self c =
    let l = c.self.inside.conferences.items in
    let k = c.args.place in
    let x = new_conference c.args.conference.number in
    let is : slice_get l k ≡ Some x = subst (λ (t : LiveConferencesView). slice_get t.items k ≡ Some x) (sym c.self.view_is) c.requires in
    subst (λ (y : Conference). TableInvariant (slice_set l k y) c.self.inside.opened c.put_conference.new.index) (sym c.replace-blank.ensures.after)
    (back_kept l c.self.inside.opened c.self.inside.index k x c.self.invariant is c.put_conference.new.index c.args.conference refl c.put_conference.ensures)

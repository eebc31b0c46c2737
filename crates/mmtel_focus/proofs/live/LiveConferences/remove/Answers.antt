use Rattle.std.proofs.Common.{◌≡◌, ◌<◌, List, Some, length, subst, sym}
use Rattle.std.specs.Prelude.{slice_get}
use Rattle.mmtel_focus.specs.Marks.{LiveConferencesView, TableInvariant}
use Rattle.mmtel_focus.specs.Conferences.{Conference}
use Rattle.mmtel_focus.proofs.TableInvariant.{removed_kept}
use Rattle.mmtel_focus.proofs.Places.{stands_at}
use Rattle.mmtel_focus.proofs.live.LiveConferences.remove.Goals as goal

pub invariant_of-self : goal.invariant_of-self
invariant_of-self c =
    let l = c.self.inside.conferences.items in
    let k = c.args.place in
    let x = c.remove-room.result in
    let within : k < length l = subst (λ (t : LiveConferencesView). k < length t.items) (sym c.self.view_is) c.requires in
    let is : slice_get l k ≡ Some x = stands_at l k x within c.remove-room.ensures.value in
    subst (λ (r : List Conference). TableInvariant r c.self.inside.opened c.put_conference.new.index) (sym c.remove-room.ensures.items)
    (removed_kept l c.self.inside.opened c.self.inside.index k x c.self.invariant is c.put_conference.new.index c.put_conference.ensures)

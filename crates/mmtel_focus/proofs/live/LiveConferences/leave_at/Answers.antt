use Rattle.std.proofs.Common.{◌≡◌, ◌<◌, Some, length, subst, sym, ap, ◌∙◌}
use Rattle.std.specs.Prelude.{slice_get}
use Rattle.mmtel_focus.specs.Marks.{LiveConferencesView}
use Rattle.mmtel_focus.specs.Conferences.{Conference}
use Rattle.mmtel_focus.proofs.TableInvariant.{left_kept}
use Rattle.mmtel_focus.proofs.Numbering.{after_leave_keeps}
use Rattle.mmtel_focus.proofs.Places.{stands_at}
use Rattle.mmtel_focus.proofs.live.LiveConferences.leave_at.Goals as goal

pub invariant_of-self : goal.invariant_of-self
invariant_of-self c =
    let l = c.self.inside.conferences.items in
    let k = c.args.place in
    let x = c.index_mut-room.result.now in
    let y = c.leave-row.new.self in
    let within : k < length l = subst (λ (t : LiveConferencesView). k < length t.items) (sym c.self.view_is) c.requires in
    let is : slice_get l k ≡ Some x = stands_at l k x within c.index_mut-room.ensures.value in
    left_kept l c.self.inside.opened c.self.inside.index k x c.self.invariant is c.put_conference.new.index c.put_conference-2.new.index y
    (ap (λ (r : Conference). r.number) c.leave-row.ensures.conference ∙ after_leave_keeps c.args.seat x) c.put_conference.ensures c.put_conference-2.ensures

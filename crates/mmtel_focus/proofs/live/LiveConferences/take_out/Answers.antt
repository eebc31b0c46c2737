use Rattle.std.proofs.Common.{◌≡◌, ◌<◌, Some, length, subst, sym, ap, ◌∙◌}
use Rattle.std.specs.Prelude.{slice_get, slice_set}
use Rattle.mmtel_focus.specs.Joining.{new_conference}
use Rattle.mmtel_focus.specs.Marks.{LiveConferencesView, TableInvariant}
use Rattle.mmtel_focus.specs.Conferences.{Conference}
use Rattle.mmtel_types.specs.declared.numbers.RoomNo.{RoomNo}
use Rattle.mmtel_focus.proofs.TableInvariant.{out_kept}
use Rattle.mmtel_focus.proofs.Places.{stands_at}
use Rattle.mmtel_focus.proofs.live.LiveConferences.take_out.Goals as goal

pub invariant_of-self : goal.invariant_of-self
invariant_of-self c =
    let l = c.self.inside.conferences.items in
    let k = c.args.place in
    let x = c.index_mut-room.result.now in
    let within : k < length l = subst (λ (t : LiveConferencesView). k < length t.items) (sym c.self.view_is) c.requires in
    let is : slice_get l k ≡ Some x = stands_at l k x within c.index_mut-room.ensures.value in
    subst (λ (y : Conference). TableInvariant (slice_set l k y) c.self.inside.opened c.put_conference.new.index) (sym (c.replace.ensures.after ∙ c.new-blank.ensures))
    (subst (λ (n : RoomNo). TableInvariant (slice_set l k (new_conference n)) c.self.inside.opened c.put_conference.new.index) (sym (ap (λ (r : Conference). r.number) c.room.view_is))
    (out_kept l c.self.inside.opened c.self.inside.index k x c.self.invariant is c.put_conference.new.index c.put_conference.ensures))

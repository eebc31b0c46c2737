use Rattle.std.proofs.Common.{◌≡◌, Some, ap, subst, sym, ◌∙◌}
use Rattle.std.specs.Prelude.{slice_get}
use Rattle.mmtel_focus.specs.Joining.{new_conference}
use Rattle.mmtel_focus.specs.Borrowed.{signal_of_borrowed}
use Rattle.mmtel_focus.specs.Marks.{LiveConferencesView}
use Rattle.mmtel_focus.specs.Conferences.{Conference}
use Rattle.mmtel_focus.proofs.TableInvariant.{waits}
use Rattle.mmtel_focus.proofs.Numbering.{signal_keeps}
use Rattle.mmtel_focus.proofs.dispatch.step_at.Goals as goal

pub put_back-requires : goal.put_back-requires
put_back-requires c =
    let k = c.args.place in
    let x = c.take_out-room.result in
    let y = c.receive.new.self in
    let same = ap (λ (r : Conference). r.number) c.in-Ok.ensures.conference
    ∙ signal_keeps c.args.step.now.config c.args.step.now.at (signal_of_borrowed c.args.signal) c.args.seat (record { conference = x; effects = c.args.effects.now }) in
    subst (λ (t : LiveConferencesView). slice_get t.items k ≡ Some (new_conference y.number)) (sym c.take_out-room.ensures.live) (waits c.args.live.now.items k x y c.take_out-room.ensures.conference same)

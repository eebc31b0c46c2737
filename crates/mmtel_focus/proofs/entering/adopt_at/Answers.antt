use Rattle.std.proofs.Common.{◌≡◌, Some, subst, sym}
use Rattle.std.specs.Prelude.{slice_get}
use Rattle.mmtel_focus.specs.Joining.{after_adoption, new_conference}
use Rattle.mmtel_focus.specs.Marks.{LiveConferencesView}
use Rattle.mmtel_focus.specs.Conferences.{StepResult}
use Rattle.mmtel_focus.proofs.TableInvariant.{same_number, waits}
use Rattle.mmtel_focus.proofs.Numbering.{after_adoption_keeps}
use Rattle.mmtel_focus.proofs.entering.adopt_at.Goals as goal

pub put_back-requires : goal.put_back-requires
put_back-requires c =
    let k = c.args.place in
    let x = c.take_out-room.result in
    let y = c.adopt-adopted.new.self in
    let s : StepResult = record { conference = x; effects = c.args.effects.now } in
    let after = after_adoption c.args.step.now.config c.args.step.now.at c.args.entrant.leg c.args.entrant.account c.args.by s in
    let same = same_number c.adopt-adopted.result y x after.conference c.adopt-adopted.ensures.conference c.adopt-adopted.ensures.refused
    (after_adoption_keeps c.args.step.now.config c.args.step.now.at c.args.entrant.leg c.args.entrant.account c.args.by s) in
    subst (λ (t : LiveConferencesView). slice_get t.items k ≡ Some (new_conference y.number)) (sym c.take_out-room.ensures.live) (waits c.args.live.now.items k x y c.take_out-room.ensures.conference same)

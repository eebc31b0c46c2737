-- the participant that was taken out was at this place, and the new one is inserted there
use Rattle.std.proofs.Common.{◌∙◌, List, Option, ap, slice_set, sym}
use Rattle.std.specs.Prelude.{insert}
use Rattle.mmtel_focus.specs.Responses.{participants_with_connected}
use Rattle.mmtel_focus.specs.Conferences.{ParticipantState}
use Rattle.mmtel_focus.proofs.Places.{put_in, stands_at}
use Rattle.mmtel_focus.proofs.responses.connect_at.Goals as goal

pub returns : goal.returns
returns c =
    c.in-Ok.ensures.items
    ∙ (ap (λ (l : List ParticipantState). insert l c.args.place c.connect-seat.result) c.remove.ensures.items
    ∙ (put_in c.args.participants.now.items c.args.place c.connect-seat.result c.requires
    ∙ (ap (λ (seat : ParticipantState). slice_set c.args.participants.now.items c.args.place seat) c.connect-seat.ensures.seated
    ∙ ap (λ (o : Option ParticipantState). participants_with_connected c.args.room c.args.now c.args.remote c.args.place o c.args.participants.now.items)
    (sym (stands_at c.args.participants.now.items c.args.place c.remove.result c.requires c.remove.ensures.value)))))

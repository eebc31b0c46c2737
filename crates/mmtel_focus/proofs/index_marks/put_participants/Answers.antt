use Rattle.mmtel_output.proofs.Marking.{none_written, step_written}
use Rattle.mmtel_focus.specs.Marks.{participant_marks}
use Rattle.mmtel_focus.proofs.index_marks.put_participants.Goals as goal

pub loop-seat-init : goal.loop-seat-init
loop-seat-init c = none_written c.args.stays c.args.room c.args.index.now

pub loop-seat-preserved : goal.loop-seat-preserved
loop-seat-preserved c =
    step_written participant_marks c.args.stays c.args.room c.args.participants.now c.loop-seat.seat-index c.seat-item.result c.args.index.now c.loop-seat.index c.put_participant.new.index
    c.loop-seat-test.true c.seat-item.is c.loop-seat.invariant c.put_participant.ensures

use Rattle.std.proofs.Common.{take}
use Rattle.std.specs.Prelude.{flat_map}
use Rattle.mmtel_output.specs.Marks.{MarkUpdate}
use Rattle.mmtel_focus.specs.Marks.{participant_marks}
use Rattle.mmtel_focus.proofs.index_marks.put_participants.Given as goal

abbrev pub invariant-loop-seat : goal.invariant-loop-seat
invariant-loop-seat l = MarkUpdate l.stays l.room (flat_map participant_marks (take l.seat-index l.participants)) l.fn.index l.index

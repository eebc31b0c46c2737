use Rattle.std.proofs.Common.{take}
use Rattle.std.specs.Prelude.{flat_map}
use Rattle.mmtel_b2bua.specs.Marks.{abandoned_marks}
use Rattle.mmtel_output.specs.Marks.{MarkUpdate}
use Rattle.mmtel_b2bua.proofs.marks.put_abandoned.Given as goal

abbrev pub invariant-loop-invite : goal.invariant-loop-invite
invariant-loop-invite l = MarkUpdate l.stays l.call.0 (flat_map abandoned_marks (take l.invite-index l.abandoned)) l.fn.index l.index

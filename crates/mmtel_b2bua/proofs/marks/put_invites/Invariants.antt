use Rattle.std.proofs.Common.{take}
use Rattle.std.specs.Prelude.{flat_map}
use Rattle.mmtel_b2bua.specs.Marks.{invite_marks}
use Rattle.mmtel_output.specs.Marks.{MarkUpdate}
use Rattle.mmtel_b2bua.proofs.marks.put_invites.Given as goal

abbrev pub invariant-loop-invite : goal.invariant-loop-invite
invariant-loop-invite l = MarkUpdate l.stays l.call.0 (flat_map invite_marks (take l.invite-index l.invites)) l.fn.index l.index

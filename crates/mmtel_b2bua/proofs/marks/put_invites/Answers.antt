use Rattle.mmtel_b2bua.specs.Marks.{invite_marks}
use Rattle.mmtel_output.proofs.Marking.{none_written, step_at}
use Rattle.mmtel_b2bua.proofs.marks.put_invites.Goals as goal

pub loop-invite-init : goal.loop-invite-init
loop-invite-init c = none_written c.args.stays c.args.call.0 c.args.index.now

pub loop-invite-preserved : goal.loop-invite-preserved
loop-invite-preserved c =
    step_at invite_marks c.args.stays c.args.call.0 c.args.invites.now c.loop-invite.invite-index _ c.args.index.now c.loop-invite.index c.put.new.self
    c.loop-invite-test.true c.loop-invite.invariant c.put.ensures

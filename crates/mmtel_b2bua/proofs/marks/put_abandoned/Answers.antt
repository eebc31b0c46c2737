use Rattle.mmtel_b2bua.specs.Marks.{abandoned_marks}
use Rattle.mmtel_output.proofs.Marking.{none_written, step_written}
use Rattle.mmtel_b2bua.proofs.marks.put_abandoned.Goals as goal

pub loop-invite-init : goal.loop-invite-init
loop-invite-init c = none_written c.args.stays c.args.call.0 c.args.index.now

pub loop-invite-preserved : goal.loop-invite-preserved
loop-invite-preserved c =
    step_written abandoned_marks c.args.stays c.args.call.0 c.args.abandoned.now c.loop-invite.invite-index c.invite-item.result c.args.index.now c.loop-invite.index c.put_sent_invite.new.index
    c.loop-invite-test.true c.invite-item.is c.loop-invite.invariant c.put_sent_invite.ensures

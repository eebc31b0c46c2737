use Rattle.std.proofs.Common.{refl}
use Rattle.mmtel_output.proofs.outputs.StepOutput.send_attempt_invite.Goals as goal

pub returns-clause-done : goal.returns-clause-done
returns-clause-done c =
    rw (c.in_ok-emit.ensures.done, c.in_ok-msg.ensures.message, c.in_ok-branch.ensures.done, c.in_ok-branch.ensures.text, c.in_ok-dialogue.ensures.done, c.in_ok-dialogue.ensures.dialog) refl

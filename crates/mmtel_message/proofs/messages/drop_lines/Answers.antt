use Rattle.mmtel_message.proofs.HeldTheorems.{dropped_lines}
use Rattle.mmtel_message.proofs.messages.drop_lines.Goals as goal

pub returns : goal.returns
returns c s = rw (c.drop_named.ensures, c.drop_named-2.ensures) (dropped_lines s c.args.name.now c.args.held.now c.args.added.now)

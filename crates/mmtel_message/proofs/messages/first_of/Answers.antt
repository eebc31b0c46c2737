use Rattle.std.proofs.Common.{sym, ap, ◌∙◌}
use Rattle.mmtel_message.proofs.WalkTheorems.{first_named, head_value}
use Rattle.mmtel_message.proofs.messages.first_of.Goals as goal

pub returns-in-None : goal.returns-in-None
returns-in-None c = sym (first_named c.args.name.now c.args.lines.now.values ∙ ap head_value c.in-None.ensures.line)

pub returns-in-Some : goal.returns-in-Some
returns-in-Some c = sym (first_named c.args.name.now c.args.lines.now.values ∙ ap head_value c.in-Some.ensures.line)

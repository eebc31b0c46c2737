use Rattle.std.proofs.Common.{◌∙◌, drop}
use Rattle.mmtel_message.specs.Message.{lines_named}
use Rattle.mmtel_message.proofs.WalkTheorems.{found_there}
use Rattle.mmtel_message.proofs.messages.has_line.Goals as goal

pub returns : goal.returns
returns c =
    c.is_some.ensures ∙ found_there c.next_named.result c.args.name.now c.args.lines.now.values (λ l. (l.name.now, l.value.now))
    (λ l. lines_named c.args.name.now (drop l.next c.args.lines.now.values)) c.next_named.ensures.line

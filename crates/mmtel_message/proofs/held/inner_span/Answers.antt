use Rattle.mmtel_message.proofs.SpanTheorems.{part_at}
use Rattle.mmtel_message.proofs.held.inner_span.Goals as goal

pub returns : goal.returns
returns c = part_at c.args.received.now c.args.span c.args.part c.requires

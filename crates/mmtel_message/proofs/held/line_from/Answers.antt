use Rattle.std.proofs.Common.{arith}
use Rattle.std.proofs.lemmas.List.{drop_all}
use Rattle.mmtel_message.proofs.held.line_from.Goals as goal

pub returns-clause-line : goal.returns-clause-line
returns-clause-line g c = rw (drop_all c.loop-i.i c.args.lines.now (omega arith)) at c.loop-i.invariant

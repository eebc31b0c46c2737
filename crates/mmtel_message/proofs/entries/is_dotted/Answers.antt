use Rattle.std.proofs.Common.{false, sym, arith}
use Rattle.mmtel_message.specs.Entries.{is_dotted}
use Rattle.mmtel_message.proofs.EditTheorems.{dot_over, dot_stop, dot_end}
use Rattle.mmtel_message.proofs.entries.is_dotted.Goals as goal

pub returns-in-None : goal.returns-in-None
returns-in-None c = sym (dot_stop (is_dotted false c.args.bytes.now) c.loop-b.b-index c.args.bytes.now c.loop-b.digit (omega arith) (sym c.in-None.ensures) c.loop-b.invariant)

pub loop-b-preserved : goal.loop-b-preserved
loop-b-preserved c = dot_over (is_dotted false c.args.bytes.now) c.loop-b.b-index c.args.bytes.now c.loop-b.digit c.in-Some.next (omega arith) (sym c.in-Some.ensures) c.loop-b.invariant

pub returns : goal.returns
returns c = sym (dot_end (is_dotted false c.args.bytes.now) c.loop-b.b-index c.args.bytes.now c.loop-b.digit (omega arith) c.loop-b.invariant)

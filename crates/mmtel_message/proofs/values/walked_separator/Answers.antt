use Rattle.std.proofs.Common.{sym, ◌∙◌, arith}
use Rattle.mmtel_message.specs.Values.{next_separator}
use Rattle.mmtel_message.proofs.CommaTheorems.{over, stops_at, never}
use Rattle.mmtel_message.proofs.values.walked_separator.Goals as goal

pub returns-then-is_separator-clause-place : goal.returns-then-is_separator-clause-place
returns-then-is_separator-clause-place c =
    sym (stops_at c.loop-i.current (next_separator c.args.mode c.args.bytes.now) c.loop-i.i c.args.bytes.now (omega arith) (sym c.is_separator.ensures ∙ c.if-is_separator.true) c.loop-i.invariant)

pub loop-i-preserved : goal.loop-i-preserved
loop-i-preserved c = rw c.after-current.ensures
    (over c.loop-i.current (next_separator c.args.mode c.args.bytes.now) c.loop-i.i c.args.bytes.now (omega arith) (sym c.is_separator.ensures ∙ c.if-is_separator.false) c.loop-i.invariant)

pub returns-clause-place : goal.returns-clause-place
returns-clause-place c = sym (never c.loop-i.current (next_separator c.args.mode c.args.bytes.now) c.loop-i.i c.args.bytes.now (omega arith) c.loop-i.invariant)

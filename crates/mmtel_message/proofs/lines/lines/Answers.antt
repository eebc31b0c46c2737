use Rattle.std.proofs.Common.{take}
use Rattle.mmtel_message.proofs.FoldTheorems.{adds_line, all_lines}
use Rattle.mmtel_message.proofs.lines.lines.Goals as goal

pub lines-preserved : goal.lines-preserved
lines-preserved c =
    rw c.in_ok-push.ensures.ok (adds_line c.args.bytes.now c.args.end c.in-Some.from c.lines.lines c.in_ok-line.line c.in_ok-line.after
    (rw c.in-Some.is at c.lines.invariant) c.in_ok-line.ensures.line c.in_ok-line.ensures.within c.in_ok-line.ensures.later)

pub returns : goal.returns
returns c = all_lines c.args.bytes.now (take c.args.end c.args.bytes.now) c.lines.lines (rw c.in_default.is at c.lines.invariant)

use Rattle.std.specs.Prelude.{codes}
use Rattle.mmtel_message.proofs.WalkTheorems.{to_lines_grow}
use Rattle.mmtel_message.proofs.responses.add_to.Goals as goal

pub loop-i-preserved : goal.loop-i-preserved
loop-i-preserved c =
    to_lines_grow c.args.tag.now (codes "To") c.args.lines.now.values c.loop-i.i (c.at.result.0.now, c.at.result.1.now) c.args.out.now c.loop-i.out _ c.at.ensures.last c.loop-i.invariant c.in_ok-add_to_line.ensures

use Rattle.mmtel_trust.proofs.LineWalks.{others_grow}
use Rattle.mmtel_trust.proofs.header_table.add_others.Goals as goal

pub loop-i-preserved : goal.loop-i-preserved
loop-i-preserved c =
    others_grow c.args.facing c.args.to_trusted c.args.lines.now.values c.loop-i.i (c.at.result.0.now, c.at.result.1.now) c.args.out.now c.loop-i.out _ c.at.ensures.last c.loop-i.invariant c.in_ok-add_other.ensures

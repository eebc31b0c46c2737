use Rattle.std.proofs.Common.{sym, arith, []}
use Rattle.mmtel_message.specs.Held.{held_lines}
use Rattle.mmtel_message.specs.Expansion.{privacy_text, allow_text, expanded_from}
use Rattle.mmtel_message.proofs.PartTheorems.{held_over, held_all}
use Rattle.mmtel_message.proofs.expansion.expanded_in.Goals as goal

pub loop-i-preserved : goal.loop-i-preserved
loop-i-preserved c =
    rw c.in_ok-add_lines_for.ensures
    (held_over (privacy_text c.args.all_lines.now.values) (allow_text c.args.all_lines.now.values) c.args.bytes.now c.args.lines.now (held_lines c.args.bytes.now c.loop-i.out) c.loop-i.i c.index-lines-i.result
    (expanded_from (privacy_text c.args.all_lines.now.values) (allow_text c.args.all_lines.now.values) [] (held_lines c.args.bytes.now c.args.lines.now)) (omega arith) c.index-lines-i.is c.loop-i.invariant)

pub returns : goal.returns
returns c = sym (held_all (privacy_text c.args.all_lines.now.values) (allow_text c.args.all_lines.now.values) c.args.bytes.now c.args.lines.now (held_lines c.args.bytes.now c.loop-i.out) c.loop-i.i
    (expanded_from (privacy_text c.args.all_lines.now.values) (allow_text c.args.all_lines.now.values) [] (held_lines c.args.bytes.now c.args.lines.now)) (omega arith) c.loop-i.invariant)

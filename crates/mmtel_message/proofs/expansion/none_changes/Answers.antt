use Rattle.std.proofs.Common.{arith, take}
use Rattle.std.proofs.lemmas.Bool.{OnFalse_at}
use Rattle.mmtel_message.specs.Held.{held_lines}
use Rattle.mmtel_message.specs.Expansion.{privacy_text, allow_text, expanded_lines}
use Rattle.mmtel_message.proofs.PartTheorems.{stood_all, stood_over}
use Rattle.mmtel_message.proofs.expansion.none_changes.Goals as goal

pub loop-i-preserved : goal.loop-i-preserved
loop-i-preserved c =
    let s = c.args.bytes.now in
    let ls = c.args.lines.now in
    let hs = held_lines s ls in
    let stands = OnFalse_at c.if-may_change.false c.may_change.ensures (privacy_text hs) (allow_text hs) (held_lines s (take c.loop-i.i ls)) in
    stood_over (privacy_text hs) (allow_text hs) s ls c.loop-i.i c.index-lines-i.result (expanded_lines hs) (omega arith) c.index-lines-i.is stands c.loop-i.invariant

pub returns : goal.returns
returns c =
    let hs = held_lines c.args.bytes.now c.args.lines.now in
    stood_all (privacy_text hs) (allow_text hs) c.args.bytes.now c.args.lines.now c.loop-i.i (expanded_lines hs) (omega arith) c.loop-i.invariant

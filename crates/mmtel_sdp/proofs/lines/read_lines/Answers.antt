use Rattle.std.proofs.Common.{sym, ◌∙◌}
use Rattle.mmtel_sdp.proofs.Parts.{part_shorter}
use Rattle.mmtel_sdp.proofs.Reading.{goes_on, fails_at, is_done, is_cut_off}
use Rattle.mmtel_sdp.proofs.lines.read_lines.Goals as goal

pub returns-in-None : goal.returns-in-None
returns-in-None c =
    fails_at c.lines.lines c.lines.rest.now c.args.bytes.now (c.in-Some.raw.now, c.in-Some.after.now) c.lines.invariant c.in-Some.ensures (sym c.in-None.is ∙ c.in_ok-line.ensures)

pub lines-smaller : goal.lines-smaller
lines-smaller c = part_shorter 10 c.lines.rest.now (c.in-Some.raw.now, c.in-Some.after.now) (sym c.in-Some.ensures)

pub lines-preserved : goal.lines-preserved
lines-preserved c =
    rw c.in_ok-push-in-Some-2.ensures.ok
    (goes_on c.lines.lines c.lines.rest.now c.args.bytes.now (c.in-Some.raw.now, c.in-Some.after.now) c.in-Some-2.line c.lines.invariant c.in-Some.ensures (sym c.in-Some-2.is ∙ c.in_ok-line.ensures))

pub returns-then-is_empty : goal.returns-then-is_empty
returns-then-is_empty c =
    is_done c.lines.lines c.lines.rest.now c.args.bytes.now c.lines.invariant c.in_default.ensures (sym c.is_empty.ensures ∙ c.if-is_empty.true)

pub returns-else-is_empty : goal.returns-else-is_empty
returns-else-is_empty c =
    is_cut_off c.lines.lines c.lines.rest.now c.args.bytes.now c.lines.invariant c.in_default.ensures (sym c.is_empty.ensures ∙ c.if-is_empty.false)

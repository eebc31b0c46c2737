use Rattle.std.proofs.Common.{sym, ◌∙◌, arith, []}
use Rattle.mmtel_message.specs.Faults.{fault_from}
use Rattle.mmtel_message.proofs.EditTheorems.{fault_here, fault_over, fault_none}
use Rattle.mmtel_message.proofs.faults.lines_fault.Goals as goal

pub returns-then-line_fault : goal.returns-then-line_fault
returns-then-line_fault c =
    let ls = c.args.lines.now.values in
    let whole = fault_from c.args.start.now c.args.five.now c.args.rest_len [] ls in
    sym (fault_here c.args.start.now c.args.five.now c.args.rest_len ls c.loop-i.i (c.at.result.0.now, c.at.result.1.now) whole c.at.ensures.item c.at.ensures.first
    (sym (rw c.before-in-loop-i.ensures at c.line_fault.ensures) ∙ c.if-line_fault.true) c.loop-i.invariant)

pub loop-i-preserved : goal.loop-i-preserved
loop-i-preserved c =
    let ls = c.args.lines.now.values in
    let whole = fault_from c.args.start.now c.args.five.now c.args.rest_len [] ls in
    fault_over c.args.start.now c.args.five.now c.args.rest_len ls c.loop-i.i (c.at.result.0.now, c.at.result.1.now) whole c.at.ensures.first c.at.ensures.last
    (sym (rw c.before-in-loop-i.ensures at c.line_fault.ensures) ∙ c.if-line_fault.false) c.loop-i.invariant

pub returns : goal.returns
returns c =
    let ls = c.args.lines.now.values in
    let whole = fault_from c.args.start.now c.args.five.now c.args.rest_len [] ls in
    sym (fault_none c.args.start.now c.args.five.now c.args.rest_len ls c.loop-i.i whole (omega arith) c.loop-i.invariant)

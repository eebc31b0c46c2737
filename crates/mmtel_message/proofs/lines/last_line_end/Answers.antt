use Rattle.std.proofs.Common.{◌≡◌, drop, sym, ◌∙◌, arith, true, false}
use Rattle.std.proofs.lemmas.List.{take_rest}
use Rattle.mmtel_message.specs.Lines.{last_line_end, crlf}
use Rattle.mmtel_message.proofs.LineTheorems.{found_here, found_not, found_all}
use Rattle.mmtel_message.proofs.lines.last_line_end.Goals as goal
use Rattle.mmtel_message.proofs.lines.last_line_end.Goals.{then-is_first, else-is_first}

pub loop-i-preserved : goal.loop-i-preserved
loop-i-preserved c =
    elim c.if-is_first.branch [
      | then-is_first w ↦
          let here : crlf (drop c.loop-i.i c.args.bytes.now) ≡ true = rw (take_rest c.args.bytes.now c.loop-i.i) at (sym c.is_first.ensures ∙ w.if-is_first.true) in
          rw w.found-is (found_here (last_line_end c.args.bytes.now) c.loop-i.i c.loop-i.found c.args.bytes.now (omega arith) here c.loop-i.invariant.0, omega arith)
      | else-is_first w ↦
          let here : crlf (drop c.loop-i.i c.args.bytes.now) ≡ false = rw (take_rest c.args.bytes.now c.loop-i.i) at (sym c.is_first.ensures ∙ w.if-is_first.false) in
          rw w.found-is (found_not (last_line_end c.args.bytes.now) c.loop-i.i c.loop-i.found c.args.bytes.now (omega arith) here c.loop-i.invariant.0, c.loop-i.invariant.1)
    ]

pub returns-clause-place : goal.returns-clause-place
returns-clause-place c = sym (found_all (last_line_end c.args.bytes.now) c.loop-i.i c.loop-i.found c.args.bytes.now (omega arith) c.loop-i.invariant.0)

use Rattle.std.proofs.Common.{◌≡◌, ◌==◌, sym, true, false, get_or, arith}
use Rattle.std.proofs.lemmas.Bool.Decides.{nat_tests}
use Rattle.std.proofs.lemmas.Grind.{common_steps}
use Rattle.mmtel_base.proofs.Quotes.{over_escaped, over_plain, stops_at, never}
use Rattle.mmtel_base.specs.Scanning.{closing_quote_from}
use Rattle.mmtel_base.proofs.scanning.quote_position.Goals as goal
use Rattle.mmtel_base.proofs.scanning.quote_position.Goals.{then-escaped, else-escaped+else-byte-eq34}

pub returns-then-byte-eq34-clause-place : goal.returns-then-byte-eq34-clause-place
returns-then-byte-eq34-clause-place c =
    let quote : (get_or c.args.bytes.now c.loop-i.i 0 == 34) ≡ true = grind (arith, common_steps, nat_tests) in
    sym (stops_at (closing_quote_from false c.args.bytes.now) c.loop-i.i c.args.bytes.now (omega arith) quote (rw c.if-escaped.false at c.loop-i.invariant))

pub loop-i-preserved : goal.loop-i-preserved
loop-i-preserved c =
    elim c.if-escaped.branch [
      | then-escaped w ↦ rw w.escaped-is (over_escaped (closing_quote_from false c.args.bytes.now) c.loop-i.i c.args.bytes.now (omega arith) (rw w.if-escaped.true at c.loop-i.invariant))
      | else-escaped+else-byte-eq34 w ↦
          let plain : (get_or c.args.bytes.now c.loop-i.i 0 == 34) ≡ false = grind (arith, common_steps, nat_tests, w.if-byte-eq34.false) in
          rw w.escaped-is (over_plain (closing_quote_from false c.args.bytes.now) c.loop-i.i c.args.bytes.now (omega arith) plain (rw w.if-escaped.false at c.loop-i.invariant))
    ]

pub returns-clause-place : goal.returns-clause-place
returns-clause-place c = sym (never (closing_quote_from false c.args.bytes.now) c.loop-i.i c.loop-i.escaped c.args.bytes.now (omega arith) c.loop-i.invariant)

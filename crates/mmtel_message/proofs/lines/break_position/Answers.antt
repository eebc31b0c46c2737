use Rattle.std.proofs.Common.{◌≡◌, ◌+◌, ◌<◌, drop, length, refl, sym, ◌∙◌, true, false, arith}
use Rattle.mmtel_message.specs.Lines.{begins_with_break, first_break}
use Rattle.mmtel_message.proofs.LineTheorems.{stops_at, over, never, skips, reaches, none_left, whole_rest}
use Rattle.mmtel_message.proofs.lines.break_position.Goals as goal

pub returns-then-is_first-clause-place : goal.returns-then-is_first-clause-place
returns-then-is_first-clause-place c =
    let s = c.args.bytes.now in
    let at = c.ends.from + c.in-Some.skipped in
    let inside : at < length s = reaches c.ends.from c.in-Some.skipped s c.ends.invariant.1 c.in-Some.ensures.0.high in
    let here : begins_with_break c.args.separator (drop at s) ≡ true = rw (whole_rest s at (omega (arith, inside))) at (sym c.is_first.ensures ∙ c.if-is_first.true) in
    sym (stops_at c.args.separator (first_break c.args.separator s) at s inside here
    (skips c.args.separator (first_break c.args.separator s) c.ends.from c.in-Some.skipped s (omega (arith, inside)) c.in-Some.ensures.0.before c.ends.invariant.0))

pub ends-preserved : goal.ends-preserved
ends-preserved c =
    let s = c.args.bytes.now in
    let at = c.ends.from + c.in-Some.skipped in
    let inside : at < length s = reaches c.ends.from c.in-Some.skipped s c.ends.invariant.1 c.in-Some.ensures.0.high in
    let here : begins_with_break c.args.separator (drop at s) ≡ false = rw (whole_rest s at (omega (arith, inside))) at (sym c.is_first.ensures ∙ c.if-is_first.false) in (
      over c.args.separator (first_break c.args.separator s) at s inside here
          (skips c.args.separator (first_break c.args.separator s) c.ends.from c.in-Some.skipped s (omega (arith, inside)) c.in-Some.ensures.0.before c.ends.invariant.0),
      omega (arith, inside),
    )

pub returns-clause-place : goal.returns-clause-place
returns-clause-place c =
    let s = c.args.bytes.now in
    sym (never c.args.separator (first_break c.args.separator s) (length s) s refl (none_left c.args.separator (first_break c.args.separator s) c.ends.from s c.ends.invariant.1 c.in_default.ensures c.ends.invariant.0))

use Rattle.std.proofs.Common.{List, ap, drop, map, sym}
use Rattle.mmtel_message.specs.Message.{Line, line_texts}
use Rattle.mmtel_message.proofs.WalkTheorems.{no_more, one_more}
use Rattle.mmtel_message.proofs.messages.line_texts.Goals as goal

pub lines-preserved : goal.lines-preserved
lines-preserved c =
    let name = c.args.name.now in
    let ls = c.args.lines.now.values in
    rw (c.in_ok-push.ensures.ok, c.in_ok-value.ensures) (one_more c.lines.out (line_texts name (drop c.lines.from ls)) (line_texts name (drop c.in-Some.line.next ls))
    (line_texts name ls) c.in-Some.line.value.now c.lines.invariant (ap (λ (ks : List Line). map (λ k. k.1) ks) c.in-Some.ensures.line))

pub returns : goal.returns
returns c =
    let name = c.args.name.now in
    let ls = c.args.lines.now.values in
    sym (no_more c.lines.out (line_texts name (drop c.lines.from ls)) (line_texts name ls) c.lines.invariant (ap (λ (ks : List Line). map (λ k. k.1) ks) c.in_default.ensures.line))

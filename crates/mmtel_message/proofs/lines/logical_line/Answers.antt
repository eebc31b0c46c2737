use Rattle.std.proofs.Common.{◌≡◌, ◌≤◌, ℕ, Option, Some, length, drop, true, subst}
use Rattle.std.specs.Prelude.{IfSome}
use Rattle.mmtel_message.specs.Held.{bytes_at}
use Rattle.mmtel_message.specs.Lines.{logical_lines_from, split}
use Rattle.mmtel_message.specs.Spans.{continues, rest_at}
use Rattle.mmtel_message.proofs.FoldTheorems.{ReadsOn, joins_on, done_on, still_after}
use Rattle.mmtel_message.proofs.lines.logical_line.Goals as goal

pub lines-preserved : goal.lines-preserved
lines-preserved c =
    let blank : continues c.args.head.now (Some c.in-Some.from) ≡ true = subst (λ (o : Option ℕ). continues c.args.head.now o ≡ true) c.in-Some.ensures.0 c.in-Some.ensures.1 in
    let so_far : ReadsOn (logical_lines_from (bytes_at c.args.head.now c.args.first) (split (drop c.args.next c.args.head.now))) c.lines.front c.lines.gap.now c.lines.piece.now
    (rest_at c.args.head.now (Some c.in-Some.from)) =
    subst (λ (o : Option ℕ). ReadsOn (logical_lines_from (bytes_at c.args.head.now c.args.first) (split (drop c.args.next c.args.head.now))) c.lines.front c.lines.gap.now c.lines.piece.now (rest_at c.args.head.now o))
    c.in-Some.ensures.0 c.lines.invariant.0 in
    let behind = subst (λ (o : Option ℕ). IfSome o (λ n. (c.args.next ≤ n) × (n ≤ length c.args.head.now))) c.in-Some.ensures.0 c.lines.invariant.1 in (
      rw (c.in_ok-add_trimmed.ensures, c.split_run.ensures.rest, c.bytes_at.ensures)
          (joins_on (logical_lines_from (bytes_at c.args.head.now c.args.first) (split (drop c.args.next c.args.head.now))) c.lines.front c.lines.gap.now c.lines.piece.now
          (bytes_at c.args.head.now c.next_line-after.result.0) (drop c.in-Some.from c.args.head.now) (rest_at c.args.head.now c.next_line-after.result.1) c.next_line-after.ensures.lines blank so_far),
      still_after c.next_line-after.result.1 c.args.head.now c.args.next c.in-Some.from behind.0 c.next_line-after.ensures.later,
    )

pub returns-clause-line : goal.returns-clause-line
returns-clause-line c =
    rw c.in_ok-join.ensures (done_on (logical_lines_from (bytes_at c.args.head.now c.args.first) (split (drop c.args.next c.args.head.now))) c.lines.front c.lines.gap.now c.lines.piece.now
    c.args.head.now c.lines.rest c.in_default.ensures c.lines.invariant.0)

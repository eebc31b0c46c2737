use Rattle.std.proofs.Common.{◌≡◌, sym, ap, ◌∙◌, true, false, List, ℕ, drop, arith}
use Rattle.mmtel_history.specs.EntryUri.{begins_escape}
use Rattle.mmtel_history.proofs.PartTheorems.{reads_start, reads_on, reads_escape, reads_all}
use Rattle.mmtel_history.proofs.parts.first_escaped.Goals as goal

pub loop-i-init : goal.loop-i-init
loop-i-init c = reads_start c.args.bytes.now

pub returns-then-begins_escape-clause-parts : goal.returns-then-begins_escape-clause-parts
returns-then-begins_escape-clause-parts c =
    let begins : begins_escape (drop c.loop-i.i c.args.bytes.now) ≡ true = ap (λ (l : List ℕ). begins_escape l) (sym c.split_at.ensures.back) ∙ sym c.begins_escape.ensures ∙ c.if-begins_escape.true in
    rw (c.split_at.ensures.front, c.split_at-then-begins_escape.ensures.back, c.min.ensures, c.split_at.ensures.back)
    (reads_escape c.loop-i.i c.args.bytes.now c.loop-i-test.true begins c.loop-i.invariant)

pub loop-i-preserved : goal.loop-i-preserved
loop-i-preserved c =
    let ends : begins_escape (drop c.loop-i.i c.args.bytes.now) ≡ false = ap (λ (l : List ℕ). begins_escape l) (sym c.split_at.ensures.back) ∙ sym c.begins_escape.ensures ∙ c.if-begins_escape.false in
    reads_on c.loop-i.i c.args.bytes.now c.loop-i-test.true ends c.loop-i.invariant

pub returns-clause-parts : goal.returns-clause-parts
returns-clause-parts c = reads_all c.loop-i.i c.args.bytes.now (omega arith) c.loop-i.invariant

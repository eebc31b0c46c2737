use Rattle.std.proofs.Common.{◌≡◌, ◌++◌, ◌<◌, ℕ, List, length, arith, subst}
use Rattle.std.proofs.lemmas.Bool.Decides.{nat_tests}
use Rattle.std.specs.Result.{OnOk}
use Rattle.mmtel_base.specs.Scanning.{without_trailing}
use Rattle.mmtel_base.specs.declared.classes.Class.TheVariants.{Blank}
use Rattle.mmtel_message.proofs.FoldTheorems.{nothing_kept, some_kept}
use Rattle.mmtel_message.proofs.lines.add_trimmed.Goals as goal

pub returns-then-is_empty : goal.returns-then-is_empty
returns-then-is_empty c =
    let none : length c.trim_end-kept.result.now ≡ 0 = grind (arith, nat_tests, c.if-is_empty.true, c.is_empty.ensures) in
    nothing_kept c.args.line.now c.args.gap.now c.args.piece.now c.requires.gap c.requires.end (rw c.trim_end-kept.ensures at none)

pub returns : goal.returns
returns c =
    let some : 0 < length c.trim_end-kept.result.now = grind (arith, nat_tests, c.if-is_empty.false, c.is_empty.ensures) in
    let kept : c.args.line.now ++ c.args.gap.now ++ c.trim_end-kept.result.now ≡ without_trailing Blank (c.args.line.now ++ c.args.gap.now ++ c.args.piece.now) =
    rw c.trim_end-kept.ensures (some_kept (c.args.line.now ++ c.args.gap.now) c.args.piece.now (rw c.trim_end-kept.ensures at some)) in
    subst (λ (l : List ℕ). OnOk c.join.result (c.join.new.self ≡ l)) kept c.join.ensures

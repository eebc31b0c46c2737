use Rattle.std.proofs.Common.{[], ◌∷◌, ◌++◌, codes}
use Rattle.std.proofs.lemmas.Result.{on_err_weaker}
use Rattle.std.specs.Prelude.{decimal}
use Rattle.mmtel_environment.proofs.Appending.{OnErr-from, Appends-both, part-front, part-behind}
use Rattle.mmtel_reports.proofs.reports.write_line.Goals as goal

pub returns-in_err-write_all-clause-part : goal.returns-in_err-write_all-clause-part
returns-in_err-write_all-clause-part g c =
    OnErr-from c.from_residual.result (part-front _ _ (codes "line ") (decimal c.args.line ++ 10 ∷ []) c.in_err-write_all.ensures.part)

pub returns-in_err-write_number-clause-part : goal.returns-in_err-write_number-clause-part
returns-in_err-write_number-clause-part g c =
    let cut = part-front _ _ (decimal c.args.line) (10 ∷ []) c.in_err-write_number.ensures.part in
    OnErr-from c.from_residual-in_err-write_number.result (part-behind _ _ _ (codes "line ") (decimal c.args.line ++ 10 ∷ []) c.in_ok-write_all.ensures.whole cut)

pub returns-clause-part : goal.returns-clause-part
returns-clause-part g c =
    let before = Appends-both _ _ _ (codes "line ") (decimal c.args.line) c.in_ok-write_all.ensures.whole c.in_ok-write_number.ensures.whole in
    on_err_weaker c.write_all-2.result (λ cut. part-behind _ _ _ (codes "line " ++ decimal c.args.line) (10 ∷ []) before cut) c.write_all-2.ensures.part

use Rattle.std.proofs.Common.{map}
use Rattle.std.proofs.lemmas.Result.{err_from_is_err_and}
use Rattle.mmtel_words.proofs.ReadTheorems.{check_refused}
use Rattle.mmtel_words.proofs.commands.read_check.Goals as goal

pub returns-in_err-records : goal.returns-in_err-records
returns-in_err-records c =
    let p = err_from_is_err_and c.from_residual.result c.from_residual.ensures.1 in
    rw (p.1, p.2) (check_refused (map (λ w. w.now) c.args.words.now) c.in_err-records.field-0.0 c.in_err-records.ensures)

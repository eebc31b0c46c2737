use Rattle.std.proofs.lemmas.Result.{err_from_is_err_and}
use Rattle.mmtel_directory.proofs.drafts.Draft.finish.Goals as goal

pub returns-in_err-store_or_default-in-Some-Some : goal.returns-in_err-store_or_default-in-Some-Some
returns-in_err-store_or_default-in-Some-Some c =
    let p = err_from_is_err_and c.from_residual.result c.from_residual.ensures.1 in
    rw (p.1, p.2) tt

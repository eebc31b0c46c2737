use Rattle.std.proofs.Common.{map}
use Rattle.std.proofs.lemmas.Result.{err_from_is_err_and}
use Rattle.mmtel_words.proofs.ReadTheorems.{charges_refused}
use Rattle.mmtel_words.proofs.commands.read_charges.Goals as goal

pub returns-in_err-config : goal.returns-in_err-config
returns-in_err-config c =
    let p = err_from_is_err_and c.from_residual.result c.from_residual.ensures.1 in
    rw (p.1, p.2) (charges_refused (map (λ w. w.now) c.args.words.now) c.in_err-config.field-0.0 c.in_err-config.ensures)

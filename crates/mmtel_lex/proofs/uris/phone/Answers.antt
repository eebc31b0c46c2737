use Rattle.std.proofs.Common.{refl, sym, ◌∙◌}
use Rattle.mmtel_lex.proofs.TextRefs.{number_taken}
use Rattle.mmtel_lex.proofs.uris.phone.Goals as goal

pub returns : goal.returns
returns c =
    rw (c.split_at.ensures.front, c.split_at.ensures.back) (number_taken c.args.bytes.now c.after_sign.result.now c.split_run.result.0.now c.split_run.result.1.now _ c.after_sign.ensures.rest
    c.split_run.ensures.front c.split_run.ensures.rest (sym c.has_digit.ensures ∙ c.if-not-has_digit.false) refl)

use Rattle.std.proofs.Common.{sym, ◌+◌, arith}
use Rattle.mmtel_lex.specs.Reading.{text_at}
use Rattle.mmtel_lex.proofs.TextRefs.{text_taken}
use Rattle.mmtel_lex.proofs.params.text_ref.Goals as goal

pub returns-in-Some-closing_quote-clause-exact : goal.returns-in-Some-closing_quote-clause-exact
unfolding text_at
returns-in-Some-closing_quote-clause-exact c =
    rw (c.split_at.ensures.front, c.split_at.ensures.back) (text_taken c.args.bytes.now c.in-Some.tail.now c.in-Some-closing_quote.at (c.in-Some-closing_quote.at + 2) (sym c.in-Some.ensures.value)
    (sym c.in-Some-closing_quote.ensures.place) c.in-Some-closing_quote.ensures.quoted (omega arith))

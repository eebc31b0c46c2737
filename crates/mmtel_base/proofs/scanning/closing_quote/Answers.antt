use Rattle.mmtel_base.proofs.Quotes.{closed_by, unclosed_by}
use Rattle.mmtel_base.proofs.scanning.closing_quote.Goals as goal

pub returns-clause-quoted : goal.returns-clause-quoted
returns-clause-quoted c = closed_by c.args.bytes.now c.quote_position.result c.quote_position.ensures.place

pub returns-clause-unclosed : goal.returns-clause-unclosed
returns-clause-unclosed c = unclosed_by c.args.bytes.now c.quote_position.result c.quote_position.ensures.place

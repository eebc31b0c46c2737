use Rattle.mmtel_sheet_grammar.specs.Elements.{items_from, token_at}
use Rattle.mmtel_sheet_reader.proofs.Items.{IsReadTo}
use Rattle.mmtel_sheet_reader.proofs.elements.each_token.Given as goal

abbrev pub invariant-items : goal.invariant-items
invariant-items l = IsReadTo (items_from (token_at l.at)) l.item-items l.item-index l.tokens

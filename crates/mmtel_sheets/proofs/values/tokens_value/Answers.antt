use Rattle.toml.specs.Data.{string}
use Rattle.mmtel_sheets.proofs.Items.{item_added, items_done}
use Rattle.mmtel_sheets.proofs.values.tokens_value.Goals as goal

pub tokens-preserved : goal.tokens-preserved
tokens-preserved c = item_added string c.args.tokens.now c.tokens.token-index c.token-item.result c.tokens.array.items c.push.new.self.items c.in_ok-token_value.field-0 c.tokens-test.true
    c.token-item.is c.in_ok-push.ensures.items c.in_ok-token_value.ensures c.tokens.invariant

pub returns : goal.returns
returns c = items_done string c.args.tokens.now c.tokens.token-index c.tokens.array c.tokens-test.false c.tokens.invariant

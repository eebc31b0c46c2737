use Rattle.std.proofs.Common.{◌≡◌, take}
use Rattle.toml.specs.Data.{string}
use Rattle.toml.specs.View.{items_view}
use Rattle.mmtel_sheets.specs.Printing.{each_item}
use Rattle.mmtel_sheets.proofs.values.tokens_value.Given as goal

abbrev pub invariant-tokens : goal.invariant-tokens
invariant-tokens l = items_view l.array.items ≡ each_item string (take l.token-index l.tokens)

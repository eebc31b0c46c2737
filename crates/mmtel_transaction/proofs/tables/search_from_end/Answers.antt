use Rattle.std.proofs.Common.{◌≡◌, ◌-◌, ◌<◌, length, rules}
use Rattle.mmtel_transaction.proofs.Placing.{placed_box}
use Rattle.mmtel_transaction.proofs.tables.search_from_end.Goals as goal

pub returns-then-deref-key : goal.returns-then-deref-key
returns-then-deref-key c =
    let i = c.len-2.result - 1 - c.in-Ok.behind in
    let inside : i < length c.args.entries.now.items = search rules in
    let same : c.index.result.now.value.key ≡ c.args.key = search rules in
    placed_box c.args.key c.args.entries.now.items i c.index.result.now c.requires.rises inside c.index.ensures same

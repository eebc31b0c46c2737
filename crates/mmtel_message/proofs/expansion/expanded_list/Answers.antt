use Rattle.std.proofs.Common.{◌≡◌, sym}
use Rattle.std.proofs.lemmas.Bool.{OnTrue_at}
use Rattle.mmtel_message.specs.Expansion.{expanded_lines}
use Rattle.mmtel_message.specs.Held.{held_lines}
use Rattle.mmtel_message.proofs.expansion.expanded_list.Goals as goal

pub returns-then-none_changes : goal.returns-then-none_changes
returns-then-none_changes c =
    let stands : expanded_lines (held_lines c.args.bytes.now c.items.result.now) ≡ held_lines c.args.bytes.now c.items.result.now = OnTrue_at c.if-none_changes.true c.none_changes.ensures in
    sym (rw c.items.ensures at stands)

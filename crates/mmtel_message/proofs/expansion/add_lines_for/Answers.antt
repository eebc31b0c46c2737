use Rattle.std.proofs.Common.{sym, ◌∙◌}
use Rattle.mmtel_message.specs.Held.{held_line, held_lines}
use Rattle.mmtel_message.specs.Expansion.{privacy_text, allow_text}
use Rattle.mmtel_message.proofs.PartTheorems.{listed_lines}
use Rattle.mmtel_message.proofs.expansion.add_lines_for.Goals as goal

pub returns-then-is_listed : goal.returns-then-is_listed
returns-then-is_listed c =
    rw (listed_lines (privacy_text c.args.all_lines.now.values) (allow_text c.args.all_lines.now.values) (held_lines c.args.bytes.now c.args.before.now) (held_line c.args.bytes.now c.args.line.now)
    (rw c.bytes-name.ensures at (sym c.is_empty.ensures ∙ c.if-is_empty.false))
    (rw c.bytes-name.ensures at (sym c.is_named.ensures ∙ c.if-is_named.false))
    (rw c.bytes-name.ensures at (sym c.is_named-2.ensures ∙ c.if-is_named-2.false))
    (rw c.bytes-name.ensures at (sym c.is_listed.ensures ∙ c.if-is_listed.true)))
    (rw c.bytes-name.ensures at c.add_values.ensures)

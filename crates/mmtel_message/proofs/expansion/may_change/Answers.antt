use Rattle.std.proofs.Common.{sym, ◌∙◌}
use Rattle.mmtel_message.specs.Held.{value_of}
use Rattle.mmtel_message.proofs.PartTheorems.{listed_is_there, plain_is_there}
use Rattle.mmtel_message.proofs.expansion.may_change.Goals as goal

pub returns-then-is_listed : goal.returns-then-is_listed
returns-then-is_listed c =
    listed_is_there c.may_split.result c.args.line.now.0 (value_of c.args.bytes.now c.args.line.now.1) c.value_of.result.now c.value_of.ensures
    (rw c.bytes-name.ensures at (sym c.is_empty.ensures ∙ c.if-is_empty.false))
    (rw c.bytes-name.ensures at (sym c.is_named.ensures ∙ c.if-is_named.false))
    (rw c.bytes-name.ensures at (sym c.is_named-2.ensures ∙ c.if-is_named-2.false))
    (rw c.bytes-name.ensures at (sym c.is_listed.ensures ∙ c.if-is_listed.true))
    c.may_split.ensures

pub returns : goal.returns
returns c = λ privacy allow before.
    plain_is_there c.args.line.now.0 (value_of c.args.bytes.now c.args.line.now.1) privacy allow before
    (rw c.bytes-name.ensures at (sym c.is_empty.ensures ∙ c.if-is_empty.false))
    (rw c.bytes-name.ensures at (sym c.is_named.ensures ∙ c.if-is_named.false))
    (rw c.bytes-name.ensures at (sym c.is_named-2.ensures ∙ c.if-is_named-2.false))
    (rw c.bytes-name.ensures at (sym c.is_listed.ensures ∙ c.if-is_listed.false))

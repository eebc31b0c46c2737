use Rattle.std.proofs.Common.{sym, ◌∙◌}
use Rattle.mmtel_message.proofs.TransactionNameTheorems.{known_if}
use Rattle.mmtel_message.proofs.transaction_names.may_differ.Goals as goal

pub returns : goal.returns
returns c = known_if c.may_split.result c.args.branch.now c.args.value.now (sym c.is_empty.ensures ∙ c.if-is_empty.false) c.may_split.ensures

use Rattle.std.proofs.Common.{ap, sym, ◌∙◌}
use Rattle.std.proofs.lemmas.Bool.{OnFalse_at}
use Rattle.mmtel_message.specs.Identifiers.{Identifiers}
use Rattle.mmtel_message.proofs.TransactionNameTheorems.{branch_at}
use Rattle.mmtel_message.proofs.transaction_names.branch_by.Goals as goal

pub returns-then-may_differ : goal.returns-then-may_differ
returns-then-may_differ c = λ ls is first. c.branch_in.ensures ∙ sym (branch_at ls c.args.value.now first)

pub returns : goal.returns
returns c = λ ls is first. OnFalse_at c.if-may_differ.false c.may_differ.ensures ls c.args.identifiers.now is (ap (λ (i : Identifiers). i.branch) (sym c.identifiers.view_is)) first

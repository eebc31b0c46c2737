use Rattle.std.proofs.Common.{sym, ◌∙◌}
use Rattle.mmtel_message.proofs.TransactionNameTheorems.{branch_at, branch_nowhere}
use Rattle.mmtel_message.proofs.messages.Msg.first_branch.Goals as goal

pub returns-in-None : goal.returns-in-None
returns-in-None c = sym (branch_nowhere c.args.self.now.lines (sym c.in-None.ensures))

pub returns-in-None-identifiers : goal.returns-in-None-identifiers
returns-in-None-identifiers c = c.branch_in.ensures ∙ sym (branch_at c.args.self.now.lines c.in-Some.value.now (sym c.in-Some.ensures))

pub returns-in-Some-identifiers : goal.returns-in-Some-identifiers
returns-in-Some-identifiers c = c.branch_by.ensures c.args.self.now.lines (sym c.in-Some-identifiers.ensures) (sym c.in-Some.ensures)

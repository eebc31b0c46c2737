use Rattle.std.proofs.Common.{refl, ap, ◌∙◌}
use Rattle.mmtel_transaction.specs.Results.{next_due}
use Rattle.mmtel_transaction.proofs.Representation.{fired_done}
use Rattle.mmtel_transaction.proofs.transactions.Transactions.due.Goals as goal

pub returns-in_ok-said-in-Some-clause-done : goal.returns-in_ok-said-in-Some-clause-done
returns-in_ok-said-in-Some-clause-done g c h st = fired_done c.args.self.now _ h c.args.now c.in-Some.found c.in_ok-said-in-Some.said st
    (c.in-Some.ensures.next ∙ ap (λ n. next_due n c.args.self.now.entries) c.ms.ensures.number)
    refl refl refl c.change.ensures c.in_ok-said-in-Some.ensures

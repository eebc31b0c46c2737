use Rattle.std.proofs.Common.{ℕ, List, Some, ap, sym, ◌∙◌}
use Rattle.mmtel_message.proofs.TransactionNameTheorems.{known_method}
use Rattle.mmtel_message.proofs.messages.Msg.first_method.Goals as goal

pub returns-in-Some : goal.returns-in-Some
returns-in-Some c = ap (λ (m : List ℕ). Some m) c.method_of.ensures ∙ known_method c.args.self.now.lines _ (sym c.in-Some.ensures)

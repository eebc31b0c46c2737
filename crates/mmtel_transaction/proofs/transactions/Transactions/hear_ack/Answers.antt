use Rattle.std.proofs.Common.{refl, ap, ◌∙◌, map}
use Rattle.mmtel_transaction.specs.Changes.{after_ack_2xx}
use Rattle.mmtel_transaction.proofs.Representation.{represents_acked}
use Rattle.mmtel_transaction.proofs.transactions.Transactions.hear_ack.Goals as goal

pub returns : goal.returns
returns g c q h st taken =
    (represents_acked c.args.peer c.args.now c.args.message h c.args.self.now _ st taken refl refl refl (c.ack_2xx.ensures ∙ ap (λ m. map (after_ack_2xx c.args.self.now.step m) c.args.self.now.entries) q), refl)

use Rattle.std.proofs.Common.{refl}
use Rattle.mmtel_transaction.specs.declared.message_class.MessageClass.TheVariants.{Acked}
use Rattle.mmtel_transaction.specs.Changes.{after_failure_ack}
use Rattle.mmtel_transaction.specs.Operations.{DidHear}
use Rattle.mmtel_transaction.proofs.Representation.{stands_hit}
use Rattle.mmtel_transaction.proofs.transactions.Transactions.hear_acked.Goals as goal

pub returns : goal.returns
returns g c h st taken = (
  stands_hit (DidHear c.args.peer c.args.message c.args.now (Acked c.args.key)) h c.args.self.now _ st (taken, st.run) st.send_count c.args.key
      (λ s i. after_failure_ack s c.args.now) refl refl c.change.ensures refl refl (λ e. refl),
  refl,
)

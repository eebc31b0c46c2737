use Rattle.std.proofs.Common.{refl}
use Rattle.mmtel_transaction.specs.Changes.{after_settling}
use Rattle.mmtel_transaction.specs.Operations.{DidSettle}
use Rattle.mmtel_transaction.proofs.Representation.{stands_hit}
use Rattle.mmtel_transaction.proofs.transactions.Transactions.settle.Goals as goal

pub returns : goal.returns
returns g c =
    record { done = λ h st. stands_hit (DidSettle c.args.k.0 c.args.own) h c.args.self.now _ st st.run st.send_count c.args.k.0 (λ s i. after_settling c.args.own) refl refl c.change.ensures refl refl (λ e. refl) }

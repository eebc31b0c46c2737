use Rattle.std.proofs.Common.{refl}
use Rattle.mmtel_transaction.specs.Operations.{DidBegin}
use Rattle.mmtel_transaction.proofs.Representation.{stands_same}
use Rattle.mmtel_transaction.proofs.transactions.Transactions.begin.Goals as goal

pub returns : goal.returns
returns c = record { done = λ h st. stands_same (DidBegin c.args.step) h c.args.self.now _ st st.run st.send_count refl refl refl refl (λ e. refl) }

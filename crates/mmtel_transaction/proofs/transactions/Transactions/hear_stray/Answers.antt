use Rattle.std.proofs.Common.{refl}
use Rattle.mmtel_transaction.specs.declared.message_class.MessageClass.TheVariants.{Stray}
use Rattle.mmtel_transaction.specs.Operations.{DidHear}
use Rattle.mmtel_transaction.proofs.Representation.{stands_same}
use Rattle.mmtel_transaction.proofs.transactions.Transactions.hear_stray.Goals as goal

pub returns : goal.returns
returns c h st taken = (stands_same (DidHear c.args.peer c.args.message c.args.now Stray) h c.args.self.now c.args.self.now st (taken, st.run) st.send_count st.step refl refl refl (λ e. refl), refl)

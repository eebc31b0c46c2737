use Rattle.std.proofs.Common.{refl, ap, ◌∙◌}
use Rattle.mmtel_transaction.specs.declared.message_class.MessageClass.TheVariants.{Answer}
use Rattle.mmtel_transaction.specs.Heads.{head_of}
use Rattle.mmtel_transaction.specs.Changes.{after_response}
use Rattle.mmtel_transaction.specs.Operations.{DidHear}
use Rattle.mmtel_transaction.specs.Table.{table_after_change}
use Rattle.mmtel_transaction.proofs.Representation.{stands_hit}
use Rattle.mmtel_transaction.proofs.transactions.Transactions.hear_answer.Goals as goal

pub returns : goal.returns
returns g c q h st taken = (
  stands_hit (DidHear c.args.peer c.args.message c.args.now (Answer c.args.key)) h c.args.self.now _ st (taken, st.run) st.send_count c.args.key
      (λ s i. after_response s (head_of c.args.message).status c.args.now) refl refl
      (c.change.ensures ∙ ap (λ x. table_after_change c.args.key (after_response c.args.self.now.step x c.args.now) c.args.self.now.entries) q)
      refl refl (λ e. refl),
  refl,
)

use Rattle.std.proofs.Common.{refl, ap, ◌∙◌}
use Rattle.std.specs.Prelude.{Some}
use Rattle.mmtel_transaction.specs.declared.message_class.MessageClass.TheVariants.{RepeatedFinal}
use Rattle.mmtel_transaction.specs.declared.words.Heard.TheVariants as heard
use Rattle.mmtel_transaction.specs.Operations.{DidHear}
use Rattle.mmtel_transaction.specs.Results.{bind_entry, by_key, last_sent}
use Rattle.mmtel_transaction.proofs.Representation.{stands_same}
use Rattle.mmtel_transaction.proofs.transactions.Transactions.hear_repeated_final.Goals as goal

pub returns : goal.returns
returns c h st taken = (
  stands_same (DidHear c.args.peer c.args.message c.args.now (RepeatedFinal c.args.key)) h c.args.self.now c.args.self.now st (taken, st.run) st.send_count st.step refl refl refl (λ e. refl),
  ap (λ g. Some (heard.Repeat g)) (c.in_ok-given.ensures ∙ ap (λ es. bind_entry (last_sent) (by_key c.args.key es)) st.entries),
)

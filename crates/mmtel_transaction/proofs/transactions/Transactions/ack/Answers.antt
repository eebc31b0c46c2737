use Rattle.std.proofs.Common.{refl, ap, ◌∙◌}
use Rattle.mmtel_message.specs.Texts.{message_text}
use Rattle.mmtel_transaction.specs.Changes.{with_kept_ack}
use Rattle.mmtel_transaction.specs.Operations.{DidAck}
use Rattle.mmtel_transaction.specs.Table.{table_after_change}
use Rattle.mmtel_transaction.proofs.Representation.{stands_hit}
use Rattle.mmtel_transaction.proofs.transactions.Transactions.ack.Goals as goal

pub returns-clause-done : goal.returns-clause-done
returns-clause-done g c h st = stands_hit (DidAck c.args.key.0 c.args.m.now) h c.args.self.now _ st st.run st.send_count c.args.key.0 (λ s i. with_kept_ack (message_text c.args.m.now)) refl refl
    (c.change.ensures ∙ ap (λ t. table_after_change c.args.key.0 (with_kept_ack t) c.args.self.now.entries) (c.in_ok-kept.ensures.copy ∙ c.in_ok-text.ensures.text)) refl refl (λ e. refl)

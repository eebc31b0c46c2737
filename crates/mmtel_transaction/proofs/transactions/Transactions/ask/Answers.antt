use Rattle.std.proofs.Common.{refl, ap, ◌∙◌, ◌++◌, ◌∷◌, []}
use Rattle.mmtel_message.specs.Texts.{message_text}
use Rattle.mmtel_transaction.specs.Heads.{head_of}
use Rattle.mmtel_transaction.specs.Changes.{new_client_entry}
use Rattle.std.specs.Prelude.{◌+◌, ◌-◌, ◌^◌, length, min}
use Rattle.mmtel_transaction.specs.Operations.{DidAsk, openings}
use Rattle.mmtel_transaction.specs.Results.{tkey}
use Rattle.mmtel_transaction.proofs.Representation.{kept_few, represents_open}
use Rattle.mmtel_transaction.proofs.transactions.Transactions.ask.Goals as goal

pub returns-clause-done : goal.returns-clause-done
returns-clause-done g c h st room =
    let old = c.args.self.now in (
      represents_open (DidAsk c.args.p c.args.m.now c.args.now) h c.args.self.now _ (λ s i k. new_client_entry s i k c.args.p (head_of c.args.m.now) (message_text c.args.m.now) c.args.now) st room
          st.run (c.saturating_add-self.ensures ∙ ap (λ n. min (n + 1) (2 ^ 128 - 1)) st.send_count) c.saturating_add-self-2.ensures refl
          (c.in_ok-push.ensures.ok ∙ ap (λ e. c.args.self.now.entries ++ e ∷ []) (c.new_client_entry.ensures
          ∙ (ap (λ m. new_client_entry old.step old.send_count old.next c.args.p m c.in_ok-kept.kept c.ms.result) c.in_ok-asked.ensures
          ∙ (ap (λ t. new_client_entry old.step old.send_count old.next c.args.p (head_of c.args.m.now) t c.ms.result) (c.in_ok-kept.ensures.copy ∙ c.in_ok-text.ensures.text)
          ∙ ap (λ n. new_client_entry old.step old.send_count old.next c.args.p (head_of c.args.m.now) (message_text c.args.m.now) n) c.ms.ensures.number))))
          refl refl (λ e. refl),
      ap tkey (st.next ∙ kept_few (length (openings h)) room),
    )

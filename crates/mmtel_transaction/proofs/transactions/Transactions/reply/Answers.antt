use Rattle.std.proofs.Common.{refl, ap, ◌∙◌}
use Rattle.mmtel_message.specs.Texts.{message_text}
use Rattle.mmtel_transaction.specs.Heads.{head_of}
use Rattle.mmtel_transaction.specs.Changes.{after_reply, reliable_response_of}
use Rattle.mmtel_transaction.proofs.Identified.{tag_of_finals}
use Rattle.mmtel_transaction.proofs.Representation.{stands_replied}
use Rattle.mmtel_transaction.proofs.transactions.Transactions.reply.Goals as goal

pub returns-clause-done : goal.returns-clause-done
returns-clause-done g c h st =
    let old = c.args.self.now in
    let mid = c.add_reliable.new.self in
    let m = c.args.m.now in
    let text = c.in_ok-text.ensures.text in
    stands_replied old mid _ h c.args.key.0 c.args.now m c.in_ok-answer.answer c.reply_change-change.result st c.in_ok-add_reliable.ensures.ok
    (c.in_ok-answer.ensures ∙ (ap (λ t. reliable_response_of old.step old.send_count m t c.ms.result) text ∙ ap (λ n. reliable_response_of old.step old.send_count m (message_text m) n) c.ms.ensures.number))
    (c.reply_change-change.ensures
    ∙ (ap (λ x. after_reply mid.step mid.send_count x.0 c.in_ok-kept.kept x.1 c.ms-2.result) c.in_ok-said.ensures
    ∙ (tag_of_finals mid.step mid.send_count (head_of m).status c.in_ok-kept.kept (head_of m).to_tag c.ms-2.result
    ∙ (ap (λ t. after_reply mid.step mid.send_count (head_of m).status t (head_of m).to_tag c.ms-2.result) (c.in_ok-kept.ensures.copy ∙ text)
    ∙ ap (λ n. after_reply mid.step mid.send_count (head_of m).status (message_text m) (head_of m).to_tag n) c.ms-2.ensures.number))))
    refl refl c.saturating_add-self.ensures c.change.ensures

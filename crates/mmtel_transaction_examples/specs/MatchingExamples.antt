-- The transactions to which the messages of a call belong, and what `hear` returns for them (RFC 3261 §9.2, §17.1.1.3, §17.1.3, §17.2.3).
use Rattle.std.specs.Prelude.{◌≡◌, [], ◌∷◌, Some, None}
use Rattle.mmtel_transaction.specs.Results.{hear_result, tkey}
use Rattle.mmtel_transaction.specs.Matching.{matching_key}
use Rattle.mmtel_transaction.specs.Operations.{DidAsk}
use Rattle.mmtel_transaction.specs.declared.words.Heard.TheVariants as heard
use Rattle.mmtel_transaction_examples.specs.CallMessages.{Messages, after_acceptance, after_busy, peer, received_invite, sent_invite}

-- a CANCEL belongs to its INVITE; an ACK to the INVITE with a 486, and to none before that or after a 200; a BYE opens a transaction of its own
pub record RequestsMatch : Type 0 where
  pub cancel : (c : Messages) → matching_key (received_invite c) c.cancel ≡ Some (tkey 0)
  pub cancel_result : (c : Messages) → hear_result (received_invite c) (peer 1) c.cancel ≡ Some (heard.Cancel (tkey 1) (Some (tkey 0)) c.cancel)
  pub lone_cancel : (c : Messages) → matching_key [] c.cancel ≡ None
  pub early_ack : (c : Messages) → matching_key (received_invite c) c.ack ≡ None
  pub ack : (c : Messages) → matching_key (after_busy c) c.ack ≡ Some (tkey 0)
  pub ack_result : (c : Messages) → hear_result (after_busy c) (peer 1) c.ack ≡ Some (heard.Acked (tkey 0))
  pub ack_2xx : (c : Messages) → matching_key (after_acceptance c) c.ack ≡ None
  pub ack_2xx_result : (c : Messages) → hear_result (after_acceptance c) (peer 1) c.ack ≡ Some (heard.AckOf2xx c.ack)
  pub bye : (c : Messages) → matching_key (after_acceptance c) c.bye ≡ None
  pub bye_result : (c : Messages) → hear_result (after_acceptance c) (peer 1) c.bye ≡ Some (heard.Fresh (tkey 1) c.bye)

-- a response belongs to the request that it answers, by branch and method, and to none that was received
pub record ResponsesMatch : Type 0 where
  pub response : (c : Messages) → matching_key (sent_invite c) c.busy ≡ Some (tkey 0)
  pub second : (c : Messages) → matching_key (DidAsk (peer 2) c.options 0 ∷ sent_invite c) c.options_success ≡ Some (tkey 1)
  pub other_branch : (c : Messages) → matching_key (sent_invite c) c.options_success ≡ None
  pub not_received : (c : Messages) → matching_key (received_invite c) c.busy ≡ None
  pub stray : (c : Messages) → hear_result (received_invite c) (peer 2) c.busy ≡ Some heard.Stray

-- Texts that are due to a trusted peer, and the peers of transactions.
use Rattle.std.specs.Prelude.{◌≡◌, ◌==◌, Bool, false, List, [], ◌∷◌, Some, None}
use Rattle.mmtel_types.specs.declared.numbers.Peer.{Peer}
use Rattle.mmtel_message.specs.Texts.{message_text}
use Rattle.mmtel_transaction.specs.Equivalence.{Equivalent, blank_due}
use Rattle.mmtel_transaction.specs.Results.{due_result, hear_result, next_due, peer_of, upcoming_of}
use Rattle.mmtel_transaction.specs.Operations.{TransactionOp, DidAsk, DidFire, DidHear, live}
use Rattle.mmtel_transaction.specs.declared.message_class.MessageClass.TheVariants as part
use Rattle.mmtel_transaction.specs.declared.words.Due.TheVariants as due
use Rattle.mmtel_transaction.specs.declared.words.Heard.TheVariants as heard
use Rattle.mmtel_transaction_examples.specs.CallMessages.{Messages, after_busy, peer, received_invite, sent_invite}

abbrev pub trusts_two : Peer → Bool
trusts_two p = p.0 == 2

abbrev pub trusts_none : Peer → Bool
trusts_none p = false

-- two INVITEs with the same head, each sent to peer 2: equivalent where peer 2 is trusted; where it is not, only if their texts are equal
pub record TextsExample : Type 0 where
  pub equivalent : (c d : Messages) → Equivalent trusts_two (sent_invite c) (sent_invite d)
  pub deadline : (c : Messages) → upcoming_of (next_due 40000 (live (sent_invite c))) ≡ Some (500, 0)
  pub reports : (c : Messages) → due_result (next_due 500 (live (sent_invite c))) ≡ due.Again (peer 2) 500 (message_text c.invite)
  pub without : (c : Messages) → blank_due trusts_two (due_result (next_due 500 (live (sent_invite c)))) ≡ due.Again (peer 2) 500 []
  pub strangers : (c d : Messages) → Equivalent trusts_none (sent_invite c) (sent_invite d) → message_text c.invite ≡ message_text d.invite

-- the INVITE of peer 1 is relayed to peer 2
abbrev pub relayed_invite : Messages → List TransactionOp
relayed_invite c = DidAsk (peer 2) c.invite 0 ∷ received_invite c

pub record PeersExample : Type 0 where
  pub caller : (c : Messages) → peer_of 0 (live (relayed_invite c)) ≡ Some (peer 1)
  pub callee : (c : Messages) → peer_of 1 (live (relayed_invite c)) ≡ Some (peer 2)
  pub unopened : (c : Messages) → peer_of 2 (live (relayed_invite c)) ≡ None
  -- with a final it has the same peer, and peer 3 gets nothing for the same request
  pub kept : (c : Messages) → peer_of 0 (live (after_busy c)) ≡ Some (peer 1)
  pub retransmission : (c : Messages) → hear_result (after_busy c) (peer 1) c.invite ≡ Some (heard.Repeat (Some (peer 1, message_text c.busy)))
  pub stranger : (c : Messages) → hear_result (after_busy c) (peer 3) c.invite ≡ Some (heard.Repeat None)
  -- once it ended it has no peer
  pub ended : (c : Messages) → peer_of 0 (live (DidFire 0 ∷ DidHear (peer 1) c.ack 400 (part.Acked 0) ∷ after_busy c)) ≡ None

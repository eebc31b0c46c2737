-- Requests and finals that wait, among other operations (RFC 3261 §13.3.1.4, §17.1.1.2, §17.1.1.3, §17.2.1; RFC 3262 §3): T1 is 500 ms, T2 is 4,000 ms.
use Rattle.std.specs.Prelude.{◌≡◌, ℕ, zero, suc, List, ◌∷◌, codes, Some, None}
use Rattle.mmtel_message.specs.Texts.{message_text}
use Rattle.mmtel_transaction.specs.Results.{due_result, hear_result, next_due, tkey}
use Rattle.mmtel_transaction.specs.Operations.{TransactionOp, DidAck, DidAsk, DidFire, DidHear, DidReply, DidSettle, live}
use Rattle.mmtel_transaction.specs.Heads.{reliable_number}
use Rattle.mmtel_transaction.specs.declared.message_class.MessageClass.TheVariants as part
use Rattle.mmtel_transaction.specs.declared.words.Due.{Due}
use Rattle.mmtel_transaction.specs.declared.words.Due.TheVariants as due
use Rattle.mmtel_transaction.specs.declared.words.Heard.TheVariants as heard
use Rattle.mmtel_transaction_examples.specs.CallMessages.{Messages, after_acceptance, after_busy, peer, received_invite, sent_invite}

-- the result of the first deadline that is not later than 40,000
abbrev pub first_due : List TransactionOp → Due
first_due h = due_result (next_due 40000 (live h))

-- the deadline of transaction 0 fired so often
abbrev pub after_firings_of_first : ℕ → List TransactionOp → List TransactionOp
after_firings_of_first zero h = h
after_firings_of_first (suc n) h = DidFire 0 ∷ after_firings_of_first n h

-- the INVITE is sent to peer 2 at 0 and an OPTIONS to peer 3 at 200
abbrev pub invite_and_options : Messages → List TransactionOp
invite_and_options c = DidAsk (peer 3) c.options 200 ∷ sent_invite c

-- the OPTIONS is answered at 600, once the INVITE was retransmitted
abbrev pub after_options_response : Messages → List TransactionOp
after_options_response c = DidHear (peer 3) c.options_success 600 (part.Answer 1) ∷ DidFire 0 ∷ invite_and_options c

abbrev pub invite_retransmission : Messages → ℕ → Due
invite_retransmission c at = due.Again (peer 2) at (message_text c.invite)

-- the INVITE follows its own moments, whatever becomes of the OPTIONS, and times out at 32,000
pub record InviteAmongOthers : Type 0 where
  pub first : (c : Messages) → first_due (invite_and_options c) ≡ invite_retransmission c 500
  pub other : (c : Messages) → first_due (DidFire 0 ∷ invite_and_options c) ≡ due.Again (peer 3) 700 (message_text c.options)
  pub second : (c : Messages) → first_due (after_options_response c) ≡ invite_retransmission c 1500
  pub third : (c : Messages) → first_due (after_firings_of_first 1 (after_options_response c)) ≡ invite_retransmission c 3500
  pub last : (c : Messages) → first_due (after_firings_of_first 4 (after_options_response c)) ≡ invite_retransmission c 31500
  pub timed_out : (c : Messages) → first_due (after_firings_of_first 5 (after_options_response c)) ≡ due.Silent (tkey 0) (codes "i") (codes "INVITE") 32000
  pub nothing : (c : Messages) → first_due (after_firings_of_first 6 (after_options_response c)) ≡ due.Nothing
  -- after a provisional response it waits for no deadline
  pub rings : (c : Messages) → first_due (DidHear (peer 2) c.ringing 300 (part.Answer 0) ∷ sent_invite c) ≡ due.Nothing

abbrev pub busy_retransmission : Messages → ℕ → Due
busy_retransmission c at = due.Again (peer 1) at (message_text c.busy)

-- the 486 follows its moments until its ACK is received; without it its transaction ends 32,000 later, with it 5,000 after it
pub record FinalAwaitsAck : Type 0 where
  pub first : (c : Messages) → first_due (after_busy c) ≡ busy_retransmission c 800
  pub second : (c : Messages) → first_due (after_firings_of_first 1 (after_busy c)) ≡ busy_retransmission c 1800
  pub last : (c : Messages) → first_due (after_firings_of_first 9 (after_busy c)) ≡ busy_retransmission c 31800
  pub over : (c : Messages) → first_due (after_firings_of_first 10 (after_busy c)) ≡ due.Over (tkey 0) 32300
  pub acked : (c : Messages) → first_due (DidHear (peer 1) c.ack 1000 (part.Acked 0) ∷ after_firings_of_first 1 (after_busy c)) ≡ due.Over (tkey 0) 6000
  pub second_ack : (c : Messages) → first_due (DidHear (peer 1) c.ack 2000 (part.Acked 0) ∷ DidHear (peer 1) c.ack 1000 (part.Acked 0) ∷ after_busy c) ≡ due.Over (tkey 0) 6000

-- the ACK of a 200, of another branch, ends its retransmission and does not move its end; and the ACK of a 486 that was received is sent again for each retransmission of it
pub record AcksReceivedAndKept : Type 0 where
  pub success : (c : Messages) → first_due (after_acceptance c) ≡ due.Again (peer 1) 800 (message_text c.success)
  pub acked : (c : Messages) → first_due (DidHear (peer 1) c.ack_2xx 1000 part.AckOf2xx ∷ after_acceptance c) ≡ due.Over (tkey 0) 32300
  pub kept : (c : Messages) → hear_result (DidAck 0 c.ack ∷ DidHear (peer 2) c.busy 300 (part.Answer 0) ∷ sent_invite c) (peer 2) c.busy
      ≡ Some (heard.Repeat (Some (peer 2, message_text c.ack)))

-- the 180 is sent at 100 as the reliable response 1 (RFC 3262 §3)
abbrev pub after_reliable_ringing : Messages → List TransactionOp
after_reliable_ringing c = DidReply 0 c.ringing 100 ∷ received_invite c

abbrev pub IsFirst : Messages → Type 0
IsFirst c = reliable_number c.ringing ≡ Some 1

abbrev pub ringing_retransmission : Messages → ℕ → Due
ringing_retransmission c at = due.Again (peer 1) at (message_text c.ringing)

-- it follows the moments of an INVITE until it is settled, and the settling of another one does not change it; after a final the final alone is retransmitted
pub record ReliableAwaitsPrack : Type 0 where
  pub first : (c : Messages) → IsFirst c → first_due (after_reliable_ringing c) ≡ ringing_retransmission c 600
  pub second : (c : Messages) → IsFirst c → first_due (DidFire 0 ∷ after_reliable_ringing c) ≡ ringing_retransmission c 1600
  pub settled : (c : Messages) → IsFirst c → first_due (DidSettle 0 (Some 1) ∷ after_reliable_ringing c) ≡ due.Nothing
  pub other : (c : Messages) → IsFirst c → first_due (DidSettle 0 (Some 2) ∷ after_reliable_ringing c) ≡ ringing_retransmission c 600
  pub all : (c : Messages) → IsFirst c → first_due (DidSettle 0 None ∷ after_reliable_ringing c) ≡ due.Nothing
  pub final : (c : Messages) → IsFirst c → first_due (DidReply 0 c.busy 300 ∷ after_reliable_ringing c) ≡ busy_retransmission c 800
  -- one that is not reliable is not retransmitted
  pub plain : (c : Messages) → reliable_number c.ringing ≡ None → first_due (after_reliable_ringing c) ≡ due.Nothing

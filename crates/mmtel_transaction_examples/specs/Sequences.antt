-- Worked sequences of operations: a retransmitted INVITE and its final, and a timeout.
use Rattle.std.specs.Prelude.{◌≡◌, ℕ, ◌++◌, List, [], ◌∷◌, codes, Option, Some, None}
use Rattle.mmtel_types.specs.declared.numbers.Peer.{Peer}
use Rattle.mmtel_message.specs.Message.{Message}
use Rattle.mmtel_message.specs.Texts.{message_text}
use Rattle.mmtel_message.specs.declared.messages.Start.{Start}
use Rattle.mmtel_message.specs.declared.messages.Start.TheVariants.{Request, Status}
use Rattle.mmtel_transaction.specs.Operations.{TransactionOp, DidAck, DidAsk, DidFire, DidHear, DidReply, live}
use Rattle.mmtel_transaction.specs.Results.{due_result, hear_result, next_due, tkey}
use Rattle.mmtel_transaction.specs.Theorems.{results_in_turn, retransmission}
use Rattle.mmtel_transaction.specs.declared.message_class.MessageClass.TheVariants as part
use Rattle.mmtel_transaction.specs.declared.words.Due.TheVariants as due
use Rattle.mmtel_transaction.specs.declared.words.Heard.{Heard}
use Rattle.mmtel_transaction.specs.declared.words.Heard.TheVariants as heard

-- a message of this start line, branch and CSeq method
abbrev pub message_with : Start → List ℕ → List ℕ → Message Start
message_with start branch method = record {
  start = start;
  lines = (codes "Via", codes "SIP/2.0/UDP a;branch=" ++ branch) ∷ (codes "From", codes "<sip:a@h>;tag=a")
      ∷ (codes "To", codes "<sip:b@h>;tag=b") ∷ (codes "Call-ID", codes "c") ∷ (codes "CSeq", codes "1 " ++ method) ∷ [];
  body = [];
}

abbrev pub request : List ℕ → List ℕ → Message Start
request method branch = message_with (Request method (codes "sip:b@h")) branch method

abbrev pub response : ℕ → List ℕ → Message Start
response status branch = message_with (Status status (codes "X")) branch (codes "INVITE")

abbrev pub peer : ℕ → Peer
peer n = record { 0 = n }

-- timeout: an INVITE to peer 1 that gets no response, up to 40,000 ms; it times out at 32,000
abbrev pub first_invite : Message Start
first_invite = request (codes "INVITE") (codes "a")

abbrev pub second_invite : Message Start
second_invite = request (codes "INVITE") (codes "b")

abbrev pub Timeout : Type 0
Timeout = results_in_turn 8 40000 (DidAsk (peer 1) first_invite 0 ∷ []) ≡ retransmission (peer 1) first_invite 0 500 ∷ retransmission (peer 1) first_invite 0 1500
    ∷ retransmission (peer 1) first_invite 0 3500 ∷ retransmission (peer 1) first_invite 0 7500 ∷ retransmission (peer 1) first_invite 0 15500
    ∷ retransmission (peer 1) first_invite 0 31500 ∷ due.Silent (tkey 0) (codes "a") (codes "INVITE") 32000 ∷ due.Nothing ∷ []

-- and another one that is sent to peer 2 then
abbrev pub SecondTimeout : Type 0
SecondTimeout = results_in_turn 5 40000 (DidAsk (peer 2) second_invite 32000 ∷ [])
    ≡ retransmission (peer 2) second_invite 32000 500 ∷ retransmission (peer 2) second_invite 32000 1500
    ∷ retransmission (peer 2) second_invite 32000 3500 ∷ retransmission (peer 2) second_invite 32000 7500 ∷ due.Nothing ∷ []

-- a retransmitted INVITE and its final: the INVITE of peer 1, which is relayed to peer 2
abbrev pub after_invite : List TransactionOp
after_invite = DidAsk (peer 2) second_invite 0 ∷ DidReply 0 (response 100 (codes "a")) 0 ∷ DidHear (peer 1) first_invite 0 part.Fresh ∷ []

-- peer 2 rings at 100
abbrev pub after_ringing : List TransactionOp
after_ringing = DidReply 0 (response 180 (codes "a")) 100 ∷ DidHear (peer 2) (response 180 (codes "b")) 100 (part.Answer 1) ∷ after_invite

-- the INVITE is received again at 200, peer 2 refuses at 300
abbrev pub after_refusal : List TransactionOp
after_refusal = DidReply 0 (response 486 (codes "a")) 300 ∷ DidAck 1 (request (codes "ACK") (codes "b")) ∷ DidHear (peer 2) (response 486 (codes "b")) 300 (part.Answer 1)
    ∷ DidHear (peer 1) first_invite 200 (part.Repeat 0) ∷ after_ringing

-- the INVITE is received again at 350, its ACK at 400
abbrev pub after_acknowledging : List TransactionOp
after_acknowledging = DidHear (peer 1) (request (codes "ACK") (codes "a")) 400 (part.Acked 0) ∷ DidHear (peer 1) first_invite 350 (part.Repeat 0) ∷ after_refusal

abbrev pub retransmission_of : ℕ → Option Heard
retransmission_of status = Some (heard.Repeat (Some (peer 1, message_text (response status (codes "a")))))

-- the INVITE opens a transaction; received again, it gets the 180, then the 486, and nothing after the ACK
pub record RetransmittedInvite : Type 0 where
  pub opens : hear_result [] (peer 1) first_invite ≡ Some (heard.Fresh (tkey 0) first_invite)
  pub ringing_again : hear_result after_ringing (peer 1) first_invite ≡ retransmission_of 180
  pub refused_again : hear_result after_refusal (peer 1) first_invite ≡ retransmission_of 486
  pub nothing_again : hear_result after_acknowledging (peer 1) first_invite ≡ Some (heard.Repeat None)

-- the operations on the caller's side alone, up to the ACK
abbrev pub callers_side : List TransactionOp
callers_side = DidHear (peer 1) (request (codes "ACK") (codes "a")) 400 (part.Acked 0) ∷ DidReply 0 (response 486 (codes "a")) 300
    ∷ DidHear (peer 1) first_invite 0 part.Fresh ∷ []

-- after the ACK the transaction ends at 5,400, and not before
pub record EndsAfterTheAck : Type 0 where
  pub waits : due_result (next_due 5399 (live callers_side)) ≡ due.Nothing
  pub ends : due_result (next_due 5400 (live callers_side)) ≡ due.Over (tkey 0) 5400
  pub opens : hear_result (DidFire 0 ∷ callers_side) (peer 1) first_invite ≡ Some (heard.Fresh (tkey 1) first_invite)

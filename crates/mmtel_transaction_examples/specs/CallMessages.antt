-- The messages of one call, by what is read of them alone: whatever else they contain, the examples hold of them (RFC 3261 §7.1, §8.1.1).
use Rattle.std.specs.Prelude.{◌≡◌, ℕ, true, false, List, [], ◌∷◌, codes}
use Rattle.mmtel_types.specs.declared.numbers.Peer.{Peer}
use Rattle.mmtel_message.specs.Message.{Message}
use Rattle.mmtel_message.specs.declared.messages.Start.{Start}
use Rattle.mmtel_transaction.specs.Operations.{TransactionOp, DidAsk, DidHear, DidReply}
use Rattle.mmtel_transaction.specs.Heads.{head_of}
use Rattle.mmtel_transaction.specs.declared.heads.Head.{Head}
use Rattle.mmtel_transaction.specs.declared.message_class.MessageClass.TheVariants as part

abbrev pub peer : ℕ → Peer
peer n = record { 0 = n }

-- a request of this method, branch and To tag
abbrev pub request : List ℕ → List ℕ → List ℕ → Head
request method branch to = record {
  is_request = true;
  status = 0;
  method = method;
  branch = branch;
  sent_by = codes "h";
  from_tag = codes "f";
  to_tag = to;
  call_id = codes "c";
  number = 1;
}

-- a response of this status to the request of this method and branch
abbrev pub response : ℕ → List ℕ → List ℕ → Head
response status method branch =
    record {
      is_request = false;
      status = status;
      method = method;
      branch = branch;
      sent_by = codes "h";
      from_tag = codes "f";
      to_tag = codes "t";
      call_id = codes "c";
      number = 1;
    }

-- an INVITE, its responses, its ACK and its CANCEL; an OPTIONS and its response; a BYE
pub record Messages : Type 0 where
  pub invite : Message Start
  pub of_invite : head_of invite ≡ request (codes "INVITE") (codes "i") []
  pub ringing : Message Start
  pub of_ringing : head_of ringing ≡ response 180 (codes "INVITE") (codes "i")
  pub busy : Message Start
  pub of_busy : head_of busy ≡ response 486 (codes "INVITE") (codes "i")
  pub success : Message Start
  pub of_success : head_of success ≡ response 200 (codes "INVITE") (codes "i")
  pub ack : Message Start
  pub of_ack : head_of ack ≡ request (codes "ACK") (codes "i") (codes "t")
  pub ack_2xx : Message Start
  pub of_ack_2xx : head_of ack_2xx ≡ request (codes "ACK") (codes "a") (codes "t")
  pub cancel : Message Start
  pub of_cancel : head_of cancel ≡ request (codes "CANCEL") (codes "i") []
  pub options : Message Start
  pub of_options : head_of options ≡ request (codes "OPTIONS") (codes "o") []
  pub options_success : Message Start
  pub of_options_success : head_of options_success ≡ response 200 (codes "OPTIONS") (codes "o")
  pub bye : Message Start
  pub of_bye : head_of bye ≡ request (codes "BYE") (codes "b") (codes "t")

-- the INVITE is received from peer 1, and answered at 300
abbrev pub received_invite : Messages → List TransactionOp
received_invite c = DidHear (peer 1) c.invite 0 part.Fresh ∷ []

abbrev pub after_busy : Messages → List TransactionOp
after_busy c = DidReply 0 c.busy 300 ∷ received_invite c

abbrev pub after_acceptance : Messages → List TransactionOp
after_acceptance c = DidReply 0 c.success 300 ∷ received_invite c

-- it is sent to peer 2
abbrev pub sent_invite : Messages → List TransactionOp
sent_invite c = DidAsk (peer 2) c.invite 0 ∷ []

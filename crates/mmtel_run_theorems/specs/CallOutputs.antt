-- What a call outputs is sent by the server: its requests and its ACKs of 2xx to the peer, and its responses by the server transaction to the peer of that
-- (RFC 3261 §17, §18); and the transaction stops the retransmission of a reliable response (RFC 3262 §3).
use Rattle.std.specs.Prelude.{◌≡◌, ℕ, ◌==◌, true, false, List, ◌∷◌, ◌++◌, Some}
use Rattle.mmtel_call_theorems.specs.CallTrace.{TraceStart}
use Rattle.mmtel_message.specs.Message.{Message}
use Rattle.mmtel_message.specs.Texts.{message_text}
use Rattle.mmtel_message.specs.declared.messages.Start.{Start as StartLine}
use Rattle.mmtel_environment.specs.declared.events.Offer.TheVariants as offer
use Rattle.mmtel_transaction.specs.Results.{peer_of}
use Rattle.mmtel_transaction.specs.Operations.{TransactionOp, DidAck, DidReply, DidSettle, live}
use Rattle.mmtel_transaction.specs.Heads.{head_of, is_provisional}
use Rattle.mmtel_transaction.specs.declared.words.Emit.{Emit}
use Rattle.mmtel_transaction.specs.declared.words.Emit.TheVariants as emit
use Rattle.mmtel_trust.specs.Members.{IsIn}
use Rattle.mmtel_types.specs.declared.numbers.Peer.{Peer}
use Rattle.mmtel_run_definitions.specs.Transitions.{RunState}

-- a text is sent to a peer, at some moment
abbrev pub IsOfferedTo : RunState → Peer → List ℕ → Type 0
IsOfferedTo state peer text = (at : ℕ) × IsIn (offer.To peer at text) state.offers

-- a message was handed to the transaction of this number by this operation on the transactions, which comes after these; where that transaction was live then, the message is
-- sent to its peer
pub record IsHandedOver (state : RunState) (key : ℕ) (message : Message StartLine) (call : TransactionOp) : Type 0 where
  pub newer : List TransactionOp
  pub older : List TransactionOp
  pub done : state.actions ≡ newer ++ call ∷ older
  pub offered : (peer : Peer) → peer_of key (live older) ≡ Some peer → IsOfferedTo state peer (message_text message)

-- this holds for each message that is sent
abbrev pub GoesOut : RunState → Emit → Type 0
GoesOut state (emit.Ask peer message) = IsOfferedTo state peer (message_text message)
GoesOut state (emit.Reply key message) = (at : ℕ) × IsHandedOver state key.0 message (DidReply key.0 message at)
GoesOut state (emit.Plain peer text) = IsOfferedTo state peer text
GoesOut state (emit.Ack key message) = IsHandedOver state key.0 message (DidAck key.0 message)
GoesOut state (emit.Settled key own) = IsIn (DidSettle key.0 own) state.actions
GoesOut state (emit.Arm call what at) = Unit {0}
GoesOut state (emit.ArmSeat room seat what at) = Unit {0}

-- and a final response in the transaction of the INVITE that opened the call is sent to the peer that sent that INVITE
abbrev pub FinalIsSent : RunState → TraceStart → Emit → Type 0
FinalIsSent state s (emit.Ask peer message) = Unit {0}
FinalIsSent state s (emit.Reply key message) =
    (key.0 == s.arrival.key.0) ≡ true → is_provisional (head_of message).status ≡ false → IsOfferedTo state s.arrival.invite.peer (message_text message)
FinalIsSent state s (emit.Plain peer text) = Unit {0}
FinalIsSent state s (emit.Ack key message) = Unit {0}
FinalIsSent state s (emit.Settled key own) = Unit {0}
FinalIsSent state s (emit.Arm call what at) = Unit {0}
FinalIsSent state s (emit.ArmSeat room seat what at) = Unit {0}

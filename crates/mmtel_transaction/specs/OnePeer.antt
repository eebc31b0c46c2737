-- Each transaction has one peer: the one that sent its request, or the one to which its request was sent (RFC 3261 §17).
use Rattle.std.specs.Prelude.{◌≡◌, ◌<◌, ℕ, List, ◌∷◌, ◌++◌, length, Some}
use Rattle.mmtel_types.specs.declared.numbers.Peer.{Peer}
use Rattle.mmtel_message.specs.Message.{Message}
use Rattle.mmtel_message.specs.declared.messages.Start.{Start}
use Rattle.mmtel_transaction.specs.Operations.{TransactionOp, DidAsk, DidHear, live, openings}
use Rattle.mmtel_transaction.specs.Results.{peer_of}
use Rattle.mmtel_transaction.specs.declared.message_class.MessageClass.TheVariants as part

-- a new request that is received opens a transaction whose peer is the one that sent it
abbrev pub NewPeers : Type 0
NewPeers = (h : List TransactionOp) (p : Peer) (m : Message Start) (now : ℕ) → peer_of (length (openings h)) (live (DidHear p m now part.Fresh ∷ h)) ≡ Some p

-- a request that is sent opens a transaction whose peer is the one to which it is sent
abbrev pub RequestPeers : Type 0
RequestPeers = (h : List TransactionOp) (p : Peer) (m : Message Start) (now : ℕ) → peer_of (length (openings h)) (live (DidAsk p m now ∷ h)) ≡ Some p

-- and an opened transaction has that peer for as long as it is live, whatever is called
abbrev pub KeepsPeers : Type 0
KeepsPeers = (h g : List TransactionOp) (key : ℕ) (p : Peer) → key < length (openings h) → peer_of key (live (g ++ h)) ≡ Some p → peer_of key (live h) ≡ Some p

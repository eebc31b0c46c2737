-- The server transaction of the INVITE that opened a call is live until a final response is sent in it, so the responses of the call go to its sender (RFC 3261 §17.2.1).
use Rattle.std.specs.Prelude.{◌≡◌, ℕ, ◌==◌, ◌&&◌, not, Bool, false, Some}
use Rattle.std.specs.List.{list_any}
use Rattle.mmtel_call_theorems.specs.CallTrace.{TraceStart}
use Rattle.mmtel_run_definitions.specs.Transitions.{RunState}
use Rattle.mmtel_transaction.specs.Results.{peer_of}
use Rattle.mmtel_transaction.specs.Operations.{TransactionOp, DidAck, DidAsk, DidBegin, DidFire, DidHear, DidReply, DidSettle, live}
use Rattle.mmtel_transaction.specs.Heads.{head_of, is_provisional}

-- a final response is sent in the transaction of this number
abbrev pub is_final_in : (key : ℕ) → TransactionOp → Bool
is_final_in key (DidBegin step) = false
is_final_in key (DidHear p m now taken) = false
is_final_in key (DidAsk p m now) = false
is_final_in key (DidReply other m now) = other == key && not (is_provisional (head_of m).status)
is_final_in key (DidAck other m) = false
is_final_in key (DidFire other) = false
is_final_in key (DidSettle other own) = false

-- that of the INVITE is live, and with the peer that sent it
abbrev pub CanBeResponded : RunState → TraceStart → Type 0
CanBeResponded state s = peer_of s.arrival.key.0 (live state.actions) ≡ Some s.arrival.invite.peer

-- as long as no final response was sent in it
abbrev pub AwaitsItsFinal : RunState → TraceStart → Type 0
AwaitsItsFinal state s = list_any (is_final_in s.arrival.key.0) state.actions ≡ false → CanBeResponded state s

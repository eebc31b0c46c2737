-- Decisions about a request: to what an ACK belongs (RFC 3261 §13.2.2.4) and how long a 2xx waits for it (§13.3.1.4), the status of a request for which the step table has no
-- transition (§11.2, §12.2.2), and whether a retransmission gets the response again (§17.2.1, §17.2.2; RFC 6026 §7.1).
use Rattle.std.specs.Prelude.{ℕ, ◌==◌, ◌&&◌, not, Bool, true, false, if◌then◌else◌, Option, Some, None, List, codes}
use Rattle.std.specs.Str.{bytes_eq}
use Rattle.mmtel_types.specs.declared.numbers.Peer.{Peer}
use Rattle.mmtel_types.specs.declared.sides.Side.{Side}
use Rattle.mmtel_types.specs.declared.sides.Side.TheVariants.{Caller, Callee}

abbrev pub is_same_side : Side → Side → Bool
is_same_side Caller Caller = true
is_same_side Caller Callee = false
is_same_side Callee Caller = false
is_same_side Callee Callee = true

abbrev pub is_number : ℕ → Option ℕ → Bool
is_number n None = false
is_number n (Some m) = n == m

abbrev pub is_same_number : Option ℕ → Option ℕ → Bool
is_same_number None other = false
is_same_number (Some n) other = is_number n other

-- for how many milliseconds a 2xx waits for its ACK (§13.3.1.4: 64 times T1)
abbrev pub ack_time : ℕ
ack_time = 32000

-- an ACK of this side with this number belongs to the 2xx that waits for one from that side, to an INVITE with the number that is due
abbrev pub is_ack_of : (waiting : Side) → (due : Option ℕ) → (side : Side) → (number : Option ℕ) → Bool
is_ack_of waiting due side number = is_same_side waiting side && is_same_number number due

-- to OPTIONS, to REFER, which only a conference accepts, and to a request at the wrong time
abbrev pub status_out_of_place : (method : List ℕ) → ℕ
status_out_of_place method = if bytes_eq method (codes "OPTIONS") then 200 else if bytes_eq method (codes "REFER") then 403 else 481

-- a retransmission gets what was sent last, where it comes from the peer that opened the transaction; nothing after the ACK, nor after the 2xx of an INVITE
abbrev pub is_response_retransmitted : (opener asker : Peer) → (acked succeeded : Bool) → Bool
is_response_retransmitted opener asker acked succeeded = asker.0 == opener.0 && not acked && not succeeded

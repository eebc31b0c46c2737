-- Reliable provisional responses that are relayed from the callees of a call to its caller (RFC 3262 §3, §4): each gets a number of the server's own, and is to be acknowledged.
use Rattle.std.specs.Prelude.{◌==◌, ◌&&◌, ◌+◌, Bool, true, nat_lt, if◌then◌else◌, ℕ, List, [], ◌∷◌, ◌++◌, length, drop, Option, Some, None, is_some}
use Rattle.std.specs.List.{list_any}
use Rattle.std.specs.Option.{option_map}
use Rattle.mmtel_reliable.specs.Racks.{greatest_number}
use Rattle.mmtel_reliable.specs.declared.racks.Rack.{Rack}
use Rattle.mmtel_reliable.specs.declared.acks.ReliableResponse.{ReliableResponse}

-- the responses to one INVITE of a caller, as far as they were relayed
pub record AcksView : Type 0 where
  -- the CSeq number of that INVITE
  pub cseq : ℕ
  -- how many own numbers were used, which are 1, 2, 3 and so on
  pub assigned : ℕ
  -- the callee's number of the last response of this attempt
  pub last_relayed : Option ℕ
  -- the responses of this attempt that are not acknowledged, the oldest first
  pub waiting : List ReliableResponse

-- one of these responses has this own number
abbrev pub has_own : ℕ → List ReliableResponse → Bool
has_own own = list_any (λ answer. answer.own == own)

-- none was relayed
abbrev pub no_responses : ℕ → AcksView
no_responses cseq = record { cseq = cseq; assigned = 0; last_relayed = None; waiting = [] }

-- how many responses may wait at most (RFC 3262 leaves it to whoever relays them)
abbrev pub most_waiting : ℕ
most_waiting = 16

-- ---- a response of the callee

-- the callee's number is that of its next response (§4): its first may have any
abbrev pub comes_next : ℕ → Option ℕ → Bool
comes_next rseq None = true
comes_next rseq (Some last) = rseq == last + 1

-- the own number of the callee's response of this number; None where it is not its next one, where too many wait, or where the numbers are exhausted
abbrev pub own_number : ℕ → AcksView → Option ℕ
own_number rseq acks =
    if comes_next rseq acks.last_relayed && nat_lt (length acks.waiting) most_waiting && nat_lt acks.assigned greatest_number then Some (acks.assigned + 1) else None

abbrev pub with_response : ℕ → Option ℕ → AcksView → AcksView
with_response rseq None acks = acks
with_response rseq (Some own) acks =
    record acks { assigned = own; last_relayed = Some rseq; waiting = acks.waiting ++ (record { own = own; callee = rseq }) ∷ [] }

abbrev pub after_relay : ℕ → AcksView → AcksView
after_relay rseq acks = with_response rseq (own_number rseq acks) acks

-- ---- a PRACK of the caller

-- it acknowledges this response to the INVITE of this CSeq number (§3)
abbrev pub is_acknowledged_by : Rack → ℕ → ReliableResponse → Bool
is_acknowledged_by rack cseq answer = rack.answer == answer.own && rack.cseq == cseq && rack.invite

-- the response that it acknowledges, which is the one that has waited longest
abbrev pub response_acknowledged_by : Rack → ℕ → List ReliableResponse → Option ReliableResponse
response_acknowledged_by rack cseq [] = None
response_acknowledged_by rack cseq (first ∷ rest) = if is_acknowledged_by rack cseq first then Some first else None

-- the callee's number of that response
abbrev pub callee_number : Rack → AcksView → Option ℕ
callee_number rack acks = option_map (λ answer. answer.callee) (response_acknowledged_by rack acks.cseq acks.waiting)

abbrev pub after_ack : Rack → AcksView → AcksView
after_ack rack acks = if is_some (response_acknowledged_by rack acks.cseq acks.waiting) then record acks { waiting = drop 1 acks.waiting } else acks

-- ---- the next attempt of the call

-- no response waits, since those of an attempt that was left are of no use; own numbers continue, since the caller has one dialog whichever callee is called (§3)
abbrev pub next_attempt : AcksView → AcksView
next_attempt acks = record acks { last_relayed = None; waiting = [] }

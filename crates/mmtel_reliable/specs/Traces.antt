-- All that was done on the reliable responses of a call, derived from the list of operations: what was relayed and acknowledged in each attempt (RFC 3262 §3, §4).
use Rattle.std.specs.Prelude.{◌≡◌, ◌+◌, Bool, false, true, not, suc, zero, ℕ, List, [], ◌∷◌, ◌++◌, length, map, Option, Some, None, IfSome}
use Rattle.std.specs.List.{filter, AllByRecursion}
use Rattle.mmtel_reliable.specs.Acks.{AcksView, has_own, own_number, response_acknowledged_by}
use Rattle.mmtel_reliable.specs.declared.racks.Rack.{Rack}
use Rattle.mmtel_reliable.specs.declared.acks.ReliableResponse.{ReliableResponse}

-- the operations on them
pub data AcksOperation : Type 0 where
  -- the callee sent a response, with this number
  Relays : (rseq : ℕ) → AcksOperation
  -- the caller sent a PRACK
  Acknowledges : (rack : Rack) → AcksOperation
  -- the attempt was left
  LeavesAttempt : AcksOperation

-- the result of an operation
pub data Event : Type 0 where
  Relayed : (answer : ReliableResponse) → Event
  Acknowledged : (answer : ReliableResponse) → Event
  AttemptLeft : Event

-- ---- what a list of events says, with the newest first; responses are in order, the oldest first

-- all responses that were relayed
abbrev pub relayed_responses : List Event → List ReliableResponse
relayed_responses [] = []
relayed_responses (Relayed answer ∷ events) = relayed_responses events ++ answer ∷ []
relayed_responses (Acknowledged answer ∷ events) = relayed_responses events
relayed_responses (AttemptLeft ∷ events) = relayed_responses events

-- those of them that were relayed in the attempt that is under way
abbrev pub responses_of_attempt : List Event → List ReliableResponse
responses_of_attempt [] = []
responses_of_attempt (Relayed answer ∷ events) = responses_of_attempt events ++ answer ∷ []
responses_of_attempt (Acknowledged answer ∷ events) = responses_of_attempt events
responses_of_attempt (AttemptLeft ∷ events) = []

-- the callee's number of the last of these
abbrev pub last_number : List Event → Option ℕ
last_number [] = None
last_number (Relayed answer ∷ events) = Some answer.callee
last_number (Acknowledged answer ∷ events) = last_number events
last_number (AttemptLeft ∷ events) = None

-- all responses that were acknowledged
abbrev pub acknowledged_responses : List Event → List ReliableResponse
acknowledged_responses [] = []
acknowledged_responses (Relayed answer ∷ events) = acknowledged_responses events
acknowledged_responses (Acknowledged answer ∷ events) = acknowledged_responses events ++ answer ∷ []
acknowledged_responses (AttemptLeft ∷ events) = acknowledged_responses events

abbrev pub is_acknowledged : List Event → ReliableResponse → Bool
is_acknowledged events answer = has_own answer.own (acknowledged_responses events)

-- the responses of the attempt that were not
abbrev pub unacknowledged_responses : List Event → List ReliableResponse
unacknowledged_responses events = filter (λ answer. not (is_acknowledged events answer)) (responses_of_attempt events)

-- the responses to the INVITE of this CSeq number, as these events leave them
abbrev pub acks_after : ℕ → List Event → AcksView
acks_after cseq events =
    record { cseq = cseq; assigned = length (relayed_responses events); last_relayed = last_number events; waiting = unacknowledged_responses events }

-- ---- the results of operations, the newest first

abbrev pub events_with_relay : ℕ → Option ℕ → List Event → List Event
events_with_relay rseq None events = events
events_with_relay rseq (Some own) events = Relayed (record { own = own; callee = rseq }) ∷ events

abbrev pub events_with_ack : Option ReliableResponse → List Event → List Event
events_with_ack None events = events
events_with_ack (Some answer) events = Acknowledged answer ∷ events

abbrev pub events_with_operation : ℕ → AcksOperation → List Event → List Event
events_with_operation cseq (Relays rseq) events = events_with_relay rseq (own_number rseq (acks_after cseq events)) events
events_with_operation cseq (Acknowledges rack) events = events_with_ack (response_acknowledged_by rack cseq (unacknowledged_responses events)) events
events_with_operation cseq LeavesAttempt events = AttemptLeft ∷ events

abbrev pub events_of : ℕ → List AcksOperation → List Event
events_of cseq [] = []
events_of cseq (op ∷ ops) = events_with_operation cseq op (events_of cseq ops)

-- the state of the responses is what these operations lead to
pub record Represents (acks : AcksView) (ops : List AcksOperation) : Type 0 where
  pub state : acks ≡ acks_after acks.cseq (events_of acks.cseq ops)

-- ---- what is true of the events of every list of operations

-- the numbers 1, 2, 3 and so on, up to this one
abbrev pub numbers_up_to : ℕ → List ℕ
numbers_up_to zero = []
numbers_up_to (suc n) = numbers_up_to n ++ (n + 1) ∷ []

abbrev pub own_numbers : List ReliableResponse → List ℕ
own_numbers = map (λ answer. answer.own)

-- each response has the callee's number after that of the one before it in its attempt
abbrev pub AreConsecutive : List Event → Type 0
AreConsecutive [] = Unit {0}
AreConsecutive (Relayed answer ∷ events) = IfSome (last_number events) (λ last. answer.callee ≡ last + 1) × AreConsecutive events
AreConsecutive (Acknowledged answer ∷ events) = AreConsecutive events
AreConsecutive (AttemptLeft ∷ events) = AreConsecutive events

-- the response belongs to the current attempt, it was not acknowledged, and each that was relayed before it in the attempt was
pub record IsAwaited (events : List Event) (answer : ReliableResponse) : Type 0 where
  pub earlier : List ReliableResponse
  pub later : List ReliableResponse
  pub relayed : responses_of_attempt events ≡ earlier ++ answer ∷ later
  pub waits : is_acknowledged events answer ≡ false
  pub others : AllByRecursion (λ other. is_acknowledged events other ≡ true) earlier

-- each response that was acknowledged was awaited then
abbrev pub AreAwaited : List Event → Type 0
AreAwaited [] = Unit {0}
AreAwaited (Relayed answer ∷ events) = AreAwaited events
AreAwaited (Acknowledged answer ∷ events) = IsAwaited events answer × AreAwaited events
AreAwaited (AttemptLeft ∷ events) = AreAwaited events

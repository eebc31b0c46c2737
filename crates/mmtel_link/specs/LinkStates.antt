-- What is known of a link's inputs and outputs, and the effect of each of its calls. What is not known is absent, before and after.
use Rattle.std.specs.Prelude.{◌≡◌, ◌+◌, ℕ, Bool, true, false, List, [], ◌∷◌, ◌++◌, length, take, drop, min, if◌then◌else◌, Some, None, Ok, Err, OnOk, OnErr, IsErrOf, slice_get}
use Rattle.std.specs.declared.option.Option.{Option}
use Rattle.std.specs.declared.result.Result.{Result}
use Rattle.mmtel_types.specs.declared.numbers.Failed.{Failed}
use Rattle.mmtel_types.specs.declared.addrs.Addr.{Addr}
use Rattle.mmtel_base.specs.Numbers.{next_number}
use Rattle.mmtel_environment.specs.Counts.{fails_by_number}
use Rattle.mmtel_environment.specs.declared.events.Event.{Event}
use Rattle.mmtel_environment.specs.declared.events.Event.TheVariants as event
use Rattle.mmtel_link.specs.declared.links.Arrival.{Arrival}
use Rattle.mmtel_link.specs.declared.links.Arrival.TheVariants as arrival
use Rattle.mmtel_link.specs.declared.links.SendFault.{SendFault}
use Rattle.mmtel_link.specs.declared.links.SendFault.TheVariants as fault
use Rattle.mmtel_link.specs.declared.events.SentDatagram.{SentDatagram}
use Rattle.mmtel_link.specs.declared.events.SentReply.{SentReply}

-- ---- inputs

-- all events, for each that was received so far how many of its bytes were read, and whether reading the last one ended before the end of its bytes
pub record LinkInput : Type 0 where
  pub events : List Event
  pub reads : List ℕ
  pub ended : Bool

-- an event of which so many bytes were read
abbrev pub read_part : ℕ → Event → Event
read_part n (event.Datagram from at bytes) = event.Datagram from at bytes
read_part n (event.Web at bytes) = event.Web at (take n bytes)
read_part n (event.Quiet at) = event.Quiet at

abbrev pub read_events : List Event → List ℕ → List Event
read_events [] reads = []
read_events (e ∷ events) [] = []
read_events (e ∷ events) (n ∷ reads) = read_part n e ∷ read_events events reads

-- the events received so far
abbrev pub received_events : LinkInput → List Event
received_events input = read_events input.events input.reads

-- the next event
abbrev pub next_arrival : LinkInput → Option Event
next_arrival input = slice_get input.events (length input.reads)

-- one event more was received
abbrev pub with_arrival : LinkInput → LinkInput
with_arrival input = record input { reads = input.reads ++ 0 ∷ []; ended = false }

abbrev pub web_bytes : Option Event → List ℕ
web_bytes None = []
web_bytes (Some (event.Datagram from at bytes)) = []
web_bytes (Some (event.Web at bytes)) = bytes
web_bytes (Some (event.Quiet at)) = []

abbrev pub last_or_none : List ℕ → ℕ
last_or_none [] = 0
last_or_none (n ∷ []) = n
last_or_none (n ∷ m ∷ reads) = last_or_none (m ∷ reads)

abbrev pub more_of_last : ℕ → List ℕ → List ℕ
more_of_last k [] = []
more_of_last k (n ∷ []) = (n + k) ∷ []
more_of_last k (n ∷ m ∷ reads) = n ∷ more_of_last k (m ∷ reads)

-- the event that was received last
abbrev pub current : List Event → List ℕ → Option Event
current events [] = None
current events (n ∷ reads) = slice_get events (length reads)

-- the bytes of the connection that have not been read yet
abbrev pub unread : LinkInput → List ℕ
unread input = if input.ended then [] else drop (last_or_none input.reads) (web_bytes (current input.events input.reads))

-- the result is the next event
abbrev pub IsArrival : Option Event → Arrival → Type 0
IsArrival next (arrival.Datagram from at bytes) = next ≡ Some (event.Datagram from at bytes)
IsArrival next (arrival.Web at) = (bytes : List ℕ) × (next ≡ Some (event.Web at bytes))
IsArrival next (arrival.Quiet at) = next ≡ Some (event.Quiet at)
IsArrival next arrival.Closed = next ≡ None
IsArrival next arrival.NoMemory = Unit {0}

-- and it is then received
abbrev pub input_after : LinkInput → Arrival → LinkInput
input_after input (arrival.Datagram from at bytes) = with_arrival input
input_after input (arrival.Web at) = with_arrival input
input_after input (arrival.Quiet at) = with_arrival input
input_after input arrival.Closed = input
input_after input arrival.NoMemory = input

abbrev pub NextOf : LinkInput → Option LinkInput → Result Arrival Failed → Type 0
NextOf input after (Ok a) = IsArrival (next_arrival input) a × (after ≡ Some (input_after input a))
NextOf input after (Err e) = after ≡ Some input

abbrev pub NextIfExposed : Option LinkInput → Option LinkInput → Result Arrival Failed → Type 0
NextIfExposed None after result = after ≡ None
NextIfExposed (Some input) after result = NextOf input after result

-- a read returns as many bytes as there are and fit; one that fails ends the connection
abbrev pub ReadOf : LinkInput → Option LinkInput → List ℕ → List ℕ → Result ℕ Failed → Type 0
ReadOf input after room filled (Ok n) =
    (n ≡ min (length room) (length (unread input))) × (take n filled ≡ take n (unread input))
    × (after ≡ Some (record input { reads = more_of_last n input.reads }))
ReadOf input after room filled (Err e) = after ≡ Some (record input { ended = true })

abbrev pub ReadIfExposed : Option LinkInput → Option LinkInput → List ℕ → List ℕ → Result ℕ Failed → Type 0
ReadIfExposed None after room filled result = after ≡ None
ReadIfExposed (Some input) after room filled result = ReadOf input after room filled result

-- ---- outputs

-- the datagrams and the replies on connections, each with whether it was lost
pub record LinkOutput : Type 0 where
  pub offers : List SentDatagram
  pub replies : List SentReply

abbrev pub with_offer : Addr → List ℕ → Bool → LinkOutput → LinkOutput
with_offer to bytes lost given = record given { offers = given.offers ++ record { to = to; text = bytes; lost = lost } ∷ [] }

abbrev pub with_reply : List ℕ → Bool → LinkOutput → LinkOutput
with_reply bytes lost given = record given { replies = given.replies ++ record { text = bytes; lost = lost } ∷ [] }

-- one more is recorded, by the change for one that was lost or was not; none where memory runs out
abbrev pub DeliversOf : LinkOutput → Option LinkOutput → (Bool → LinkOutput → LinkOutput) → Result (Unit {0}) SendFault → Type 0
DeliversOf given after change (Ok x) = after ≡ Some (change false given)
DeliversOf given after change (Err fault.Failed) = after ≡ Some (change true given)
DeliversOf given after change (Err fault.NoMemory) = after ≡ Some given

abbrev pub DeliversIfExposed : Option LinkOutput → Option LinkOutput → (Bool → LinkOutput → LinkOutput) → Result (Unit {0}) SendFault → Type 0
DeliversIfExposed None after change result = after ≡ None
DeliversIfExposed (Some given) after change result = DeliversOf given after change result

-- ---- its calls

-- the addresses that were bound last, how many calls were made, and the numbers of those that fail
pub record LinkCalls : Type 0 where
  pub bound : Option (Addr × Addr)
  pub calls : ℕ
  pub failing : List ℕ

abbrev pub fails_next : LinkCalls → Bool
fails_next calls = fails_by_number calls.failing calls.calls

abbrev pub with_next_call : LinkCalls → LinkCalls
with_next_call calls = record calls { calls = next_number calls.calls }

-- a call for input fails exactly where its number is one of those that fail, and is counted
abbrev pub IsCountedCall : {T : Type 0} → Option LinkCalls → Option LinkCalls → Result T Failed → Type 0
IsCountedCall None after result = after ≡ None
IsCountedCall (Some calls) after result =
    (after ≡ Some (with_next_call calls)) × OnErr result (fails_next calls ≡ true) × OnOk result (fails_next calls ≡ false)

-- the same for a call that binds
abbrev pub IsCountedBind : {T : Type 0} → Option LinkCalls → Option LinkCalls → Addr → Addr → Result T Failed → Type 0
IsCountedBind None after sip web result = after ≡ None
IsCountedBind (Some calls) after sip web result =
    OnOk result (after ≡ Some (record (with_next_call calls) { bound = Some (sip, web) }))
    × OnErr result (after ≡ Some (with_next_call calls))
    × OnErr result (fails_next calls ≡ true) × OnOk result (fails_next calls ≡ false)

-- the same for a call for output: what is lost is recorded too, which allocates, so it may run out of memory where it would have failed
abbrev pub IsCountedDelivery : {T : Type 0} → Option LinkCalls → Option LinkCalls → Result T SendFault → Type 0
IsCountedDelivery None after result = after ≡ None
IsCountedDelivery (Some calls) after result =
    (after ≡ Some (with_next_call calls)) × (IsErrOf result fault.Failed → fails_next calls ≡ true) × OnOk result (fails_next calls ≡ false)

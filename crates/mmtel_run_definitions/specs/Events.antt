-- The inputs of a run: the record of each event, and what the rules of a run read of it, with its moment. `parsed_event` is the only definition that reads bytes.
use Rattle.std.specs.Prelude.{ℕ, Bool, Option, Some, None, List, Ok, Err, map}
use Rattle.mmtel_compose.specs.ReceivedMessages.{MessageView, message_view}
use Rattle.mmtel_charging.specs.declared.rows.Row.{Row}
use Rattle.mmtel_directory.specs.declared.directories.Directory.{Directory}
use Rattle.mmtel_http.specs.Requests.{ParsedRequestView, request_of}
use Rattle.mmtel_message.specs.Message.{Message}
use Rattle.mmtel_message.specs.Reads.{Read, read_result}
use Rattle.mmtel_message.specs.declared.messages.Start.{Start}
use Rattle.mmtel_message.specs.declared.reading.ReadFault.TheVariants as fault
use Rattle.mmtel_environment.specs.declared.events.Event.{Event}
use Rattle.mmtel_environment.specs.declared.events.Event.TheVariants as event
use Rattle.mmtel_trust.specs.ParsedMessage.{ParsedMessage}
use Rattle.mmtel_trust.specs.Peers.{Peers, peer_at, is_trusted}
use Rattle.mmtel_types.specs.declared.addrs.Addr.{Addr}
use Rattle.mmtel_types.specs.declared.numbers.Peer.{Peer}
use Rattle.mmtel_web.specs.Handling.{KeeperOutcomeView}

-- ---- the record of an event

-- an event, and the results of the keeper in it: whether its call succeeded, failed, or ran out of memory before anything changed, and the CDRs that it returned; and whether
-- it accepted the CDRs that were handed to it at the end. Results for which the keeper was not called are not read
pub record EventRecord : Type 0 where
  pub event : Event
  pub outcome : KeeperOutcomeView
  pub rows : List Row
  pub accepted : Bool

-- ---- what is read of it

pub data ParsedEvent : Type 0 where
  -- nothing at all
  Nothing : ParsedEvent
  -- bytes of a peer that are refused as they are read, with the reply that is due
  Refused : (peer : Peer) → (source : Addr) → (reply : Message Start) → ParsedEvent
  -- a message of a peer
  Received : (message : MessageView) → ParsedEvent
  -- a web request, and the results of the keeper
  WebRequested : (request : ParsedRequestView) → (kept : KeeperOutcomeView) → (rows : List Row) → ParsedEvent

abbrev pub parsed_refusal : Peer → Addr → Option (Message Start) → ParsedEvent
parsed_refusal peer source None = Nothing
parsed_refusal peer source (Some reply) = Refused peer source reply

-- the event for the result of reading the bytes that this peer sent from this address; reading never runs out of memory
abbrev pub parsed_result : Peers → Peer → Addr → Read → ParsedEvent
parsed_result peers peer source (Ok message) = Received (message_view peer source (is_trusted peer peers.known) message)
parsed_result peers peer source (Err (fault.TooLarge reply)) = parsed_refusal peer source reply
parsed_result peers peer source (Err fault.NotSip) = Nothing
parsed_result peers peer source (Err (fault.TooMany reply)) = parsed_refusal peer source reply
parsed_result peers peer source (Err (fault.Bad at reply)) = parsed_refusal peer source reply
parsed_result peers peer source (Err fault.NoMemory) = Nothing

-- a datagram from an address of no peer is dropped
abbrev pub parsed_from : Peers → Addr → List ℕ → Option Peer → ParsedEvent
parsed_from peers source bytes None = Nothing
parsed_from peers source bytes (Some peer) = parsed_result peers peer source (read_result bytes)

-- of a datagram
unfoldable pub parsed_datagram : Directory → Addr → List ℕ → ParsedEvent
parsed_datagram directory from bytes = parsed_from directory.peers from bytes (peer_at from directory.peers.known)

abbrev pub parsed_event : Directory → Event → KeeperOutcomeView → List Row → ParsedEvent
parsed_event directory (event.Datagram from at bytes) kept rows = parsed_datagram directory from bytes
parsed_event directory (event.Web at bytes) kept rows = WebRequested (request_of bytes) kept rows
parsed_event directory (event.Quiet at) kept rows = Nothing

-- of the record of an event
abbrev pub parsed_record : Directory → EventRecord → ParsedEvent
parsed_record directory recorded = parsed_event directory recorded.event recorded.outcome recorded.rows

-- ---- a whole run

-- the moment of an event, in milliseconds since 1970-01-01T00:00:00Z
abbrev pub moment_of : Event → ℕ
moment_of (event.Datagram from at bytes) = at
moment_of (event.Web at bytes) = at
moment_of (event.Quiet at) = at

-- what a run depends on of one event: its moment, what is read of it, and whether the keeper accepted the CDRs at its end
pub record TimedEvent : Type 0 where
  pub at : ℕ
  pub parsed : ParsedEvent
  pub accepted : Bool

abbrev pub timed_event_of : Directory → EventRecord → TimedEvent
timed_event_of directory came = record { at = moment_of came.event; parsed = parsed_record directory came; accepted = came.accepted }

-- of all events of a run
abbrev pub timed_events : Directory → List EventRecord → List TimedEvent
timed_events directory recorded = map (λ came. timed_event_of directory came) recorded

-- the events alone
abbrev pub events_in : List EventRecord → List Event
events_in recorded = map (λ came. came.event) recorded

-- a message as it was received
abbrev pub message_in : ParsedMessage → Message Start
message_in message = record { start = message.start; lines = message.lines; body = message.body }

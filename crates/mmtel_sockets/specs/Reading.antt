-- Reading of web connections: the result for each, how long it may take, and the bytes that are returned to the caller.
use Rattle.std.specs.Prelude.{◌≡◌, ◌⊎◌, ◌+◌, ◌-◌, ◌*◌, ◌++◌, List, [], ℕ, suc, zero, Bool, true, false, All, drop, map, nat_lt, slice_get, take, ⊤}
use Rattle.std.specs.Prelude.{Option, None, Some, Result, Ok, Err}
use Rattle.std.specs.Option.{option_map, option_map_or}
use Rattle.std.specs.IoError.{error_kind}
use Rattle.std.specs.Time.{instant_nanos}
use Rattle.std.specs.declared.io.Error.{Error}
use Rattle.std.specs.declared.io.ErrorKind.{ErrorKind}
use Rattle.std.specs.declared.io.ErrorKind.TheVariants.{WouldBlock}
use Rattle.std.specs.declared.net.TcpStream.{TcpStream}
use Rattle.std.specs.declared.time.Instant.{Instant}
use Rattle.mmtel_http.specs.Requests.{request_of, whole_of}
use Rattle.mmtel_http.specs.declared.wholes.Whole.{Whole}
use Rattle.mmtel_http.specs.declared.wholes.Whole.TheVariants.{More, Done, Bad, Large}
use Rattle.mmtel_sockets.specs.declared.connections.Connection.{Connection}
use Rattle.mmtel_sockets.specs.declared.connections.FirstDue.{FirstDue}
use Rattle.mmtel_sockets.specs.declared.connections.FirstDue.TheVariants as found
use Rattle.mmtel_sockets.specs.declared.connections.ReadStep.{ReadStep}
use Rattle.mmtel_sockets.specs.declared.connections.ReadStep.TheVariants.{Waits, Due, NoMemory}

-- ---- time limit

-- it was accepted more than 500 ms before this reading of the clock; or the clock could not be read
abbrev pub is_timed_out : Option Instant → Connection → Bool
is_timed_out None connection = true
is_timed_out (Some now) connection = nat_lt (500 * 1_000_000) (instant_nanos now - instant_nanos connection.accepted_at)

abbrev pub waits_unless : Bool → ReadStep
waits_unless true = Due
waits_unless false = Waits

-- ---- what is read

-- it is read further only where more bytes can make what was read of it a request (RFC 9112 §6.3)
abbrev pub by_whole : Whole → ReadStep → ReadStep
by_whole More step = step
by_whole (Done len) step = Due
by_whole Bad step = Due
by_whole Large step = Due

-- these bytes are appended to those before, and decide; where memory runs out nothing has changed
abbrev pub AppendsBytes : Option Instant → (before after : Connection) → (came : List ℕ) → ReadStep → Type 0
AppendsBytes now before after came Waits = (after ≡ record before { bytes = before.bytes ++ came; sent_continue = after.sent_continue })
    × (Waits ≡ by_whole (whole_of (request_of after.bytes)) (waits_unless (is_timed_out now after)))
AppendsBytes now before after came Due = (after ≡ record before { bytes = before.bytes ++ came; sent_continue = after.sent_continue })
    × (Due ≡ by_whole (whole_of (request_of after.bytes)) (waits_unless (is_timed_out now after)))
AppendsBytes now before after came NoMemory = after ≡ before

-- nothing was there to read, or the connection failed
abbrev pub ReceivesError : Option Instant → (before after : Connection) → ErrorKind → ReadStep → Type 0
ReceivesError now before after WouldBlock step = (after ≡ before) × (step ≡ waits_unless (is_timed_out now before))
ReceivesError now before after kind step = (after ≡ record before { failed = true }) × (step ≡ Due)

-- by the result of reading its stream into the buffer: no byte is its end
abbrev pub ReceivesRead : Option Instant → (before after : Connection) → (buf : List ℕ) → Result ℕ Error → ReadStep → Type 0
ReceivesRead now before after buf (Ok zero) step = (after ≡ before) × (step ≡ Due)
ReceivesRead now before after buf (Ok (suc n)) step = AppendsBytes now before after (take (suc n) buf) step
ReceivesRead now before after buf (Err error) step = ReceivesError now before after (error_kind error) step

-- a connection that waits is not late, and nothing was received or more bytes are needed
abbrev pub WaitsByNeed : Option Instant → (before after : Connection) → ReadStep → Type 0
WaitsByNeed now before after Waits = (is_timed_out now after ≡ false) × ((after.bytes ≡ before.bytes) ⊎ (whole_of (request_of after.bytes) ≡ More))
WaitsByNeed now before after Due = ⊤
WaitsByNeed now before after NoMemory = ⊤

-- ---- several connections, concurrently

abbrev pub streams : List Connection → List TcpStream
streams waiting = map (λ (c : Connection). c.stream) waiting

-- one of them is removed, and those before it come after the others
abbrev pub IsRemovedFrom : (before after : List TcpStream) → TcpStream → Type 0
IsRemovedFrom before after stream = (place : ℕ) × ((slice_get before place ≡ Some stream) × (after ≡ drop (place + 1) before ++ take place before))

-- where none is due all of them wait, in order, and none is late
abbrev pub FindsDue : Option Instant → (before after : List Connection) → FirstDue → Type 0
FindsDue now before after found.Nothing = (streams after ≡ streams before) × All (λ c. is_timed_out now c ≡ false) after
FindsDue now before after (found.One connection) = IsRemovedFrom (streams before) (streams after) connection.stream
FindsDue now before after found.NoMemory = ⊤

-- ---- bytes that are returned

-- what was read and is not returned yet
abbrev pub unread : Connection → List ℕ
unread connection = drop connection.delivered connection.bytes

-- of the connection that was announced last, where there is one
abbrev pub announced_bytes : Option Connection → List ℕ
announced_bytes connection = option_map_or unread connection []

-- with so many more bytes returned
abbrev pub with_delivered : ℕ → Connection → Connection
with_delivered count connection = record connection { delivered = connection.delivered + count }

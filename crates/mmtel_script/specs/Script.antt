-- Scripts: a format of this project's own. A text of lines: each event begins with a line with its moment and its kind, and the bytes of a datagram or of a web request follow in
-- data lines.
use Rattle.std.specs.Prelude.{ℕ, Bool, true, false, nat_le, ◌&&◌, ◌==◌, ◌+◌, ◌-◌, ◌*◌, if◌then◌else◌, List, [], ◌∷◌, ◌++◌, codes, Option, Some, None, Result, Ok, Err, ◌≡◌}
use Rattle.std.specs.Str.{bytes_eq}
use Rattle.mmtel_base.specs.Chain.{◌>>=◌}
use Rattle.mmtel_base.specs.Numbers.{plain_number}
use Rattle.mmtel_base.specs.Scanning.{split_once_at}
use Rattle.mmtel_types.specs.Moments.{last_moment}
use Rattle.mmtel_trust.specs.declared.known_peers.KnownPeer.{KnownPeer}
use Rattle.mmtel_trust.specs.Peers as peers
use Rattle.mmtel_environment.specs.declared.events.Event.{Event}
use Rattle.mmtel_environment.specs.declared.events.Event.TheVariants.{Datagram, Web, Quiet}
use Rattle.mmtel_directory.specs.Directory.{peer_of}
use Rattle.mmtel_directory.specs.Lines.{lines_by, lines_of}
use Rattle.mmtel_link.specs.LinkStates.{LinkInput}
use Rattle.mmtel_script.specs.declared.scripts.ScriptFault.{ScriptFault}
use Rattle.mmtel_script.specs.declared.scripts.ScriptFault.TheVariants.{BadLine, NoMemory}
use Rattle.mmtel_script.specs.declared.script_lines.ScriptLine.{ScriptLine}
use Rattle.mmtel_script.specs.declared.script_lines.ScriptLine.TheVariants.{Comment, Begins, Data}

-- ---- bytes in hexadecimal digits

-- a digit of a hexadecimal number, in lower case
abbrev pub hex_value : ℕ → Option ℕ
hex_value b = if nat_le 48 b && nat_le b 57 then Some (b - 48) else if nat_le 97 b && nat_le b 102 then Some (b - 87) else None

-- the byte that two digits write
abbrev pub hex_byte : ℕ → ℕ → Option ℕ
hex_byte high low = do
  h ← hex_value high
  l ← hex_value low
  Some (h * 16 + l)

-- the byte that the first two digits write, and what follows them
abbrev pub leading_byte : List ℕ → Option (ℕ × List ℕ)
leading_byte [] = None
leading_byte (high ∷ []) = None
leading_byte (high ∷ low ∷ s) = do
  byte ← hex_byte high low
  Some (byte, s)

-- a byte before others
abbrev pub with_first : ℕ → Option (List ℕ) → Option (List ℕ)
with_first byte bytes = do
  more ← bytes
  Some (byte ∷ more)

-- the bytes that pairs of digits write
abbrev pub hex_bytes : List ℕ → Option (List ℕ)
hex_bytes [] = Some []
hex_bytes (high ∷ []) = None
hex_bytes (high ∷ low ∷ s) = do
  byte ← hex_byte high low
  with_first byte (hex_bytes s)

-- ---- lines

-- `peer N`, a peer of the configuration, whose number represents its address
abbrev pub datagram_from : List KnownPeer → ℕ → List ℕ → Option Event
datagram_from known at s = do
  p ← split_once_at 32 s
  peer ← peer_of p.1
  from ← peers.addr_of peer known
  if bytes_eq p.0 (codes "peer") then Some (Datagram from at []) else None

-- `web`, `quiet` or `peer N`, after the moment; the event has no bytes yet
abbrev pub event_at : List KnownPeer → ℕ → List ℕ → Option Event
event_at known at s = if bytes_eq s (codes "web") then Some (Web at []) else if bytes_eq s (codes "quiet") then Some (Quiet at) else datagram_from known at s

-- `at M peer N`, `at M web` or `at M quiet`
abbrev pub event_line : List KnownPeer → List ℕ → Option Event
event_line known s = do
  a ← split_once_at 32 s
  m ← split_once_at 32 a.1
  at ← plain_number last_moment m.0
  if bytes_eq a.0 (codes "at") then event_at known at m.1 else None

-- `x` and pairs of digits
abbrev pub digits_line : List ℕ → Option ScriptLine
digits_line s = do
  bytes ← hex_bytes s
  Some (Data bytes)

abbrev pub event_start_line : List KnownPeer → List ℕ → Option ScriptLine
event_start_line known s = do
  event ← event_line known s
  Some (Begins event)

-- the content of a line, where it is of a form of the grammar: none; bytes: `|` and bytes, which represent these bytes and CRLF, `+` and bytes, or `x` and digits; or the beginning
-- of an event
unfoldable pub line_of : List KnownPeer → List ℕ → Option ScriptLine
line_of known [] = Some Comment
line_of known (b ∷ s) =
    if b == 35 then Some Comment
    else if b == 124 then Some (Data (s ++ codes "\r\n"))
    else if b == 43 then Some (Data s)
    else if b == 120 then digits_line s
    else event_start_line known (b ∷ s)

-- ---- scripts

-- whether the event has bytes
abbrev pub holds_bytes : Event → Bool
holds_bytes (Datagram from at bytes) = true
holds_bytes (Web at bytes) = true
holds_bytes (Quiet at) = false

-- whether the last event of these lines has bytes, and where they begin none, whether the one above them has
abbrev pub accepts_bytes : Bool → List ScriptLine → Bool
accepts_bytes above [] = above
accepts_bytes above (Comment ∷ lines) = accepts_bytes above lines
accepts_bytes above (Begins event ∷ lines) = accepts_bytes (holds_bytes event) lines
accepts_bytes above (Data bytes ∷ lines) = accepts_bytes above lines

-- whether a line may follow directly after these: data follows an event that has bytes
abbrev pub may_follow : List ScriptLine → ScriptLine → Bool
may_follow said Comment = true
may_follow said (Begins event) = true
may_follow said (Data bytes) = accepts_bytes false said

-- the content of the next line, where it breaks no rule
abbrev pub next_script_line : List KnownPeer → List ScriptLine → List ℕ → Option ScriptLine
next_script_line known said text = do
  line ← line_of known text
  if may_follow said line then Some line else None

-- the bytes of the data lines up to the next event
abbrev pub data_of : List ScriptLine → List ℕ
data_of [] = []
data_of (Comment ∷ lines) = data_of lines
data_of (Begins event ∷ lines) = []
data_of (Data bytes ∷ lines) = bytes ++ data_of lines

-- the event with further bytes, where it has bytes
abbrev pub with_bytes : Event → List ℕ → Event
with_bytes (Datagram from at bytes) more = Datagram from at (bytes ++ more)
with_bytes (Web at bytes) more = Web at (bytes ++ more)
with_bytes (Quiet at) more = Quiet at

-- the events that begin in these lines
abbrev pub events_in : List ScriptLine → List Event
events_in [] = []
events_in (Comment ∷ lines) = events_in lines
events_in (Begins event ∷ lines) = with_bytes event (data_of lines) ∷ events_in lines
events_in (Data bytes ∷ lines) = events_in lines

abbrev pub events_from : Result (List ScriptLine) ℕ → Result (List Event) ℕ
events_from (Ok said) = Ok (events_in said)
events_from (Err number) = Err number

-- the events of a text, or the number, from 1, of the first line that breaks the grammar
unfoldable pub events_of : List KnownPeer → List ℕ → Result (List Event) ℕ
events_of known text = events_from (lines_by (next_script_line known) 1 [] (lines_of text))

-- ---- words of contracts

-- the inputs of a link that returns these events and has returned none yet
abbrev pub initial_input : List Event → LinkInput
initial_input events = record { events = events; reads = []; ended = false }

-- a link of these events, or this fault, unless memory ran out
abbrev pub ReadsScript : Result LinkInput ScriptFault → Result (List Event) ℕ → Type 0
ReadsScript (Ok input) due = due ≡ Ok input.events
ReadsScript (Err (BadLine number)) due = due ≡ Err number
ReadsScript (Err NoMemory) due = Unit {0}

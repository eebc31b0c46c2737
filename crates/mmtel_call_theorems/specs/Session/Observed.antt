-- What is observed of the session of a call from outside: the 2xx that the call relays, the deadlines of sessions that are armed, each with its moment, and the BYEs. These alone
-- determine which deadline is that of the last 2xx (RFC 4028 §7.2, §10; RFC 3261 §13.3.1.4, §14, §15).
use Rattle.std.specs.Prelude.{ℕ, ◌==◌, ◌&&◌, not, Bool, false, if◌then◌else◌, Option, Some, None, List, [], ◌∷◌, ◌++◌, codes, position, slice_get}
use Rattle.std.specs.List.{list_any}
use Rattle.mmtel_compose.specs.ReceivedMessages.{MessageView, status_of}
use Rattle.mmtel_output.specs.ResponseMatching.{awaited_request_branch}
use Rattle.mmtel_leg.specs.Dialogues.{request_uri}
use Rattle.mmtel_message.specs.Faults.{is_method}
use Rattle.mmtel_base.specs.Numbers.{next_number}
use Rattle.mmtel_transaction.specs.declared.words.DueWord.{DueWord}
use Rattle.mmtel_transaction.specs.declared.words.DueWord.TheVariants as due
use Rattle.mmtel_transaction.specs.declared.words.Emit.{Emit}
use Rattle.mmtel_transaction.specs.declared.words.Emit.TheVariants as emit
use Rattle.mmtel_types.specs.declared.numbers.CallNo.{CallNo}
use Rattle.mmtel_types.specs.declared.numbers.Peer.{Peer}
use Rattle.mmtel_call.specs.RelayedTransactions.{is_in_flight, is_updating}
use Rattle.mmtel_call.specs.OtherRequests.{is_success}
use Rattle.mmtel_call.specs.Table.{is_current}
use Rattle.mmtel_call.specs.declared.calls.Call.{Call}
use Rattle.mmtel_call.specs.declared.calls.RelayedTransaction.{RelayedTransaction}
use Rattle.mmtel_call.specs.declared.signals.Signal.{Signal}
use Rattle.mmtel_call.specs.declared.signals.Signal.TheVariants as signal
use Rattle.mmtel_call_theorems.specs.CallTrace.{TraceStart, TraceStep, call_after, first_step, items_added, next_step}
use Rattle.mmtel_call_theorems.specs.Attempts.Observed.{Deadline}

-- ---- the 2xx that is relayed

-- whether the call has sent a PRACK with this branch, which awaits its response: a 2xx to it does not concern the session
abbrev pub is_prack_in : Option RelayedTransaction → Bool
is_prack_in None = false
is_prack_in (Some flight) = not (is_updating flight)

abbrev pub is_prack_at : (place : Option ℕ) → List RelayedTransaction → Bool
is_prack_at None flights = false
is_prack_at (Some place) flights = is_prack_in (slice_get flights place)

abbrev pub has_prack : (branch : List ℕ) → Call → Bool
has_prack branch c = not (is_current branch c) && is_prack_at (position (is_in_flight branch) c.relayed) c.relayed

-- the 2xx to an INVITE or an UPDATE of this call that is received
abbrev pub success_to : Option (List ℕ) → MessageView → Call → Option MessageView
success_to None m c = None
success_to (Some branch) m c = if not (has_prack branch c) && is_success (status_of m.parsed.start) then Some m else None

abbrev pub success_received : Signal → Call → Option MessageView
success_received (signal.Request side key request) c = None
success_received (signal.Ack side ack) c = None
success_received (signal.Cancel key cancel invite) c = None
success_received (signal.Answer key response) c = success_to (awaited_request_branch response) response c
success_received (signal.Silent branch method) c = None
success_received (signal.Due what) c = None
success_received (signal.Ended key) c = None

-- whether a 2xx is sent
abbrev pub is_accepted : Emit → Bool
is_accepted (emit.Ask peer m) = false
is_accepted (emit.Reply asked m) = is_success (status_of m.start)
is_accepted (emit.Plain peer text) = false
is_accepted (emit.Ack asked m) = false
is_accepted (emit.Settled key own) = false
is_accepted (emit.Arm call what at) = false
is_accepted (emit.ArmSeat room seat what at) = false

-- the one that is received is relayed: in the step in which it is received one is sent
abbrev pub relayed_success : Signal → Call → List Emit → Option MessageView
relayed_success received c out = if list_any is_accepted out then success_received received c else None

-- ---- the deadlines of sessions that are armed

-- of the call itself
abbrev pub expiry_by : (is_own : Bool) → DueWord → (at : ℕ) → List Deadline
expiry_by is_own (due.NoReply number) at = []
expiry_by is_own (due.NoPrack number) at = []
expiry_by is_own (due.Cap number) at = []
expiry_by is_own (due.NoAck number) at = []
expiry_by is_own (due.Expired number) at = if is_own then record { what = due.Expired number; at = at } ∷ [] else []

-- where the call has this number
abbrev pub expiry_of : CallNo → Emit → List Deadline
expiry_of own (emit.Ask peer m) = []
expiry_of own (emit.Reply asked m) = []
expiry_of own (emit.Plain peer text) = []
expiry_of own (emit.Ack asked m) = []
expiry_of own (emit.Settled asked settled) = []
expiry_of own (emit.Arm call what at) = expiry_by (call.0 == own.0) what at
expiry_of own (emit.ArmSeat room seat what at) = []

abbrev pub expiries_of : CallNo → List Emit → List Deadline
expiries_of own [] = []
expiries_of own (e ∷ later) = expiry_of own e ++ expiries_of own later

-- ---- the session

-- a 2xx that was relayed, and the moment of that step
pub record RelayedSuccess : Type 0 where
  pub at : ℕ
  pub message : MessageView

pub record Session : Type 0 where
  -- how many were relayed; the count does not rise above 2^64 - 1
  pub count : ℕ
  -- the last of them, if there was one
  pub last : Option RelayedSuccess
  -- the deadlines that were armed before its step, and those that were armed in it and since
  pub earlier : List Deadline
  pub armed : List Deadline

-- after a step at this moment, in which this 2xx was relayed, if one was, and these deadlines were armed: a 2xx starts the session anew
abbrev pub session_after_success : (now : ℕ) → Session → Option MessageView → List Deadline → Session
session_after_success now w None armed = record w { armed = w.armed ++ armed }
session_after_success now w (Some m) armed = record { count = next_number w.count; last = Some (record { at = now; message = m }); earlier = w.earlier ++ w.armed; armed = armed }

-- after what this call received, and what it sent
abbrev pub session_after_step : (now : ℕ) → CallNo → Call → Signal → List Emit → Session → Session
session_after_step now own c received out w = session_after_success now w (relayed_success received c out) (expiries_of own out)

-- as the call opens, when these are sent
abbrev pub initial_session : CallNo → List Emit → Session
initial_session own out = record { count = 0; last = None; earlier = []; armed = expiries_of own out }

-- ---- in a trace

unfoldable pub session_after : TraceStart → List TraceStep → Session
session_after s [] = initial_session s.arrival.number (items_added s.output.out (first_step s).output.out)
session_after s (x ∷ earlier) =
    session_after_step x.now.at s.arrival.number (call_after s earlier) x.signal
    (items_added x.output.out (next_step s x (call_after s earlier)).output.out) (session_after s earlier)

-- ---- how it ends

-- a BYE to a side: its peer, and its Request-URI
abbrev pub bye_of : Emit → List (Peer × List ℕ)
bye_of (emit.Ask peer m) = if is_method (codes "BYE") m.start then (peer, request_uri m.start) ∷ [] else []
bye_of (emit.Reply asked m) = []
bye_of (emit.Plain peer text) = []
bye_of (emit.Ack asked m) = []
bye_of (emit.Settled key own) = []
bye_of (emit.Arm call what at) = []
bye_of (emit.ArmSeat room seat what at) = []

abbrev pub byes_of : List Emit → List (Peer × List ℕ)
byes_of [] = []
byes_of (e ∷ later) = bye_of e ++ byes_of later

-- whether the deadline has this number
abbrev pub is_expiry_numbered : ℕ → DueWord → Bool
is_expiry_numbered number (due.NoReply other) = false
is_expiry_numbered number (due.NoPrack other) = false
is_expiry_numbered number (due.Cap other) = false
is_expiry_numbered number (due.NoAck other) = false
is_expiry_numbered number (due.Expired other) = number == other

abbrev pub is_numbered_among : ℕ → List Deadline → Bool
is_numbered_among number deadlines = list_any (λ (deadline : Deadline). is_expiry_numbered number deadline.what) deadlines

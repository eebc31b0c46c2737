-- To which call of a table an operation belongs, and the trace of one call from the operations that belong to it. All is determined by the list of the operations, the newest
-- first.
use Rattle.std.specs.Prelude.{◌≡◌, ◌<◌, ◌-◌, ◌^◌, ℕ, ◌==◌, Bool, true, false, if◌then◌else◌, Option, Some, None, List, [], ◌∷◌, ◌++◌, find, take}
use Rattle.std.specs.Option.{option_map}
use Rattle.mmtel_charging.specs.declared.rows.Row.{Row}
use Rattle.mmtel_output.specs.Outputs.{empty_output}
use Rattle.mmtel_base.specs.Numbers.{next_number}
use Rattle.mmtel_transaction.specs.declared.words.Emit.{Emit}
use Rattle.mmtel_transaction.specs.declared.words.TKey.{TKey}
use Rattle.mmtel_types.specs.declared.sides.Side.TheVariants.{Caller}
use Rattle.mmtel_output.specs.ResponseMatching.{awaited_request_branch, timed_out_branch}
use Rattle.mmtel_call_services.specs.CallConfig.{CallConfigView}
use Rattle.mmtel_call_services.specs.declared.openings.Arrival.{Arrival}
use Rattle.mmtel_call.specs.Settled.{is_settled}
use Rattle.mmtel_call.specs.declared.signals.Signal as calls
use Rattle.mmtel_call.specs.declared.signals.Signal.TheVariants as of_call
use Rattle.mmtel_call_theorems.specs.NoInjection.Emits.{Each}
use Rattle.mmtel_call_theorems.specs.CallTrace.{TraceStart}
use Rattle.mmtel_b2bua.specs.Entries.{busy_beside, has_received_key, has_sent_branch, is_numbered}
use Rattle.mmtel_b2bua.specs.Operations.{Drops, Finishes, ReceivedSignal, Receives, Releases, Restores, TableOp, step_on_finish, step_on_receive as brought_by, table_after}
use Rattle.mmtel_b2bua.specs.Detaching.{can_restore, entry_of}
use Rattle.mmtel_b2bua.specs.Tables.{Table, busy_with, invites_by, snapshot_at}
use Rattle.mmtel_b2bua.specs.declared.entries.Entry.{Entry}
use Rattle.mmtel_b2bua.specs.declared.entries.InviteKey.{InviteKey}
use Rattle.mmtel_b2bua.specs.declared.signals.Signal.{Signal}
use Rattle.mmtel_b2bua.specs.declared.signals.Signal.TheVariants as signal
use Rattle.mmtel_b2bua_theorems.specs.TracesWithTransfers as transfers
use Rattle.mmtel_b2bua_theorems.specs.TracesWithTransfers.{CallEvent, CallTraceWithTransfers, call_after}

-- ---- a signal as a call receives it, and whether it belongs to a call

abbrev pub signal_of_call : Signal → Option calls.Signal
signal_of_call (signal.Arrived key invite served registration identities) = None
signal_of_call (signal.Request call side key request) = Some (of_call.Request side key request)
signal_of_call (signal.Ack call side ack) = Some (of_call.Ack side ack)
signal_of_call (signal.Cancel call key cancel invite) = Some (of_call.Cancel key cancel invite)
signal_of_call (signal.Answer key response) = Some (of_call.Answer key response)
signal_of_call (signal.Silent branch method) = Some (of_call.Silent branch method)
signal_of_call (signal.Due call what) = Some (of_call.Due what)
signal_of_call (signal.Over key) = Some (of_call.Ended key)

-- by the number that it has, by the branch of the request to which it is a response or that timed out, by the client transaction that ended
abbrev pub is_of : Signal → Entry → Bool
is_of (signal.Arrived key invite served registration identities) e = false
is_of (signal.Request call side key request) e = is_numbered call.0 e
is_of (signal.Ack call side ack) e = is_numbered call.0 e
is_of (signal.Cancel call key cancel invite) e = is_numbered call.0 e
is_of (signal.Answer key response) e = has_sent_branch (awaited_request_branch response) e
is_of (signal.Silent branch method) e = has_sent_branch (timed_out_branch branch method) e
is_of (signal.Due call what) e = is_numbered call.0 e
is_of (signal.Over key) e = has_received_key key e

-- ---- an INVITE that opens the call of a number

abbrev pub arrival_of : (number : ℕ) → Signal → Option Arrival
arrival_of number (signal.Arrived key invite served registration identities) =
    Some (record { number = record { 0 = number }; key = key; invite = invite; served = served; registration = registration; identities = identities })
arrival_of number (signal.Request call side key request) = None
arrival_of number (signal.Ack call side ack) = None
arrival_of number (signal.Cancel call key cancel invite) = None
arrival_of number (signal.Answer key response) = None
arrival_of number (signal.Silent branch method) = None
arrival_of number (signal.Due call what) = None
arrival_of number (signal.Over key) = None

-- how it opens: the state, the accounts that the calls keep busy, and the output before
abbrev pub start_by : CallConfigView → ReceivedSignal → List Entry → Arrival → TraceStart
start_by config x es arrival = record { config = config; now = snapshot_at x.at x.view (busy_with arrival es); arrival = arrival; output = empty_output x.tokens }

abbrev pub opening_by : CallConfigView → TableOp → Table → Option TraceStart
opening_by config (Receives x) table = option_map (start_by config x table.entries) (arrival_of (next_number table.opened) x.signal)
opening_by config (Releases number side) table = None
opening_by config (Restores number away) table = None
opening_by config (Finishes number at tokens) table = None
opening_by config (Drops count) table = None

-- ---- events of a call that is in the table

-- the call to which an operation belongs: the first to which its signal belongs, or the one that has its number
abbrev pub entry_by : TableOp → List Entry → Option Entry
entry_by (Receives x) es = find (is_of x.signal) es
entry_by (Releases number side) es = find (is_numbered number) es
entry_by (Restores number away) es = find (is_numbered number) es
entry_by (Finishes number at tokens) es = find (is_numbered number) es
entry_by (Drops count) es = None

-- the signal with the state as the call of this number sees it: the records in force, the registrations, and the accounts that the other calls keep busy
abbrev pub received_event : ReceivedSignal → (number : ℕ) → List Entry → calls.Signal → CallEvent
received_event x number es received = transfers.Receives (record { now = snapshot_at x.at x.view (busy_beside number es); signal = received; output = empty_output x.tokens })

abbrev pub event_by : TableOp → (number : ℕ) → List Entry → Option CallEvent
event_by (Receives x) number es = option_map (received_event x number es) (signal_of_call x.signal)
event_by (Releases call side) number es = Some (transfers.Releases side)
event_by (Restores call away) number es = Some (transfers.Restores away)
event_by (Finishes call at tokens) number es = Some (transfers.Finishes at (empty_output tokens))
event_by (Drops count) number es = None

-- ---- the number of the call to which an operation belongs

abbrev pub number_of : Entry → ℕ
number_of e = e.call.opening.number.0

abbrev pub number_by : Option TraceStart → Option Entry → Option ℕ
number_by (Some start) met = Some start.arrival.number.0
number_by None met = option_map number_of met

-- that of the call that it opens, or, if it opens none, of the one to which it belongs
abbrev pub call_of : CallConfigView → TableOp → Table → Option ℕ
call_of config op table = number_by (opening_by config op table) (entry_by op table.entries)

abbrev pub is_number : ℕ → Option ℕ → Bool
is_number number None = false
is_number number (Some other) = other == number

-- ---- the trace of the call of a number

abbrev pub with_event : Option CallEvent → CallTraceWithTransfers → CallTraceWithTransfers
with_event None trace = trace
with_event (Some x) trace = record trace { events = x ∷ trace.events }

abbrev pub continued_trace : Option TraceStart → Option CallEvent → Option CallTraceWithTransfers → Option CallTraceWithTransfers
continued_trace (Some start) event trace = Some (record { start = start; events = [] })
continued_trace None event trace = option_map (with_event event) trace

-- after one more operation, where this was the table before
abbrev pub trace_by : CallConfigView → (number : ℕ) → TableOp → Table → Option CallTraceWithTransfers → Option CallTraceWithTransfers
trace_by config number op table trace =
    if is_number number (call_of config op table) then continued_trace (opening_by config op table) (event_by op number table.entries) trace else trace

unfoldable pub trace_of : CallConfigView → (number : ℕ) → List TableOp → Option CallTraceWithTransfers
trace_of config number [] = None
trace_of config number (op ∷ earlier) = trace_by config number op (table_after config earlier) (trace_of config number earlier)

-- ---- the call of a trace as it is in the table

-- the INVITEs of its sides, by their server transactions
abbrev pub invites_in : calls.Signal → List InviteKey
invites_in (of_call.Request side key request) = invites_by side key request
invites_in (of_call.Ack side ack) = []
invites_in (of_call.Cancel key cancel invite) = []
invites_in (of_call.Answer key response) = []
invites_in (of_call.Silent branch method) = []
invites_in (of_call.Due what) = []
invites_in (of_call.Ended key) = []

abbrev pub invites_by_event : CallEvent → List InviteKey
invites_by_event (transfers.Receives x) = invites_in x.signal
invites_by_event (transfers.Releases side) = []
invites_by_event (transfers.Restores away) = []
invites_by_event (transfers.Finishes at output) = []

abbrev pub invites_after : TraceStart → List CallEvent → List InviteKey
invites_after s [] = record { key = s.arrival.key; side = Caller } ∷ []
invites_after s (x ∷ earlier) = invites_after s earlier ++ invites_by_event x

abbrev pub entry_after : CallTraceWithTransfers → Entry
entry_after trace = record { call = call_after trace.start trace.events; invites = invites_after trace.start trace.events }

-- one for which nothing more may be received is not in the table
abbrev pub entry_in : Option CallTraceWithTransfers → Option Entry
entry_in None = None
entry_in (Some trace) = if is_settled (call_after trace.start trace.events) then None else Some (entry_after trace)

-- ---- the outputs of the operations, in order

abbrev pub out_by : CallConfigView → TableOp → Table → List Emit
out_by config (Receives x) table = (brought_by config x table).output.out
out_by config (Releases number side) table = []
out_by config (Restores number away) table = []
out_by config (Finishes number at tokens) table = (step_on_finish config number at tokens table).output.out
out_by config (Drops count) table = []

abbrev pub op_charging_records : CallConfigView → TableOp → Table → List Row
op_charging_records config (Receives x) table = (brought_by config x table).output.rows
op_charging_records config (Releases number side) table = []
op_charging_records config (Restores number away) table = []
op_charging_records config (Finishes number at tokens) table = (step_on_finish config number at tokens table).output.rows
op_charging_records config (Drops count) table = []

-- all CDRs that were filed, and those that were handed over
unfoldable pub all_charging_records : CallConfigView → List TableOp → List Row
all_charging_records config [] = []
all_charging_records config (op ∷ earlier) = all_charging_records config earlier ++ op_charging_records config op (table_after config earlier)

abbrev pub records_handed_by : TableOp → List Row → List Row
records_handed_by (Receives x) waiting = []
records_handed_by (Releases number side) waiting = []
records_handed_by (Restores number away) waiting = []
records_handed_by (Finishes number at tokens) waiting = []
records_handed_by (Drops count) waiting = take count waiting

unfoldable pub records_handed_after : CallConfigView → List TableOp → List Row
records_handed_after config [] = []
records_handed_after config (op ∷ earlier) = records_handed_after config earlier ++ records_handed_by op (table_after config earlier).rows

-- what was sent in the operations that belong to the call of a number, and the CDRs of these operations
unfoldable pub emits_of : CallConfigView → (number : ℕ) → List TableOp → List Emit
emits_of config number [] = []
emits_of config number (op ∷ earlier) =
    emits_of config number earlier ++ (if is_number number (call_of config op (table_after config earlier)) then out_by config op (table_after config earlier) else [])

unfoldable pub charging_records_of : CallConfigView → (number : ℕ) → List TableOp → List Row
charging_records_of config number [] = []
charging_records_of config number (op ∷ earlier) =
    charging_records_of config number earlier
    ++ (if is_number number (call_of config op (table_after config earlier)) then op_charging_records config op (table_after config earlier) else [])

-- ---- numbers

-- fewer calls were opened than there are numbers, so each has one of its own
abbrev pub HasNumbers : CallConfigView → List TableOp → Type 0
HasNumbers config ops = (table_after config ops).opened < 2 ^ 64 - 1

-- ---- legs that are put back

-- each is of the side that is detached, which the layer that puts it back must ensure
abbrev pub IsPutBack : TableOp → Table → Type 0
IsPutBack (Receives x) table = Unit {0}
IsPutBack (Releases number side) table = Unit {0}
IsPutBack (Restores number away) table = can_restore away (entry_of number table.entries) ≡ true
IsPutBack (Finishes number at tokens) table = Unit {0}
IsPutBack (Drops count) table = Unit {0}

abbrev pub ArePutBack : CallConfigView → List TableOp → Type 0
ArePutBack config [] = Unit {0}
ArePutBack config (op ∷ earlier) = IsPutBack op (table_after config earlier) × ArePutBack config earlier

-- ---- server transactions

-- no call was opened in this server transaction by it
abbrev pub OpensOther : TKey → Signal → Type 0
OpensOther key (signal.Arrived other invite served registration identities) = (key.0 == other.0) ≡ false
OpensOther key (signal.Request call side other request) = Unit {0}
OpensOther key (signal.Ack call side ack) = Unit {0}
OpensOther key (signal.Cancel call other cancel invite) = Unit {0}
OpensOther key (signal.Answer other response) = Unit {0}
OpensOther key (signal.Silent branch method) = Unit {0}
OpensOther key (signal.Due call what) = Unit {0}
OpensOther key (signal.Over other) = Unit {0}

abbrev pub IsOtherOp : TKey → TableOp → Type 0
IsOtherOp key (Receives x) = OpensOther key x.signal
IsOtherOp key (Releases number side) = Unit {0}
IsOtherOp key (Restores number away) = Unit {0}
IsOtherOp key (Finishes number at tokens) = Unit {0}
IsOtherOp key (Drops count) = Unit {0}

-- the server transaction of a request is none in which a call was opened before
abbrev pub HasOwnKey : Signal → (earlier : List TableOp) → Type 0
HasOwnKey (signal.Arrived key invite served registration identities) earlier = Unit {0}
HasOwnKey (signal.Request call side key request) earlier = Each (IsOtherOp key) earlier
HasOwnKey (signal.Ack call side ack) earlier = Unit {0}
HasOwnKey (signal.Cancel call key cancel invite) earlier = Each (IsOtherOp key) earlier
HasOwnKey (signal.Answer key response) earlier = Unit {0}
HasOwnKey (signal.Silent branch method) earlier = Unit {0}
HasOwnKey (signal.Due call what) earlier = Unit {0}
HasOwnKey (signal.Over key) earlier = Unit {0}

abbrev pub OpHasOwnKey : TableOp → (earlier : List TableOp) → Type 0
OpHasOwnKey (Receives x) earlier = HasOwnKey x.signal earlier
OpHasOwnKey (Releases number side) earlier = Unit {0}
OpHasOwnKey (Restores number away) earlier = Unit {0}
OpHasOwnKey (Finishes number at tokens) earlier = Unit {0}
OpHasOwnKey (Drops count) earlier = Unit {0}

abbrev pub HaveOwnKeys : List TableOp → Type 0
HaveOwnKeys [] = Unit {0}
HaveOwnKeys (op ∷ earlier) = OpHasOwnKey op earlier × HaveOwnKeys earlier

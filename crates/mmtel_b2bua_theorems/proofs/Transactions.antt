-- The later requests of a call have other server transactions than the INVITE that opened it.
use Rattle.std.proofs.Common.{◌≡◌, ℕ, ◌==◌, Bool, true, false, List, [], ◌∷◌, Option, Some, None, refl, subst}
use Rattle.std.proofs.lemmas.Option.{none-some}
use Rattle.std.specs.Prelude.{if◌then◌else◌}
use Rattle.mmtel_sheet_values.specs.View.{SheetsInForce}
use Rattle.mmtel_transaction.specs.Tokens.{TokensView}
use Rattle.mmtel_transaction.specs.declared.words.TKey.{TKey}
use Rattle.mmtel_call_services.specs.CallConfig.{CallConfigView}
use Rattle.mmtel_call_theorems.specs.NoInjection.Emits.{Each}
use Rattle.mmtel_call_theorems.specs.CallTrace.{TraceStart}
use Rattle.mmtel_b2bua.specs.Operations.{Drops, Finishes, Receives, Releases, Restores, TableOp, table_after}
use Rattle.mmtel_b2bua.specs.Tables.{Table}
use Rattle.mmtel_b2bua.specs.declared.entries.Entry.{Entry}
use Rattle.mmtel_b2bua.specs.declared.signals.Signal.{Signal}
use Rattle.mmtel_b2bua.specs.declared.signals.Signal.TheVariants as signal
use Rattle.mmtel_b2bua_theorems.specs.TracesOfTables.{HasOwnKey, HaveOwnKeys, IsOtherOp, OpHasOwnKey, OpensOther, call_of, continued_trace, event_by, is_number, opening_by, trace_of}
use Rattle.mmtel_b2bua_theorems.specs.Outcomes.{EventHasOtherKey, EventsHaveOtherKeys}
use Rattle.mmtel_b2bua_theorems.specs.TracesWithTransfers as transfers
use Rattle.mmtel_b2bua_theorems.specs.TracesWithTransfers.{CallEvent, CallTraceWithTransfers}

some-same : {A : Type 0} (x y : A) → Some x ≡ Some y → x ≡ y
some-same x y h = cc

-- ---- a server transaction in which no call was opened

abbrev Differs : TKey → TraceStart → Type 0
Differs key s = (key.0 == s.arrival.key.0) ≡ false

signal-differs : (config : CallConfigView) (at : ℕ) (view : SheetsInForce) (tokens : TokensView) (received : Signal) (table : Table) (key : TKey) (s : TraceStart) → OpensOther key received →
    opening_by config (Receives (record { at = at; view = view; tokens = tokens; signal = received })) table ≡ Some s → Differs key s
signal-differs config at view tokens (signal.Arrived other invite served registration identities) table key s given opens = subst (Differs key) (some-same _ s opens) given
signal-differs config at view tokens (signal.Request call side other request) table key s given opens = absurd (none-some s opens)
signal-differs config at view tokens (signal.Ack call side ack) table key s given opens = absurd (none-some s opens)
signal-differs config at view tokens (signal.Cancel call other cancel invite) table key s given opens = absurd (none-some s opens)
signal-differs config at view tokens (signal.Answer other response) table key s given opens = absurd (none-some s opens)
signal-differs config at view tokens (signal.Silent branch method) table key s given opens = absurd (none-some s opens)
signal-differs config at view tokens (signal.Due call what) table key s given opens = absurd (none-some s opens)
signal-differs config at view tokens (signal.Over other) table key s given opens = absurd (none-some s opens)

op-differs : (config : CallConfigView) (op : TableOp) (table : Table) (key : TKey) (s : TraceStart) → IsOtherOp key op → opening_by config op table ≡ Some s → Differs key s
op-differs config (Receives x) table key s given opens = signal-differs config x.at x.view x.tokens x.signal table key s given opens
op-differs config (Releases number side) table key s given opens = absurd (none-some s opens)
op-differs config (Restores number away) table key s given opens = absurd (none-some s opens)
op-differs config (Finishes number at tokens) table key s given opens = absurd (none-some s opens)
op-differs config (Drops count) table key s given opens = absurd (none-some s opens)

goes-differs : (key : TKey) (opens : Option TraceStart) (came : Option CallEvent) (was : Option CallTraceWithTransfers) (trace : CallTraceWithTransfers) → ((s : TraceStart) → opens ≡ Some s → Differs key s) →
    ((earlier : CallTraceWithTransfers) → was ≡ Some earlier → Differs key earlier.start) → continued_trace opens came was ≡ Some trace → Differs key trace.start
goes-differs key (Some s) came was trace start before h = subst (λ (l : CallTraceWithTransfers). Differs key l.start) (some-same (record { start = s; events = [] }) trace h) (start s refl)
goes-differs key None came None trace start before h = absurd (none-some trace h)
goes-differs key None None (Some earlier) trace start before h = subst (λ (l : CallTraceWithTransfers). Differs key l.start) (some-same earlier trace h) (before earlier refl)
goes-differs key None (Some x) (Some earlier) trace start before h =
    subst (λ (l : CallTraceWithTransfers). Differs key l.start) (some-same (record earlier { events = x ∷ earlier.events }) trace h) (before earlier refl)

trace-differs : (config : CallConfigView) (ops : List TableOp) (n : ℕ) (key : TKey) (trace : CallTraceWithTransfers) → Each (IsOtherOp key) ops → trace_of config n ops ≡ Some trace → Differs key trace.start
unfolding trace_of
trace-differs config [] n key trace given h = absurd (none-some trace h)
trace-differs config (op ∷ earlier) n key trace given h =
    go (is_number n (call_of config op (table_after config earlier))) h (λ trace. trace-differs config earlier n key trace given.1)
  where
    go : (b : Bool) →
        (if b then continued_trace (opening_by config op (table_after config earlier)) (event_by op n (table_after config earlier).entries)
        (trace_of config n earlier) else trace_of config n earlier) ≡ Some trace →
        ((trace : CallTraceWithTransfers) → trace_of config n earlier ≡ Some trace → Differs key trace.start) → Differs key trace.start
    go true h before =
        goes-differs key (opening_by config op (table_after config earlier)) (event_by op n (table_after config earlier).entries) (trace_of config n earlier) trace
        (λ s opens. op-differs config op (table_after config earlier) key s given.0 opens) before h
    go false h before = before trace h

-- ---- events of a call

signal-others : (config : CallConfigView) (earlier : List TableOp) (n : ℕ) (trace : CallTraceWithTransfers) → trace_of config n earlier ≡ Some trace →
    (at : ℕ) (view : SheetsInForce) (tokens : TokensView) (received : Signal) (es : List Entry) (event : CallEvent) → HasOwnKey received earlier →
    event_by (Receives (record { at = at; view = view; tokens = tokens; signal = received })) n es ≡ Some event → EventHasOtherKey trace.start.arrival.key event
signal-others config earlier n trace is at view tokens (signal.Arrived key invite served registration identities) es event own came = absurd (none-some event came)
signal-others config earlier n trace is at view tokens (signal.Request call side key request) es event own came =
    subst (EventHasOtherKey trace.start.arrival.key) (some-same _ event came) (trace-differs config earlier n key trace own is)
signal-others config earlier n trace is at view tokens (signal.Ack call side ack) es event own came = subst (EventHasOtherKey trace.start.arrival.key) (some-same _ event came) tt
signal-others config earlier n trace is at view tokens (signal.Cancel call key cancel invite) es event own came =
    subst (EventHasOtherKey trace.start.arrival.key) (some-same _ event came) (trace-differs config earlier n key trace own is)
signal-others config earlier n trace is at view tokens (signal.Answer key response) es event own came = subst (EventHasOtherKey trace.start.arrival.key) (some-same _ event came) tt
signal-others config earlier n trace is at view tokens (signal.Silent branch method) es event own came = subst (EventHasOtherKey trace.start.arrival.key) (some-same _ event came) tt
signal-others config earlier n trace is at view tokens (signal.Due call what) es event own came = subst (EventHasOtherKey trace.start.arrival.key) (some-same _ event came) tt
signal-others config earlier n trace is at view tokens (signal.Over key) es event own came = subst (EventHasOtherKey trace.start.arrival.key) (some-same _ event came) tt

event-others : (config : CallConfigView) (earlier : List TableOp) (n : ℕ) (trace : CallTraceWithTransfers) → trace_of config n earlier ≡ Some trace → (op : TableOp) (es : List Entry) (event : CallEvent) →
    OpHasOwnKey op earlier → event_by op n es ≡ Some event →
    EventHasOtherKey trace.start.arrival.key event
event-others config earlier n trace is (Receives x) es event own came = signal-others config earlier n trace is x.at x.view x.tokens x.signal es event own came
event-others config earlier n trace is (Releases number side) es event own came = subst (EventHasOtherKey trace.start.arrival.key) (some-same (transfers.Releases side) event came) tt
event-others config earlier n trace is (Restores number away) es event own came = subst (EventHasOtherKey trace.start.arrival.key) (some-same (transfers.Restores away) event came) tt
event-others config earlier n trace is (Finishes number at tokens) es event own came = subst (EventHasOtherKey trace.start.arrival.key) (some-same _ event came) tt
event-others config earlier n trace is (Drops count) es event own came = absurd (none-some event came)

abbrev HasOthers : CallTraceWithTransfers → Type 0
HasOthers trace = EventsHaveOtherKeys trace.start.arrival.key trace.events

goes-others : (opens : Option TraceStart) (came : Option CallEvent) (was : Option CallTraceWithTransfers) (trace : CallTraceWithTransfers) →
    ((earlier : CallTraceWithTransfers) (event : CallEvent) → was ≡ Some earlier → came ≡ Some event →
    EventHasOtherKey earlier.start.arrival.key event) →
    ((earlier : CallTraceWithTransfers) → was ≡ Some earlier → HasOthers earlier) → continued_trace opens came was ≡ Some trace → HasOthers trace
goes-others (Some s) came was trace event before h = subst HasOthers (some-same (record { start = s; events = [] }) trace h) tt
goes-others None came None trace event before h = absurd (none-some trace h)
goes-others None None (Some earlier) trace event before h = subst HasOthers (some-same earlier trace h) (before earlier refl)
goes-others None (Some x) (Some earlier) trace event before h = subst HasOthers (some-same (record earlier { events = x ∷ earlier.events }) trace h)
    (event earlier x refl refl, before earlier refl)

-- ---- every trace

pub trace_others : (config : CallConfigView) (ops : List TableOp) (n : ℕ) (trace : CallTraceWithTransfers) → HaveOwnKeys ops → trace_of config n ops ≡ Some trace → HasOthers trace
unfolding trace_of
trace_others config [] n trace own h = absurd (none-some trace h)
trace_others config (op ∷ earlier) n trace own h =
    go (is_number n (call_of config op (table_after config earlier))) h (λ trace. trace_others config earlier n trace own.1)
  where
    go : (b : Bool) →
        (if b then continued_trace (opening_by config op (table_after config earlier)) (event_by op n (table_after config earlier).entries)
        (trace_of config n earlier) else trace_of config n earlier) ≡ Some trace →
        ((trace : CallTraceWithTransfers) → trace_of config n earlier ≡ Some trace → HasOthers trace) → HasOthers trace
    go true h before =
        goes-others (opening_by config op (table_after config earlier)) (event_by op n (table_after config earlier).entries) (trace_of config n earlier) trace
        (λ was event is came. event-others config earlier n was is op (table_after config earlier).entries event own.0 came) before h
    go false h before = before trace h

-- What a table of calls sends is clean.
use Rattle.std.proofs.Common.{◌≡◌, ℕ, zero, suc, Bool, true, false, List, [], ◌∷◌, ◌++◌, Option, Some, None, length, drop, refl, ap, sym, subst}
use Rattle.std.proofs.lemmas.Option.{none-some}
use Rattle.std.specs.Prelude.{if◌then◌else◌}
use Rattle.mmtel_output.specs.declared.outputs.StepOutput.{StepOutput}
use Rattle.mmtel_transaction.specs.declared.words.Emit.{Emit}
use Rattle.mmtel_types.specs.declared.sides.Side.{Side}
use Rattle.mmtel_call_services.specs.CallConfig.{CallConfigView}
use Rattle.mmtel_call.specs.Detaching.{call_finish, detached_in}
use Rattle.mmtel_call.specs.declared.calls.Call.{Call}
use Rattle.mmtel_call_theorems.specs.NoInjection.Acks.{ReceivedAck, received_acks_after, received_acks_by}
use Rattle.mmtel_call_theorems.specs.NoInjection.Messages.{HasNoInjection}
use Rattle.mmtel_call_theorems.specs.NoInjection.Emits.{Each, EmitHasNoInjection, OutputHasNoInjection}
use Rattle.mmtel_call_theorems.specs.NoInjection.Traces.{AreAmong, EmitsHaveNoInjection, EmitsHaveOwnFields, FinishEmitsHaveNoInjection, SendsOwnFields, TraceStartHasNoInjection, TraceStepHasNoInjection, output_after}
use Rattle.mmtel_call_theorems.proofs.NoInjection.Traces.{back_among, own_among}
use Rattle.mmtel_call_theorems.specs.Continuation.{CallsContinue}
use Rattle.mmtel_call_theorems.specs.Theorems.{ChargingIsExact}
use Rattle.mmtel_call_theorems.specs.CallTrace as traces
use Rattle.mmtel_call_theorems.specs.CallTrace.{TraceStart, items_added}
use Rattle.mmtel_b2bua.specs.Operations.{Drops, Finishes, Receives, Releases, Restores, TableOp, table_after}
use Rattle.mmtel_b2bua.specs.Tables.{Table}
use Rattle.mmtel_b2bua.specs.declared.entries.Entry.{Entry}
use Rattle.mmtel_b2bua.specs.declared.signals.Signal.{Signal}
use Rattle.mmtel_b2bua.specs.declared.signals.Signal.TheVariants as signal
use Rattle.mmtel_b2bua_theorems.specs.NoInjection as clean
use Rattle.mmtel_b2bua_theorems.specs.NoInjection.{CallsSendNoInjection, OpHasNoInjection, ReceivedHasNoInjection, signals}
use Rattle.mmtel_b2bua_theorems.specs.TracesOfTables.{HasNumbers, call_of, continued_trace, emits_of, event_by, is_number, opening_by, trace_of}
use Rattle.mmtel_b2bua_theorems.specs.Outcomes.{HaveEmptyOutputs}
use Rattle.mmtel_b2bua_theorems.specs.TracesWithTransfers as transfers
use Rattle.mmtel_b2bua_theorems.specs.TracesWithTransfers.{CallEvent, CallTraceWithTransfers, call_after, emits_after}
use Rattle.mmtel_b2bua_theorems.proofs.Tabling.{output_own}

-- ---- the input of a call's trace is that of the operations

abbrev EventHasNoInjection : (acks : List ReceivedAck) → CallEvent → Type 0
EventHasNoInjection acks (transfers.Receives x) = TraceStepHasNoInjection acks x
EventHasNoInjection acks (transfers.Releases side) = Unit {0}
EventHasNoInjection acks (transfers.Restores away) = Unit {0}
EventHasNoInjection acks (transfers.Finishes at output) = OutputHasNoInjection acks output

abbrev TraceHasNoInjection : (acks : List ReceivedAck) → CallTraceWithTransfers → Type 0
TraceHasNoInjection acks trace = TraceStartHasNoInjection acks trace.start × Each (EventHasNoInjection acks) trace.events

some-same : {A : Type 0} (x y : A) → Some x ≡ Some y → x ≡ y
some-same x y h = cc

-- by the signal
start-no-injection :
    (acks : List ReceivedAck) (config : CallConfigView) (at : ℕ) (view : Rattle.mmtel_sheet_values.specs.View.SheetsInForce) (tokens : Rattle.mmtel_transaction.specs.Tokens.TokensView) (received : Signal)
    (table : Table) (s : TraceStart) → HasNoInjection config.home →
    clean.RecordsHaveNoInjection view → HasNoInjection tokens.token → clean.SignalHasNoInjection received →
    opening_by config (Receives (record { at = at; view = view; tokens = tokens; signal = received })) table ≡ Some s → TraceStartHasNoInjection acks s
start-no-injection acks config at view tokens (signal.Arrived key invite served registration identities) table s home records token given opens =
    subst (TraceStartHasNoInjection acks) (some-same _ s opens) (record { home = home; sheets = records; invite = given.0; uri = given.1; output = record { token_in = token; out_in = tt } })
start-no-injection acks config at view tokens (signal.Request call side key request) table s home records token given opens = absurd (none-some s opens)
start-no-injection acks config at view tokens (signal.Ack call side ack) table s home records token given opens = absurd (none-some s opens)
start-no-injection acks config at view tokens (signal.Cancel call key cancel invite) table s home records token given opens = absurd (none-some s opens)
start-no-injection acks config at view tokens (signal.Answer key response) table s home records token given opens = absurd (none-some s opens)
start-no-injection acks config at view tokens (signal.Silent branch method) table s home records token given opens = absurd (none-some s opens)
start-no-injection acks config at view tokens (signal.Due call what) table s home records token given opens = absurd (none-some s opens)
start-no-injection acks config at view tokens (signal.Over key) table s home records token given opens = absurd (none-some s opens)

received-no-injection :
    (acks : List ReceivedAck) (at : ℕ) (view : Rattle.mmtel_sheet_values.specs.View.SheetsInForce) (tokens : Rattle.mmtel_transaction.specs.Tokens.TokensView) (received : Signal) (n : ℕ) (es : List Entry)
    (event : CallEvent) →
    clean.RecordsHaveNoInjection view → HasNoInjection tokens.token → clean.SignalHasNoInjection received →
    event_by (Receives (record { at = at; view = view; tokens = tokens; signal = received })) n es ≡ Some event → EventHasNoInjection acks event
received-no-injection acks at view tokens (signal.Arrived key invite served registration identities) n es event records token given came = absurd (none-some event came)
received-no-injection acks at view tokens (signal.Request call side key request) n es event records token given came = subst (EventHasNoInjection acks) (some-same _ event came)
    (record { sheets = records; signal = given; output = record { token_in = token; out_in = tt } })
received-no-injection acks at view tokens (signal.Ack call side ack) n es event records token given came = subst (EventHasNoInjection acks) (some-same _ event came)
    (record { sheets = records; signal = given; output = record { token_in = token; out_in = tt } })
received-no-injection acks at view tokens (signal.Cancel call key cancel invite) n es event records token given came = subst (EventHasNoInjection acks) (some-same _ event came)
    (record { sheets = records; signal = given; output = record { token_in = token; out_in = tt } })
received-no-injection acks at view tokens (signal.Answer key response) n es event records token given came = subst (EventHasNoInjection acks) (some-same _ event came)
    (record { sheets = records; signal = given; output = record { token_in = token; out_in = tt } })
received-no-injection acks at view tokens (signal.Silent branch method) n es event records token given came = subst (EventHasNoInjection acks) (some-same _ event came)
    (record { sheets = records; signal = tt; output = record { token_in = token; out_in = tt } })
received-no-injection acks at view tokens (signal.Due call what) n es event records token given came = subst (EventHasNoInjection acks) (some-same _ event came)
    (record { sheets = records; signal = tt; output = record { token_in = token; out_in = tt } })
received-no-injection acks at view tokens (signal.Over key) n es event records token given came = subst (EventHasNoInjection acks) (some-same _ event came)
    (record { sheets = records; signal = tt; output = record { token_in = token; out_in = tt } })

opened-no-injection : (acks : List ReceivedAck) (config : CallConfigView) (op : TableOp) (table : Table) (s : TraceStart) → HasNoInjection config.home → OpHasNoInjection op →
    opening_by config op table ≡ Some s → TraceStartHasNoInjection acks s
opened-no-injection acks config (Receives x) table s home given opens = start-no-injection acks config x.at x.view x.tokens x.signal table s home given.records given.token given.signal opens
opened-no-injection acks config (Releases number side) table s home given opens = absurd (none-some s opens)
opened-no-injection acks config (Restores number away) table s home given opens = absurd (none-some s opens)
opened-no-injection acks config (Finishes number at tokens) table s home given opens = absurd (none-some s opens)
opened-no-injection acks config (Drops count) table s home given opens = absurd (none-some s opens)

event-no-injection : (acks : List ReceivedAck) (op : TableOp) (n : ℕ) (es : List Entry) (event : CallEvent) → OpHasNoInjection op → event_by op n es ≡ Some event → EventHasNoInjection acks event
event-no-injection acks (Receives x) n es event given came = received-no-injection acks x.at x.view x.tokens x.signal n es event given.records given.token given.signal came
event-no-injection acks (Releases number side) n es event given came = subst (EventHasNoInjection acks) (some-same (transfers.Releases side) event came) tt
event-no-injection acks (Restores number away) n es event given came = subst (EventHasNoInjection acks) (some-same (transfers.Restores away) event came) tt
event-no-injection acks (Finishes number at tokens) n es event given came = subst (EventHasNoInjection acks) (some-same _ event came) (record { token_in = given; out_in = tt })
event-no-injection acks (Drops count) n es event given came = absurd (none-some event came)

goes-no-injection : (acks : List ReceivedAck) (opens : Option TraceStart) (came : Option CallEvent) (was : Option CallTraceWithTransfers) (trace : CallTraceWithTransfers) →
    ((s : TraceStart) → opens ≡ Some s → TraceStartHasNoInjection acks s) → ((event : CallEvent) →
    came ≡ Some event → EventHasNoInjection acks event) →
    ((trace : CallTraceWithTransfers) → was ≡ Some trace → TraceHasNoInjection acks trace) → continued_trace opens came was ≡ Some trace → TraceHasNoInjection acks trace
goes-no-injection acks (Some s) came was trace start event before h = subst (TraceHasNoInjection acks) (some-same (record { start = s; events = [] }) trace h) (start s refl, tt)
goes-no-injection acks None came None trace start event before h = absurd (none-some trace h)
goes-no-injection acks None None (Some earlier) trace start event before h = subst (TraceHasNoInjection acks) (some-same earlier trace h) (before earlier refl)
goes-no-injection acks None (Some x) (Some earlier) trace start event before h =
    let b = before earlier refl in subst (TraceHasNoInjection acks) (some-same (record earlier { events = x ∷ earlier.events }) trace h) (b.0, (event x refl, b.1))

trace-no-injection : (acks : List ReceivedAck) (config : CallConfigView) (ops : List TableOp) (n : ℕ) (trace : CallTraceWithTransfers) → HasNoInjection config.home → Each OpHasNoInjection ops →
    trace_of config n ops ≡ Some trace → TraceHasNoInjection acks trace
unfolding trace_of
trace-no-injection acks config [] n trace home given h = absurd (none-some trace h)
trace-no-injection acks config (op ∷ earlier) n trace home given h =
    go (is_number n (call_of config op (table_after config earlier))) h (trace-no-injection acks config earlier n trace home given.1) (λ trace. trace-no-injection acks config earlier n trace home given.1)
  where
    go : (b : Bool) → (if b then continued_trace (opening_by config op (table_after config earlier)) (event_by op n (table_after config earlier).entries)
        (trace_of config n earlier) else trace_of config n earlier) ≡ Some trace →
        (trace_of config n earlier ≡ Some trace → TraceHasNoInjection acks trace) → ((trace : CallTraceWithTransfers) → trace_of config n earlier ≡ Some trace → TraceHasNoInjection acks trace) →
        TraceHasNoInjection acks trace
    go true h same all =
        goes-no-injection acks (opening_by config op (table_after config earlier)) (event_by op n (table_after config earlier).entries) (trace_of config n earlier) trace
        (λ s opens. opened-no-injection acks config op (table_after config earlier) s home given.0 opens) (λ event came. event-no-injection acks op n
        (table_after config earlier).entries event given.0 came) all h
    go false h same all = same h

-- ---- a trace of signals alone

plain-call : (s : TraceStart) (received : List traces.TraceStep) → call_after s (signals received) ≡ traces.call_after s received
unfolding call_after traces.call_after
plain-call s [] = refl
plain-call s (x ∷ earlier) = ap (λ (c : Call). (traces.next_step s x c).call) (plain-call s earlier)

plain-no-injection : (acks : List ReceivedAck) (received : List traces.TraceStep) → Each (EventHasNoInjection acks) (signals received) → Each (TraceStepHasNoInjection acks) received
plain-no-injection acks [] h = tt
plain-no-injection acks (x ∷ earlier) h = (h.0, plain-no-injection acks earlier h.1)

each-append : (P : Emit → Type 0) (xs ys : List Emit) → Each P xs → Each P ys → Each P (xs ++ ys)
each-append P [] ys h g = g
each-append P (x ∷ xs) ys h g = (h.0, each-append P xs ys h.1 g)

each-drop : (P : Emit → Type 0) (n : ℕ) (xs : List Emit) → Each P xs → Each P (drop n xs)
each-drop P zero xs h = h
each-drop P (suc n) [] h = tt
each-drop P (suc n) (x ∷ xs) h = each-drop P n xs h.1

-- the output of a step whose output was empty before
own-added : (P : Emit → Type 0) (before after : List Emit) → before ≡ [] → Each P after → Each P (items_added before after)
own-added P before after e h = subst (Each P) (ap (λ (l : List Emit). drop (length l) after) (sym e)) h

-- so is each that is sent in a trace, in which each ACK that was received is one of these
abbrev OfTraces : (acks : List ReceivedAck) → (Emit → Type 0) → Type 0
OfTraces acks P = (s : TraceStart) (received : List traces.TraceStep) → TraceStartHasNoInjection acks s → Each (TraceStepHasNoInjection acks) received →
    AreAmong (received_acks_after s received) acks → Each P (output_after s received).out

plain-emits : (acks : List ReceivedAck) (P : Emit → Type 0) → OfTraces acks P →
    (s : TraceStart) (received : List traces.TraceStep) → HaveEmptyOutputs s (signals received) → TraceStartHasNoInjection acks s → Each (TraceStepHasNoInjection acks) received →
    AreAmong (received_acks_after s received) acks →
    Each P (emits_after s (signals received))
unfolding emits_after
plain-emits acks P law s [] step_outputs start given among = own-added P s.output.out _ step_outputs (law s [] start tt tt)
plain-emits acks P law s (x ∷ earlier) step_outputs start given among =
    let before = back_among acks (received_acks_by s.config x.signal (traces.call_after s earlier)) (received_acks_after s earlier) among in
    each-append P (emits_after s (signals earlier)) _ (plain-emits acks P law s earlier step_outputs.1 start given.1 before)
    (subst (λ (c : Call). Each P (items_added x.output.out (traces.next_step s x c).output.out)) (sym (plain-call s earlier)) (own-added P x.output.out _ step_outputs.0 (law s
    (x ∷ earlier) start given among)))

-- ---- of a table

sends : (P : List ReceivedAck → Emit → Type 0) → ((acks : List ReceivedAck) → OfTraces acks (P acks)) → CallsContinue → ChargingIsExact →
    (config : CallConfigView) (ops : List TableOp) (number : ℕ) (start : TraceStart) (received : List traces.TraceStep) → HasNumbers config ops → HasNoInjection config.home → Each OpHasNoInjection ops →
    trace_of config number ops ≡ Some (record { start = start; events = signals received }) → Each (P (received_acks_after start received)) (emits_of config number ops)
sends P law goes charged config ops number start received few home given is =
    let acks : List ReceivedAck = received_acks_after start received in
    let own = output_own goes charged config ops number (record { start = start; events = signals received }) few is in
    let c = trace-no-injection acks config ops number (record { start = start; events = signals received }) home given is in
    subst (Each (P acks)) (sym own.emits) (plain-emits acks (P acks) (law acks) start received own.outputs c.0 (plain-no-injection acks received c.1) (own_among acks))

ends-no-injection : EmitsHaveNoInjection → FinishEmitsHaveNoInjection → CallsContinue → ChargingIsExact →
    (config : CallConfigView) (ops : List TableOp) (number : ℕ) (start : TraceStart) (received : List traces.TraceStep) (side : Side) (at : ℕ) (output : StepOutput) → HasNumbers config ops →
    HasNoInjection config.home → Each OpHasNoInjection ops →
    trace_of config number ops ≡ Some (record { start = start; events = transfers.Finishes at output ∷ transfers.Releases side ∷ signals received }) →
    Each (EmitHasNoInjection (received_acks_after start received)) (emits_of config number ops)
unfolding emits_after call_after
ends-no-injection clean_law finished_law goes charged config ops number start received side at output few home given is =
    let acks : List ReceivedAck = received_acks_after start received in
    let trace : CallTraceWithTransfers = record { start = start; events = transfers.Finishes at output ∷ transfers.Releases side ∷ signals received } in
    let own = output_own goes charged config ops number trace few is in
    let c = trace-no-injection acks config ops number trace home given is in
    let earlier = plain-emits acks (EmitHasNoInjection acks) (clean_law acks) start received own.outputs.1.1 c.0 (plain-no-injection acks received c.1.1.1) (own_among acks) in
    let ended = finished_law acks start received side at output c.0 (plain-no-injection acks received c.1.1.1) (own_among acks) c.1.0 in
    subst (Each (EmitHasNoInjection acks)) (sym own.emits)
    (each-append (EmitHasNoInjection acks) (emits_after start (signals received) ++ []) _ (each-append (EmitHasNoInjection acks) (emits_after start (signals received)) [] earlier tt)
    (subst (λ (c : Call). Each (EmitHasNoInjection acks) (items_added output.out (call_finish start.config at (detached_in c.phase side c) output).output.out)) (sym (plain-call start received))
    (each-drop (EmitHasNoInjection acks) (length output.out) _ ended)))

pub send_no_injection : EmitsHaveNoInjection → EmitsHaveOwnFields → FinishEmitsHaveNoInjection → CallsContinue → ChargingIsExact → CallsSendNoInjection
send_no_injection clean_law lines_law finished_law goes charged = record {
  no_injection = sends EmitHasNoInjection clean_law goes charged;
  own_fields = sends SendsOwnFields lines_law goes charged;
  finished = ends-no-injection clean_law finished_law goes charged;
}

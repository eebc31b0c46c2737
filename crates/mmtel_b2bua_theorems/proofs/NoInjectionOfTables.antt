-- What each operation sends is clean, because what each call of the table sends is; and so is a leg that is detached from one.
use Rattle.std.proofs.Common.{ℕ, zero, suc, Bool, true, false, List, [], ◌∷◌, Option, Some, None, take, drop}
use Rattle.std.specs.Prelude.{IfSome, if◌then◌else◌, position, remove, slice_get, slice_set}
use Rattle.mmtel_output.specs.Outputs.{empty_output}
use Rattle.mmtel_output.specs.declared.outputs.StepOutput.{StepOutput}
use Rattle.mmtel_leg.specs.Dialogues.{request_uri}
use Rattle.mmtel_leg.specs.declared.legs.Released.{Released}
use Rattle.mmtel_sheet_values.specs.View.{SheetsInForce}
use Rattle.mmtel_transaction.specs.Tokens.{TokensView}
use Rattle.mmtel_types.specs.declared.sides.Side.{Side}
use Rattle.mmtel_output.specs.ResponseMatching.{awaited_request_branch, timed_out_branch}
use Rattle.mmtel_call_services.specs.CallConfig.{CallConfigView}
use Rattle.mmtel_call_services.specs.declared.openings.Arrival.{Arrival}
use Rattle.mmtel_call.specs.Closing.{StepResult}
use Rattle.mmtel_call.specs.Settled.{is_settled}
use Rattle.mmtel_call.specs.declared.signals.Signal as calls
use Rattle.mmtel_call.specs.declared.signals.Signal.TheVariants as of_call
use Rattle.mmtel_call_theorems.specs.NoInjection.Acks as acks_of_trace
use Rattle.mmtel_call_theorems.specs.NoInjection.Acks.{ReceivedAck}
use Rattle.mmtel_call_theorems.specs.NoInjection.Messages.{HasNoInjection}
use Rattle.mmtel_call_theorems.specs.NoInjection.Emits.{Each, EmitHasNoInjection, OutputHasNoInjection}
use Rattle.mmtel_call_theorems.specs.NoInjection.Inputs.{ParsedHasNoInjection}
use Rattle.mmtel_call_theorems.specs.NoInjection.CallState.{LegHasNoInjection}
use Rattle.mmtel_call_theorems.specs.NoInjection.Traces as traces
use Rattle.mmtel_call_theorems.specs.NoInjection.Traces.{AreAmong}
use Rattle.mmtel_call_theorems.proofs.NoInjection.Diversions.{IsGood}
use Rattle.mmtel_call_theorems.proofs.NoInjection.CallState.{StepHasNoInjection}
use Rattle.mmtel_call_theorems.proofs.NoInjection.Sending.{each_append, each_drop, each_get, each_take}
use Rattle.mmtel_call_theorems.proofs.NoInjection.Traces.{SoFarHasNoInjection, back_among, detached_no_injection, finished_no_injection, front_among}
use Rattle.mmtel_call_theorems.proofs.NoInjection.Traces.{opened_step_no_injection, own_among, removed_leg_no_injection, restored_no_injection, step_no_injection}
use Rattle.mmtel_base.specs.Numbers.{next_number}
use Rattle.mmtel_b2bua.specs.Entries.{busy_beside, has_received_key, has_sent_branch, is_numbered, kept_entry}
use Rattle.mmtel_b2bua.specs.Operations as histories
use Rattle.mmtel_b2bua.specs.Operations.{Drops, Finishes, ReceivedSignal, Receives, Releases, Restores, TableOp, table_after}
use Rattle.mmtel_b2bua.specs.Detaching.{entries_after_release, entries_after_restore, entry_after_release, entry_after_restore, entry_at, finish_step, leg_in_entry}
use Rattle.mmtel_b2bua.specs.Detaching.{place_of, released_at, released_where, restored_at, restored_where, step_of_finish, step_of_finish_at, step_of_finish_in}
use Rattle.mmtel_b2bua.specs.Tables.{Table, TableStep, busy_with, call_step, entry_after, entry_for, invites_by, opening_step, put_at}
use Rattle.mmtel_b2bua.specs.Tables.{snapshot_at, step_in, step_of_arrival, step_of_entry, step_of_entry_at, step_of_receiver, step_of_signal}
use Rattle.mmtel_b2bua.specs.declared.entries.Entry.{Entry}
use Rattle.mmtel_b2bua.specs.declared.entries.InviteKey.{InviteKey}
use Rattle.mmtel_b2bua.specs.declared.signals.Signal.{Signal}
use Rattle.mmtel_b2bua.specs.declared.signals.Signal.TheVariants as signal
use Rattle.mmtel_compose.specs.ReceivedMessages.{MessageView}
use Rattle.mmtel_b2bua_theorems.specs.Acks.{acked_after, acked_at, acked_by, acked_of}
use Rattle.mmtel_b2bua_theorems.specs.NoInjection.{OpAndLegHaveNoInjection, OperationsSendNoInjection, RecordsHaveNoInjection, ReleasedLegsHaveNoInjection, SignalHasNoInjection}

-- ---- what is kept of calls

abbrev EntryHasNoInjection : (acks : List ReceivedAck) → Entry → Type 0
EntryHasNoInjection acks e = SoFarHasNoInjection acks e.call

record TableStepHasNoInjection (acks : List ReceivedAck) (m : TableStep) : Type 0 where
  pub entries_in : Each (EntryHasNoInjection acks) m.entries
  pub out_in : Each (EmitHasNoInjection acks) m.output.out

each_set : (acks : List ReceivedAck) (es : List Entry) (n : ℕ) (e : Entry) → Each (EntryHasNoInjection acks) es → EntryHasNoInjection acks e → Each (EntryHasNoInjection acks) (slice_set es n e)
each_set acks [] n e all is = tt
each_set acks (x ∷ es) zero e all is = (is, all.1)
each_set acks (x ∷ es) (suc n) e all is = (all.0, each_set acks es n e all.1 is)

each_removed : (acks : List ReceivedAck) (n : ℕ) (es : List Entry) → Each (EntryHasNoInjection acks) es → Each (EntryHasNoInjection acks) (remove es n)
each_removed acks n es all = each_append (EntryHasNoInjection acks) (take n es) (drop (suc n) es) (each_take (EntryHasNoInjection acks) n es all) (each_drop (EntryHasNoInjection acks) (suc n) es all)

-- a call after a step
step-entry : (acks : List ReceivedAck) (invites : List InviteKey) (s : StepResult) (e : Entry) → StepHasNoInjection acks s → EntryHasNoInjection acks (entry_after invites s e)
step-entry acks invites s e is = record { kept = is.kept; phase = is.phase }

put-no-injection : (acks : List ReceivedAck) (place : ℕ) (e : Entry) (es : List Entry) → Each (EntryHasNoInjection acks) es → EntryHasNoInjection acks e → Each (EntryHasNoInjection acks) (put_at place e es)
put-no-injection acks place e es all is = by (is_settled e.call)
  where
    by : (b : Bool) → Each (EntryHasNoInjection acks) (if b then remove (slice_set es place e) place else slice_set es place e)
    by true = each_removed acks place (slice_set es place e) (each_set acks es place e all is)
    by false = each_set acks es place e all is

step-no-injection : (acks : List ReceivedAck) (place : ℕ) (invites : List InviteKey) (e : Entry) (s : StepResult) (es : List Entry) → Each (EntryHasNoInjection acks) es → StepHasNoInjection acks s →
    TableStepHasNoInjection acks (step_of_entry place invites e s es)
step-no-injection acks place invites e s es all is = record { entries_in = put-no-injection acks place (entry_after invites s e) es all (step-entry acks invites s e is); out_in = is.output.out_in }

-- ---- a signal of a call

good : (config : CallConfigView) (at : ℕ) (view : SheetsInForce) (busy : List Rattle.mmtel_types.specs.declared.numbers.Account.Account) → HasNoInjection config.home → RecordsHaveNoInjection view →
    IsGood config (snapshot_at at view busy)
good config at view busy home records = record { home_in = home; sheets_in = records }

-- the ACK that a call receives is one of these
abbrev AckIsAmong : (acks : List ReceivedAck) → CallConfigView → calls.Signal → Entry → Type 0
AckIsAmong acks config s e = AreAmong (acks_of_trace.received_acks_by config s e.call) acks

at-no-injection : (acks : List ReceivedAck) (config : CallConfigView) (at : ℕ) (view : SheetsInForce) (s : calls.Signal) (invites : List InviteKey) (place : ℕ) (o : Option Entry) (es : List Entry) (output : StepOutput) →
    HasNoInjection config.home → RecordsHaveNoInjection view → traces.SignalHasNoInjection s → IfSome o (AckIsAmong acks config s) → OutputHasNoInjection acks output →
    Each (EntryHasNoInjection acks) es → IfSome o (EntryHasNoInjection acks) →
    TableStepHasNoInjection acks (step_of_entry_at config at view s invites place o es output)
unfolding call_step
at-no-injection acks config at view s invites place None es output home records given among had all is = record { entries_in = all; out_in = had.out_in }
at-no-injection acks config at view s invites place (Some e) es output home records given among had all is =
    let busy = busy_beside e.call.opening.number.0 es in
    step-no-injection acks place invites e (call_step config at view busy s output e) es all
    (step_no_injection acks config (snapshot_at at view busy) s e.call output (good config at view busy home records) given among is.phase is.kept had)

in-no-injection : (acks : List ReceivedAck) (config : CallConfigView) (at : ℕ) (view : SheetsInForce) (s : calls.Signal) (invites : List InviteKey) (o : Option ℕ) (es : List Entry) (output : StepOutput) →
    HasNoInjection config.home → RecordsHaveNoInjection view → traces.SignalHasNoInjection s → IfSome (entry_at o es) (AckIsAmong acks config s) → OutputHasNoInjection acks output →
    Each (EntryHasNoInjection acks) es → TableStepHasNoInjection acks (step_in config at view s invites o es output)
in-no-injection acks config at view s invites None es output home records given among had all = record { entries_in = all; out_in = had.out_in }
in-no-injection acks config at view s invites (Some place) es output home records given among had all =
    at-no-injection acks config at view s invites place (slice_get es place) es output home records given among had all (each_get (EntryHasNoInjection acks) es place all)

received-no-injection : (acks : List ReceivedAck) (config : CallConfigView) (at : ℕ) (view : SheetsInForce) (whose : Entry → Bool) (s : calls.Signal) (invites : List InviteKey) (es : List Entry) (output : StepOutput) →
    HasNoInjection config.home → RecordsHaveNoInjection view → traces.SignalHasNoInjection s → IfSome (entry_at (position whose es) es) (AckIsAmong acks config s) → OutputHasNoInjection acks output →
    Each (EntryHasNoInjection acks) es → TableStepHasNoInjection acks (step_of_receiver config at view whose s invites es output)
received-no-injection acks config at view whose s invites es output home records given among had all =
    in-no-injection acks config at view s invites (position whose es) es output home records given among had all

-- ---- an INVITE that opens a call

opened-no-injection : (acks : List ReceivedAck) (config : CallConfigView) (at : ℕ) (view : SheetsInForce) (a : Arrival) (es : List Entry) (output : StepOutput) →
    HasNoInjection config.home → RecordsHaveNoInjection view → ParsedHasNoInjection a.invite.parsed → HasNoInjection (request_uri a.invite.parsed.start) → OutputHasNoInjection acks output →
    Each (EntryHasNoInjection acks) es →
    TableStepHasNoInjection acks (step_of_arrival config at view a es output)
unfolding opening_step
opened-no-injection acks config at view a es output home records is uri had all =
    let busy = busy_with a es in
    let s : StepResult = opening_step config at view busy a output in
    let first : StepHasNoInjection acks s = opened_step_no_injection acks config (snapshot_at at view busy) a output (good config at view busy home records) is uri had in
    record { entries_in = each_append (EntryHasNoInjection acks) es (kept_entry (entry_for a.key s)) all (by (is_settled s.call) s first); out_in = first.output.out_in }
  where
    by : (b : Bool) (s : StepResult) → StepHasNoInjection acks s → Each (EntryHasNoInjection acks) (if b then [] else entry_for a.key s ∷ [])
    by true s first = tt
    by false s first = (record { kept = first.kept; phase = first.phase }, tt)

-- ---- any signal

none_among : (o : Option Entry) → IfSome o (λ (e : Entry). Unit {0})
none_among None = tt
none_among (Some e) = tt

ack_among : (acks : List ReceivedAck) (config : CallConfigView) (side : Side) (ack : MessageView) (o : Option Entry) → AreAmong (acked_at config side ack o) acks →
    IfSome o (AckIsAmong acks config (of_call.Ack side ack))
ack_among acks config side ack None among = tt
ack_among acks config side ack (Some e) among = among

signal-no-injection : (acks : List ReceivedAck) (config : CallConfigView) (at : ℕ) (view : SheetsInForce) (number : ℕ) (s : Signal) (es : List Entry) (output : StepOutput) →
    HasNoInjection config.home → RecordsHaveNoInjection view → SignalHasNoInjection s → AreAmong (acked_of config s es) acks → OutputHasNoInjection acks output → Each (EntryHasNoInjection acks) es →
    TableStepHasNoInjection acks (step_of_signal config at view number s es output)
unfolding step_of_signal
signal-no-injection acks config at view number (signal.Arrived key invite served registration identities) es output home records given among had all =
    opened-no-injection acks config at view (record { number = record { 0 = number }; key = key; invite = invite; served = served; registration = registration; identities = identities }) es output
    home records given.0 given.1 had all
signal-no-injection acks config at view number (signal.Request call side key request) es output home records given among had all =
    received-no-injection acks config at view (is_numbered call.0) (of_call.Request side key request) (invites_by side key request) es output home records given
    (none_among (entry_at (position (is_numbered call.0) es) es)) had all
signal-no-injection acks config at view number (signal.Ack call side ack) es output home records given among had all =
    received-no-injection acks config at view (is_numbered call.0) (of_call.Ack side ack) [] es output home records given (ack_among acks config side ack (entry_at (position (is_numbered call.0) es) es) among) had all
signal-no-injection acks config at view number (signal.Cancel call key cancel invite) es output home records given among had all =
    received-no-injection acks config at view (is_numbered call.0) (of_call.Cancel key cancel invite) [] es output home records given (none_among (entry_at (position (is_numbered call.0) es) es)) had all
signal-no-injection acks config at view number (signal.Answer key response) es output home records given among had all =
    received-no-injection acks config at view (has_sent_branch (awaited_request_branch response)) (of_call.Answer key response) [] es output home records given
    (none_among (entry_at (position (has_sent_branch (awaited_request_branch response)) es) es)) had all
signal-no-injection acks config at view number (signal.Silent branch method) es output home records given among had all =
    received-no-injection acks config at view (has_sent_branch (timed_out_branch branch method)) (of_call.Silent branch method) [] es output home records tt
    (none_among (entry_at (position (has_sent_branch (timed_out_branch branch method)) es) es)) had all
signal-no-injection acks config at view number (signal.Due call what) es output home records given among had all =
    received-no-injection acks config at view (is_numbered call.0) (of_call.Due what) [] es output home records tt (none_among (entry_at (position (is_numbered call.0) es) es)) had all
signal-no-injection acks config at view number (signal.Over key) es output home records given among had all =
    received-no-injection acks config at view (has_received_key key) (of_call.Ended key) [] es output home records tt (none_among (entry_at (position (has_received_key key) es) es)) had all

fresh-no-injection : (acks : List ReceivedAck) (tokens : TokensView) → HasNoInjection tokens.token → OutputHasNoInjection acks (empty_output tokens)
fresh-no-injection acks tokens token = record { token_in = token; out_in = tt }

-- ---- legs

release-no-injection : (acks : List ReceivedAck) (side : Side) (place : ℕ) (o : Option Entry) (es : List Entry) → Each (EntryHasNoInjection acks) es → IfSome o (EntryHasNoInjection acks) →
    Each (EntryHasNoInjection acks) (released_at side place o es)
release-no-injection acks side place None es all is = all
release-no-injection acks side place (Some e) es all is = each_set acks es place (entry_after_release side e) all (detached_no_injection acks e.call.phase side e.call is.phase is.kept)

released-no-injection : (acks : List ReceivedAck) (side : Side) (o : Option ℕ) (es : List Entry) → Each (EntryHasNoInjection acks) es → Each (EntryHasNoInjection acks) (released_where side o es)
released-no-injection acks side None es all = all
released-no-injection acks side (Some place) es all = release-no-injection acks side place (slice_get es place) es all (each_get (EntryHasNoInjection acks) es place all)

back-no-injection : (acks : List ReceivedAck) (away : Released) (place : ℕ) (o : Option Entry) (es : List Entry) → LegHasNoInjection away → Each (EntryHasNoInjection acks) es →
    IfSome o (EntryHasNoInjection acks) → Each (EntryHasNoInjection acks) (restored_at away place o es)
back-no-injection acks away place None es leg all is = all
back-no-injection acks away place (Some e) es leg all is = each_set acks es place (entry_after_restore away e) all (restored_no_injection acks e.call.phase away e.call leg is.phase is.kept)

restored-no-injection : (acks : List ReceivedAck) (away : Released) (o : Option ℕ) (es : List Entry) → LegHasNoInjection away → Each (EntryHasNoInjection acks) es →
    Each (EntryHasNoInjection acks) (restored_where away o es)
restored-no-injection acks away None es leg all = all
restored-no-injection acks away (Some place) es leg all = back-no-injection acks away place (slice_get es place) es leg all (each_get (EntryHasNoInjection acks) es place all)

end-no-injection : (acks : List ReceivedAck) (config : CallConfigView) (at : ℕ) (place : ℕ) (o : Option Entry) (es : List Entry) (output : StepOutput) → OutputHasNoInjection acks output →
    Each (EntryHasNoInjection acks) es → IfSome o (EntryHasNoInjection acks) →
    TableStepHasNoInjection acks (step_of_finish_at config at place o es output)
unfolding finish_step
end-no-injection acks config at place None es output had all is = record { entries_in = all; out_in = had.out_in }
end-no-injection acks config at place (Some e) es output had all is = step-no-injection acks place [] e (finish_step config at output e) es all (finished_no_injection acks config at e.call output is had)

ended-no-injection : (acks : List ReceivedAck) (config : CallConfigView) (at : ℕ) (o : Option ℕ) (es : List Entry) (output : StepOutput) → OutputHasNoInjection acks output →
    Each (EntryHasNoInjection acks) es → TableStepHasNoInjection acks (step_of_finish_in config at o es output)
ended-no-injection acks config at None es output had all = record { entries_in = all; out_in = had.out_in }
ended-no-injection acks config at (Some place) es output had all = end-no-injection acks config at place (slice_get es place) es output had all (each_get (EntryHasNoInjection acks) es place all)

-- the leg that is detached
leg-no-injection : (acks : List ReceivedAck) (side : Side) (o : Option Entry) → IfSome o (EntryHasNoInjection acks) → IfSome (leg_in_entry side o) LegHasNoInjection
leg-no-injection acks side None is = tt
leg-no-injection acks side (Some e) is = removed_leg_no_injection acks e.call.phase side is.phase

found-no-injection : (acks : List ReceivedAck) (o : Option ℕ) (es : List Entry) → Each (EntryHasNoInjection acks) es → IfSome (entry_at o es) (EntryHasNoInjection acks)
found-no-injection acks None es all = tt
found-no-injection acks (Some place) es all = each_get (EntryHasNoInjection acks) es place all

-- ---- each operation

receives-no-injection : (acks : List ReceivedAck) (config : CallConfigView) (x : ReceivedSignal) (table : Table) → HasNoInjection config.home → OpAndLegHaveNoInjection (Receives x) →
    AreAmong (acked_by config (Receives x) table.entries) acks → Each (EntryHasNoInjection acks) table.entries → TableStepHasNoInjection acks (histories.step_on_receive config x table)
receives-no-injection acks config x table home given among all =
    signal-no-injection acks config x.at x.view (next_number table.opened) x.signal table.entries (empty_output x.tokens) home given.records given.signal among (fresh-no-injection acks x.tokens given.token) all

finishes-no-injection : (acks : List ReceivedAck) (config : CallConfigView) (number at : ℕ) (tokens : TokensView) (table : Table) → HasNoInjection tokens.token →
    Each (EntryHasNoInjection acks) table.entries → TableStepHasNoInjection acks (histories.step_on_finish config number at tokens table)
unfolding step_of_finish
finishes-no-injection acks config number at tokens table token all = ended-no-injection acks config at (place_of number table.entries) table.entries (empty_output tokens) (fresh-no-injection acks tokens token) all

entries-no-injection : (acks : List ReceivedAck) (config : CallConfigView) (ops : List TableOp) → HasNoInjection config.home → Each OpAndLegHaveNoInjection ops → AreAmong (acked_after config ops) acks →
    Each (EntryHasNoInjection acks) (table_after config ops).entries
unfolding entries_after_release entries_after_restore
entries-no-injection acks config [] home given among = tt
entries-no-injection acks config (Receives x ∷ earlier) home given among =
    let now : List ReceivedAck = acked_by config (Receives x) (table_after config earlier).entries in
    let before : List ReceivedAck = acked_after config earlier in
    (receives-no-injection acks config x (table_after config earlier) home given.0 (front_among acks now before among)
    (entries-no-injection acks config earlier home given.1 (back_among acks now before among))).entries_in
entries-no-injection acks config (Releases number side ∷ earlier) home given among =
    let es : List Entry = (table_after config earlier).entries in released-no-injection acks side (place_of number es) es (entries-no-injection acks config earlier home given.1 among)
entries-no-injection acks config (Restores number away ∷ earlier) home given among =
    let es : List Entry = (table_after config earlier).entries in restored-no-injection acks away (place_of number es) es given.0 (entries-no-injection acks config earlier home given.1 among)
entries-no-injection acks config (Finishes number at tokens ∷ earlier) home given among =
    (finishes-no-injection acks config number at tokens (table_after config earlier) given.0 (entries-no-injection acks config earlier home given.1 among)).entries_in
entries-no-injection acks config (Drops count ∷ earlier) home given among = entries-no-injection acks config earlier home given.1 among

pub ops_have_no_injection : OperationsSendNoInjection
ops_have_no_injection config ops (Receives x) home given =
    let acks : List ReceivedAck = acked_after config (Receives x ∷ ops) in
    let now : List ReceivedAck = acked_by config (Receives x) (table_after config ops).entries in
    let before : List ReceivedAck = acked_after config ops in
    (receives-no-injection acks config x (table_after config ops) home given.0 (front_among acks now before (own_among acks))
    (entries-no-injection acks config ops home given.1 (back_among acks now before (own_among acks)))).out_in
ops_have_no_injection config ops (Releases number side) home given = tt
ops_have_no_injection config ops (Restores number away) home given = tt
ops_have_no_injection config ops (Finishes number at tokens) home given =
    let acks : List ReceivedAck = acked_after config ops in
    (finishes-no-injection acks config number at tokens (table_after config ops) given.0 (entries-no-injection acks config ops home given.1 (own_among acks))).out_in
ops_have_no_injection config ops (Drops count) home given = tt

pub legs_have_no_injection : ReleasedLegsHaveNoInjection
legs_have_no_injection config ops number side home given =
    let es : List Entry = (table_after config ops).entries in
    let acks : List ReceivedAck = acked_after config ops in
    leg-no-injection acks side (entry_at (place_of number es) es) (found-no-injection acks (place_of number es) es (entries-no-injection acks config ops home given (own_among acks)))

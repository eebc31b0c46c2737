-- The effect of an operation on the table: it opens a call, changes the call to which it belongs, or does nothing.
use Rattle.std.proofs.Common.{◌≡◌, ℕ, Bool, false, List, [], ◌++◌, Some, None, refl, ap, sym, ◌∙◌}
use Rattle.std.proofs.lemmas.List.{append-nil}
use Rattle.std.specs.Prelude.{if◌then◌else◌, find, position, slice_get, slice_set, remove}
use Rattle.std.specs.List.{position_or_len}
use Rattle.mmtel_output.specs.Outputs.{empty_output}
use Rattle.mmtel_leg.specs.declared.legs.Released.{Released}
use Rattle.mmtel_sheet_values.specs.View.{SheetsInForce}
use Rattle.mmtel_transaction.specs.Tokens.{TokensView}
use Rattle.mmtel_types.specs.declared.sides.Side.{Side}
use Rattle.mmtel_output.specs.ResponseMatching.{awaited_request_branch, timed_out_branch}
use Rattle.mmtel_call_services.specs.CallConfig.{CallConfigView}
use Rattle.mmtel_call_services.specs.declared.openings.Arrival.{Arrival}
use Rattle.mmtel_call.specs.Closing.{StepResult}
use Rattle.mmtel_call.specs.Detaching.{detached_in, with_leg_restored}
use Rattle.mmtel_call.specs.Settled.{is_settled}
use Rattle.mmtel_call.specs.declared.calls.Call.{Call}
use Rattle.mmtel_call.specs.declared.calls.Phase.TheVariants.{Detached, Established, Offered, Over}
use Rattle.mmtel_call.specs.declared.calls.Phase.{Phase}
use Rattle.mmtel_call.specs.declared.calls.Stage.TheVariants.{Answered, Departing, Reinviting, Stable}
use Rattle.mmtel_call.specs.declared.signals.Signal as calls
use Rattle.mmtel_call.specs.declared.signals.Signal.TheVariants as of_call
use Rattle.mmtel_call_theorems.specs.CallTrace.{TraceStart}
use Rattle.mmtel_b2bua.specs.Entries.{busy_beside, has_received_key, has_sent_branch, is_numbered}
use Rattle.mmtel_b2bua.specs.Operations.{Drops, Finishes, ReceivedSignal, Receives, Releases, Restores, TableOp, table_after_op}
use Rattle.mmtel_b2bua.specs.Detaching.{can_restore, entries_after_release, entries_after_restore, entry_after_release, entry_after_restore, entry_at, finish_step}
use Rattle.mmtel_b2bua.specs.Detaching.{released_at, released_where, restored_at, restored_where, step_of_finish, step_of_finish_at, step_of_finish_in}
use Rattle.mmtel_b2bua.specs.Tables as tables
use Rattle.mmtel_b2bua.specs.Tables.{Table, TableStep, call_step, invites_by, opening_step, snapshot_at, step_in, step_of_entry, step_of_entry_at, step_of_signal, unchanged_step}
use Rattle.mmtel_b2bua.specs.declared.entries.Entry.{Entry}
use Rattle.mmtel_b2bua.specs.declared.signals.Signal.{Signal}
use Rattle.mmtel_b2bua.specs.declared.signals.Signal.TheVariants as signal
use Rattle.mmtel_b2bua_theorems.specs.TracesOfTables.{IsPutBack, call_of, entry_by, event_by, invites_by_event, invites_in, number_of, op_charging_records, opening_by, out_by, received_event}
use Rattle.mmtel_b2bua_theorems.specs.Outcomes.{HasEmptyOutput, IsFitting}
use Rattle.mmtel_b2bua_theorems.specs.TracesWithTransfers as transfers
use Rattle.mmtel_b2bua_theorems.specs.TracesWithTransfers.{CallEvent, call_by, emits_by}
use Rattle.mmtel_b2bua_theorems.proofs.Tables.{Finds, Found, Lost, changed, finds, left, put, put-is}

-- nothing more may be received for it
abbrev pub gone : Entry → Bool
gone e = is_settled e.call

-- the call at this index is replaced by this one
placed : (p : Entry → Bool) (es : List Entry) (place : ℕ) (e z : Entry) → position_or_len p es ≡ place → slice_get es place ≡ Some e →
    put gone place z es ≡ changed p (λ x. left gone z) es
placed p es place e z at is = put-is gone p (λ x. z) es place e at is

-- one that stays
set-stays : (es : List Entry) (place : ℕ) (z : Entry) → is_settled z.call ≡ false → slice_set es place z ≡ put gone place z es
set-stays es place z h = ap (λ b. if b then remove (slice_set es place z) place else slice_set es place z) (sym h)

-- ---- the result of an operation

-- an event of a call that is in the table
pub record Comes (config : CallConfigView) (op : TableOp) (table : Table) (p : Entry → Bool) (e z : Entry) (event : CallEvent) : Type 0 where
  pub opens : opening_by config op table ≡ None
  pub entry : entry_by op table.entries ≡ Some e
  pub came : event_by op (number_of e) table.entries ≡ Some event
  pub found : find p table.entries ≡ Some e
  pub entries : (table_after_op config op table).entries ≡ changed p (λ x. left gone z) table.entries
  pub opened : (table_after_op config op table).opened ≡ table.opened
  pub call : z.call ≡ call_by config event e.call
  pub invites : z.invites ≡ e.invites ++ invites_by_event event
  pub out : out_by config op table ≡ emits_by config event e.call
  pub rows : op_charging_records config op table ≡ transfers.charging_records_by config event e.call
  pub own : HasEmptyOutput event
  pub fits : IsPutBack op table → IsFitting event e.call

-- no call has an event
pub record IsNobodys (config : CallConfigView) (op : TableOp) (table : Table) : Type 0 where
  pub opens : opening_by config op table ≡ None
  pub entry : entry_by op table.entries ≡ None
  pub entries : (table_after_op config op table).entries ≡ table.entries
  pub opened : (table_after_op config op table).opened ≡ table.opened
  pub out : out_by config op table ≡ []
  pub rows : op_charging_records config op table ≡ []

-- a call is opened
abbrev pub first_entry : TraceStart → Entry
first_entry s = Rattle.mmtel_b2bua_theorems.specs.TracesOfTables.entry_after (record { start = s; events = [] })

pub record IsOpened (config : CallConfigView) (op : TableOp) (table : Table) (s : TraceStart) : Type 0 where
  pub opens : opening_by config op table ≡ Some s
  pub its : s.config ≡ config
  pub number : s.arrival.number.0 ≡ Rattle.mmtel_base.specs.Numbers.next_number table.opened
  pub empty : s.output.out ≡ []
  pub entries : (table_after_op config op table).entries ≡ table.entries ++ left gone (first_entry s)
  pub opened : (table_after_op config op table).opened ≡ Rattle.mmtel_base.specs.Numbers.next_number table.opened
  pub out : out_by config op table ≡ transfers.emits_after s []
  pub rows : op_charging_records config op table ≡ transfers.charging_records_after s []

pub data Effect (config : CallConfigView) (op : TableOp) (table : Table) : Type 0 where
  Opens : (s : TraceStart) → IsOpened config op table s → Effect config op table
  ComesTo : (p : Entry → Bool) → (e z : Entry) → (event : CallEvent) → Comes config op table p e z event → Effect config op table
  Nobodys : IsNobodys config op table → Effect config op table

-- ---- a signal of a call

abbrev of_signal : (at : ℕ) → SheetsInForce → TokensView → Signal → TableOp
of_signal at view tokens s = Receives (record { at = at; view = view; tokens = tokens; signal = s })

-- as all signals except an INVITE without To tag are processed
record IsStepOfSignal (config : CallConfigView) (at : ℕ) (view : SheetsInForce) (tokens : TokensView) (s : Signal) (table : Table) (whose : Entry → Bool) (received : calls.Signal) : Type 0 where
  pub opens : opening_by config (of_signal at view tokens s) table ≡ None
  pub entry : entry_by (of_signal at view tokens s) table.entries ≡ find whose table.entries
  pub came : (n : ℕ) → event_by (of_signal at view tokens s) n table.entries
      ≡ Some (received_event (record { at = at; view = view; tokens = tokens; signal = s }) n table.entries received)
  pub opened : (table_after_op config (of_signal at view tokens s) table).opened ≡ table.opened
  pub moved : Rattle.mmtel_b2bua.specs.Operations.step_on_receive config (record { at = at; view = view; tokens = tokens; signal = s }) table
      ≡ tables.step_of_receiver config at view whose received (invites_in received) table.entries (empty_output tokens)

abbrev step_at : CallConfigView → (at : ℕ) → SheetsInForce → TokensView → List Entry → calls.Signal → Entry → StepResult
step_at config at view tokens es received e = call_step config at view (busy_beside (number_of e) es) received (empty_output tokens) e

step-found : (config : CallConfigView) (at : ℕ) (view : SheetsInForce) (tokens : TokensView) (whose : Entry → Bool) (received : calls.Signal) (es : List Entry) (place : ℕ) (e : Entry) →
    position whose es ≡ Some place → slice_get es place ≡ Some e →
    tables.step_of_receiver config at view whose received (invites_in received) es (empty_output tokens) ≡ step_of_entry place (invites_in received) e (step_at config at view tokens es received e) es
step-found config at view tokens whose received es place e at_place is =
    ap (λ o. step_in config at view received (invites_in received) o es (empty_output tokens)) at_place
    ∙ ap (λ o. step_of_entry_at config at view received (invites_in received) place o es (empty_output tokens)) is

step-lost : (config : CallConfigView) (at : ℕ) (view : SheetsInForce) (tokens : TokensView) (whose : Entry → Bool) (received : calls.Signal) (es : List Entry) → position whose es ≡ None →
    tables.step_of_receiver config at view whose received (invites_in received) es (empty_output tokens) ≡ unchanged_step es (empty_output tokens)
step-lost config at view tokens whose received es lost = ap (λ o. step_in config at view received (invites_in received) o es (empty_output tokens)) lost

signal-effect : (config : CallConfigView) (at : ℕ) (view : SheetsInForce) (tokens : TokensView) (s : Signal) (table : Table) (whose : Entry → Bool) (received : calls.Signal) →
    IsStepOfSignal config at view tokens s table whose received → Finds whose table.entries →
    Effect config (of_signal at view tokens s) table
unfolding call_step
signal-effect config at view tokens s table whose received t (Found place e at_place first is found) =
    let step = step_at config at view tokens table.entries received e in
    let z = tables.entry_after (invites_in received) step e in
    let moved = t.moved ∙ step-found config at view tokens whose received table.entries place e at_place is in
    ComesTo whose e z (received_event (record { at = at; view = view; tokens = tokens; signal = s }) (number_of e) table.entries received) (record {
      opens = t.opens;
      entry = t.entry ∙ found;
      came = t.came (number_of e);
      found = found;
      entries = ap (λ (m : TableStep). m.entries) moved ∙ placed whose table.entries place e z first is;
      opened = t.opened;
      call = refl;
      invites = refl;
      out = ap (λ (m : TableStep). m.output.out) moved;
      rows = ap (λ (m : TableStep). m.output.rows) moved;
      own = refl;
      fits = λ back. tt;
    })
signal-effect config at view tokens s table whose received t (Lost lost none) =
    let moved = t.moved ∙ step-lost config at view tokens whose received table.entries lost in
    Nobodys (record {
      opens = t.opens;
      entry = t.entry ∙ none;
      entries = ap (λ (m : TableStep). m.entries) moved;
      opened = t.opened;
      out = ap (λ (m : TableStep). m.output.out) moved;
      rows = ap (λ (m : TableStep). m.output.rows) moved;
    })

pub receives-effect : (config : CallConfigView) (at : ℕ) (view : SheetsInForce) (tokens : TokensView) (s : Signal) (table : Table) → Effect config (of_signal at view tokens s) table
unfolding step_of_signal opening_step transfers.emits_after transfers.charging_records_after transfers.call_after
receives-effect config at view tokens (signal.Arrived key invite served registration identities) table =
    let arrival : Arrival = record {
      number = record { 0 = Rattle.mmtel_base.specs.Numbers.next_number table.opened };
      key = key;
      invite = invite;
      served = served;
      registration = registration;
      identities = identities;
    } in
    Opens (record { config = config; now = snapshot_at at view (tables.busy_with arrival table.entries); arrival = arrival; output = empty_output tokens })
    (record { opens = refl; its = refl; number = refl; empty = refl; entries = refl; opened = refl; out = refl; rows = refl })
receives-effect config at view tokens (signal.Request call side key request) table =
    signal-effect config at view tokens _ table (is_numbered call.0) (of_call.Request side key request)
    (record { opens = refl; entry = refl; came = λ n. refl; opened = refl; moved = refl }) (finds _ table.entries)
receives-effect config at view tokens (signal.Ack call side ack) table =
    signal-effect config at view tokens _ table (is_numbered call.0) (of_call.Ack side ack) (record { opens = refl; entry = refl; came = λ n. refl; opened = refl; moved = refl })
    (finds _ table.entries)
receives-effect config at view tokens (signal.Cancel call key cancel invite) table =
    signal-effect config at view tokens _ table (is_numbered call.0) (of_call.Cancel key cancel invite)
    (record { opens = refl; entry = refl; came = λ n. refl; opened = refl; moved = refl }) (finds _ table.entries)
receives-effect config at view tokens (signal.Answer key response) table =
    signal-effect config at view tokens _ table (has_sent_branch (awaited_request_branch response)) (of_call.Answer key response)
    (record { opens = refl; entry = refl; came = λ n. refl; opened = refl; moved = refl }) (finds _ table.entries)
receives-effect config at view tokens (signal.Silent branch method) table =
    signal-effect config at view tokens _ table (has_sent_branch (timed_out_branch branch method)) (of_call.Silent branch method)
    (record { opens = refl; entry = refl; came = λ n. refl; opened = refl; moved = refl }) (finds _ table.entries)
receives-effect config at view tokens (signal.Due call what) table =
    signal-effect config at view tokens _ table (is_numbered call.0) (of_call.Due what) (record { opens = refl; entry = refl; came = λ n. refl; opened = refl; moved = refl })
    (finds _ table.entries)
receives-effect config at view tokens (signal.Over key) table =
    signal-effect config at view tokens _ table (has_received_key key) (of_call.Ended key) (record { opens = refl; entry = refl; came = λ n. refl; opened = refl; moved = refl })
    (finds _ table.entries)

-- ---- legs that are detached

-- for each call of the table something may still be received
abbrev pub AllStay : List Entry → Type 0
AllStay es = (p : Entry → Bool) (e : Entry) → find p es ≡ Some e → is_settled e.call ≡ false

detached-stays : (phase : Phase) (side : Side) (c : Call) → is_settled c ≡ false → is_settled (detached_in phase side c) ≡ false
unfolding is_settled
detached-stays (Offered x) side c h = h
detached-stays (Established x (Answered waiting success)) side c h = h
detached-stays (Established x (Departing waiting success)) side c h = h
detached-stays (Established x Stable) side c h = refl
detached-stays (Established x (Reinviting asking q)) side c h = h
detached-stays (Detached detached) side c h = h
detached-stays (Over cause) side c h = h

put-back-stays : (phase : Phase) (away : Released) (c : Call) → is_settled c ≡ false → is_settled (with_leg_restored phase away c) ≡ false
unfolding is_settled
put-back-stays (Offered x) away c h = h
put-back-stays (Established x stage) away c h = h
put-back-stays (Detached detached) away c h = refl
put-back-stays (Over cause) away c h = h

released-effect : (config : CallConfigView) (number : ℕ) (side : Side) (table : Table) → AllStay table.entries → Finds (is_numbered number) table.entries →
    Effect config (Releases number side) table
unfolding entries_after_release
released-effect config number side table stay (Found place e at_place first is found) =
    let z = entry_after_release side e in
    ComesTo (is_numbered number) e z (transfers.Releases side) (record {
      opens = refl;
      entry = found;
      came = refl;
      found = found;
      entries =
          ap (λ o. released_where side o table.entries) at_place
          ∙ ap (λ o. released_at side place o table.entries) is
          ∙ set-stays table.entries place z (detached-stays e.call.phase side e.call (stay (is_numbered number) e found))
          ∙ placed (is_numbered number) table.entries place e z first is;
      opened = refl;
      call = refl;
      invites = sym (append-nil e.invites);
      out = refl;
      rows = refl;
      own = tt;
      fits = λ back. tt;
    })
released-effect config number side table stay (Lost lost none) =
    Nobodys (record { opens = refl; entry = none; entries = ap (λ o. released_where side o table.entries) lost; opened = refl; out = refl; rows = refl })

restored-effect : (config : CallConfigView) (number : ℕ) (away : Released) (table : Table) → AllStay table.entries → Finds (is_numbered number) table.entries →
    Effect config (Restores number away) table
unfolding entries_after_restore
restored-effect config number away table stay (Found place e at_place first is found) =
    let z = entry_after_restore away e in
    ComesTo (is_numbered number) e z (transfers.Restores away) (record {
      opens = refl;
      entry = found;
      came = refl;
      found = found;
      entries =
          ap (λ o. restored_where away o table.entries) at_place
          ∙ ap (λ o. restored_at away place o table.entries) is
          ∙ set-stays table.entries place z (put-back-stays e.call.phase away e.call (stay (is_numbered number) e found))
          ∙ placed (is_numbered number) table.entries place e z first is;
      opened = refl;
      call = refl;
      invites = sym (append-nil e.invites);
      out = refl;
      rows = refl;
      own = tt;
      fits = λ back. ap (λ o. can_restore away o) (sym (ap (λ o. entry_at o table.entries) at_place ∙ is)) ∙ back;
    })
restored-effect config number away table stay (Lost lost none) =
    Nobodys (record { opens = refl; entry = none; entries = ap (λ o. restored_where away o table.entries) lost; opened = refl; out = refl; rows = refl })

pub finished-effect : (config : CallConfigView) (number at : ℕ) (tokens : TokensView) (table : Table) → Finds (is_numbered number) table.entries → Effect config (Finishes number at tokens) table
unfolding step_of_finish finish_step
finished-effect config number at tokens table (Found place e at_place first is found) =
    let z = tables.entry_after [] (finish_step config at (empty_output tokens) e) e in
    let moved : step_of_finish_in config at (Rattle.mmtel_b2bua.specs.Detaching.place_of number table.entries) table.entries (empty_output tokens)
    ≡ step_of_entry place [] e (finish_step config at (empty_output tokens) e) table.entries =
    ap (λ o. step_of_finish_in config at o table.entries (empty_output tokens)) at_place ∙ ap (λ o. step_of_finish_at config at place o table.entries (empty_output tokens)) is in
    ComesTo (is_numbered number) e z (transfers.Finishes at (empty_output tokens)) (record {
      opens = refl;
      entry = found;
      came = refl;
      found = found;
      entries = ap (λ (m : TableStep). m.entries) moved ∙ placed (is_numbered number) table.entries place e z first is;
      opened = refl;
      call = refl;
      invites = refl;
      out = ap (λ (m : TableStep). m.output.out) moved;
      rows = ap (λ (m : TableStep). m.output.rows) moved;
      own = tt;
      fits = λ back. tt;
    })
finished-effect config number at tokens table (Lost lost none) =
    let moved : step_of_finish_in config at (Rattle.mmtel_b2bua.specs.Detaching.place_of number table.entries) table.entries (empty_output tokens) ≡ unchanged_step table.entries (empty_output tokens) =
    ap (λ o. step_of_finish_in config at o table.entries (empty_output tokens)) lost in
    Nobodys (record {
      opens = refl;
      entry = none;
      entries = ap (λ (m : TableStep). m.entries) moved;
      opened = refl;
      out = ap (λ (m : TableStep). m.output.out) moved;
      rows = ap (λ
          (m : TableStep). m.output.rows) moved;
    })

-- ---- any operation

pub effect : (config : CallConfigView) (op : TableOp) (table : Table) → AllStay table.entries → Effect config op table
effect config (Receives x) table stay = receives-effect config x.at x.view x.tokens x.signal table
effect config (Releases number side) table stay = released-effect config number side table stay (finds _ table.entries)
effect config (Restores number away) table stay = restored-effect config number away table stay (finds _ table.entries)
effect config (Finishes number at tokens) table stay = finished-effect config number at tokens table (finds _ table.entries)
effect config (Drops count) table stay = Nobodys (record { opens = refl; entry = refl; entries = refl; opened = refl; out = refl; rows = refl })

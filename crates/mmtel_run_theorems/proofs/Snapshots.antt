-- The state of the run for each signal that a call of it received, and in which step it made each of its diversions.
use Rattle.std.proofs.Common.{◌≡◌, ℕ, ◌-◌, List, [], ◌∷◌, ◌++◌, Option, Some, None, refl, ap, sym, ◌∙◌, subst, Bool, true, false, inl, inr, IfSome, append_assoc}
use Rattle.std.proofs.lemmas.Bool.{eqb-true}
use Rattle.std.specs.Prelude.{◌⊎◌, nat_lt, if◌then◌else◌, option_to_list}
use Rattle.std.specs.Option.{option_map}
use Rattle.std.proofs.lemmas.Option.{none-some, same_Some}
use Rattle.mmtel_b2bua.specs.Entries.{busy_beside}
use Rattle.mmtel_b2bua.specs.Operations.{Drops, Finishes, ReceivedSignal, Receives, Releases, Restores, TableOp, table_after}
use Rattle.mmtel_b2bua.specs.Tables.{snapshot_at}
use Rattle.mmtel_b2bua.specs.declared.entries.Entry.{Entry}
use Rattle.mmtel_b2bua_theorems.specs.TracesOfTables.{arrival_of, call_of, continued_trace, entry_by, event_by, is_number, number_by, opening_by, received_event, signal_of_call, start_by, trace_of}
use Rattle.mmtel_b2bua_theorems.specs.Outcomes.{snapshot_at_diversion, snapshot_by}
use Rattle.mmtel_b2bua_theorems.specs.TracesWithTransfers as transfers
use Rattle.mmtel_b2bua_theorems.specs.TracesWithTransfers.{CallEvent, CallTraceWithTransfers, call_after}
use Rattle.mmtel_call_services.specs.CallConfig.{CallConfigView, calls_among}
use Rattle.mmtel_call_services.specs.declared.openings.Arrival.{Arrival}
use Rattle.mmtel_call.specs.Detaching.{call_finish, detached_in, finish_of_phase, with_leg_restored}
use Rattle.mmtel_call.specs.declared.calls.Call.{Call}
use Rattle.mmtel_call.specs.declared.calls.Phase.{Phase}
use Rattle.mmtel_call.specs.declared.calls.Phase.TheVariants.{Detached, Established, Offered, Over}
use Rattle.mmtel_call.specs.declared.calls.Stage.TheVariants.{Answered, Departing, Reinviting, Stable}
use Rattle.mmtel_call.specs.declared.signals.Signal as calls
use Rattle.mmtel_call_theorems.specs.Outcomes.{initially_remaining}
use Rattle.mmtel_call_theorems.specs.CallTrace as traces
use Rattle.mmtel_call_theorems.specs.CallTrace.{TraceStart}
use Rattle.mmtel_output.specs.Outputs.{empty_output}
use Rattle.mmtel_output.specs.declared.outputs.StepOutput.{StepOutput}
use Rattle.mmtel_directory.specs.declared.directories.Directory.{Directory}
use Rattle.mmtel_records_in_force.specs.Texts.{Texts}
use Rattle.mmtel_leg.specs.declared.legs.Released.{Released}
use Rattle.mmtel_precedence.specs.Calls.{SnapshotView}
use Rattle.mmtel_base.specs.Numbers.{next_number}
use Rattle.mmtel_sheet_grammar.specs.Texts.{stored_sheet}
use Rattle.mmtel_sheet_texts.specs.Texts.{text_at}
use Rattle.mmtel_sheet_values.specs.View.{SheetsInForce, registration_end_in, sheet_in}
use Rattle.mmtel_types.specs.declared.numbers.Account.{Account}
use Rattle.mmtel_types.specs.declared.sides.Side.{Side}
use Rattle.mmtel_run_definitions.specs.Calls.{call_config}
use Rattle.mmtel_run_definitions.specs.Events.{EventRecord}
use Rattle.mmtel_run_definitions.specs.InForce.{CallsSeeWhatIsInForce, LastIsInForce, TextsAreThoseKept, uploads_of}
use Rattle.mmtel_run_definitions.specs.Run.{state_after}
use Rattle.mmtel_run_definitions.specs.Transitions.{RunState}
use Rattle.mmtel_run_theorems.specs.Snapshots.{Later, NotYet, Opening, ReachedIn, ReceivedIn, SnapshotIn, diversions_made_by, inputs_of}
use Rattle.mmtel_run_theorems.proofs.OperationContexts.{AllSeeInForce, OpSeesInForce, SeesRecordsInForce}

-- ---- an event that is no signal makes no diversion

detached-left : (phase : Phase) (side : Side) (c : Call) → (detached_in phase side c).diversions ≡ c.diversions
detached-left (Offered x) side c = refl
detached-left (Established x (Answered waiting success)) side c = refl
detached-left (Established x (Departing waiting success)) side c = refl
detached-left (Established x Stable) side c = refl
detached-left (Established x (Reinviting asking q)) side c = refl
detached-left (Detached detached) side c = refl
detached-left (Over cause) side c = refl

back-left : (phase : Phase) (away : Released) (c : Call) → (with_leg_restored phase away c).diversions ≡ c.diversions
back-left (Offered x) away c = refl
back-left (Established x stage) away c = refl
back-left (Detached detached) away c = refl
back-left (Over cause) away c = refl

call_finish-left : (phase : Phase) (config : CallConfigView) (at : ℕ) (c : Call) (output : StepOutput) → (finish_of_phase phase config at c output).call.diversions ≡ c.diversions
call_finish-left (Offered x) config at c output = refl
call_finish-left (Established x stage) config at c output = refl
call_finish-left (Detached detached) config at c output = refl
call_finish-left (Over cause) config at c output = refl

released-made : (s : TraceStart) (side : Side) (older : List CallEvent) → diversions_made_by s (transfers.Releases side ∷ older) ≡ diversions_made_by s older
unfolding call_after
released-made s side older = let c = call_after s older in ap (λ (d : Rattle.mmtel_call.specs.Calls.DiversionsView). initially_remaining s - d.remaining) (detached-left c.phase side c)

restored-made : (s : TraceStart) (away : Released) (older : List CallEvent) → diversions_made_by s (transfers.Restores away ∷ older) ≡ diversions_made_by s older
unfolding call_after
restored-made s away older = let c = call_after s older in ap (λ (d : Rattle.mmtel_call.specs.Calls.DiversionsView). initially_remaining s - d.remaining) (back-left c.phase away c)

call_finish-made : (s : TraceStart) (at : ℕ) (output : StepOutput) (older : List CallEvent) → diversions_made_by s (transfers.Finishes at output ∷ older) ≡ diversions_made_by s older
unfolding call_after call_finish
call_finish-made s at output older = let c = call_after s older in ap (λ (d : Rattle.mmtel_call.specs.Calls.DiversionsView). initially_remaining s - d.remaining) (call_finish-left c.phase s.config at c output)

-- so it is not the step in which one more was made
made-none : {A : Type 0} (k one more : ℕ) → more ≡ one → nat_lt k one ≡ false → nat_lt k more ≡ true → A
made-none k one more same before after = absurd (let e : false ≡ true = sym before ∙ ap (nat_lt k) (sym same) ∙ after in cc)

module _ (texts_law : TextsAreThoseKept) (last_law : LastIsInForce) (in_force_law : CallsSeeWhatIsInForce)
    (d : Directory) (token : List ℕ) (loaded : Texts) (fuel : ℕ) (whole : List EventRecord) where
  abbrev StoodSo : ℕ → CallTraceWithTransfers → Option Account → SnapshotView → Type 0
  StoodSo number came own now = SnapshotIn (inputs_of d token loaded) fuel whole number came own now

  -- an operation of the call of this number, by which its trace became this one
  record ComesBy (number : ℕ) (op : TableOp) (older : List TableOp) (came : CallTraceWithTransfers) : Type 0 where
    mine : is_number number (call_of (call_config d) op (table_after (call_config d) older)) ≡ true
    comes : trace_of (call_config d) number (op ∷ older) ≡ Some came

  -- the state as the calls got it then
  stood : (number : ℕ) (came : CallTraceWithTransfers) (own : Option Account) (x : ReceivedSignal) (older : List TableOp) → SeesRecordsInForce d token loaded fuel whole x older → ComesBy number (Receives x) older came →
      StoodSo number came own (snapshot_at x.at x.view (option_to_list own ++ busy_beside number (table_after (call_config d) older).entries))
  stood number came own x older t by =
      let w : RunState = state_after d token loaded fuel t.earlier in
      record {
        earlier = t.earlier;
        event = t.event;
        later = t.later;
        in_order = t.in_order;
        received = x;
        before = t.before;
        after = t.newer;
        operations = t.operations ∙ ap (λ (ops : List TableOp). t.newer ++ Receives x ∷ ops) t.is;
        mine = ap (λ (ops : List TableOp). is_number number (call_of (call_config d) (Receives x) (table_after (call_config d) ops))) (sym t.is) ∙ by.mine;
        comes = ap (λ (ops : List TableOp). trace_of (call_config d) number (Receives x ∷ ops)) (sym t.is) ∙ by.comes;
        moment = refl;
        by_then = t.by_then;
        records = λ account.
            ap (λ (view : SheetsInForce). sheet_in view account.0) t.view ∙ (in_force_law w.texts w.registrations account).sheet
            ∙ ap (λ (texts : Texts). option_map stored_sheet (text_at texts account)) (texts_law d token loaded fuel t.earlier)
            ∙ ap (option_map stored_sheet) (last_law (loaded ++ uploads_of d.names t.earlier) account);
        registrations = λ account. ap (λ (view : SheetsInForce). registration_end_in view account.0) t.view ∙ (in_force_law w.texts w.registrations account).ends;
        live = ap (λ (ops : List TableOp). calls_among (option_to_list own ++ busy_beside number (table_after (call_config d) ops).entries)) t.is;
      }

  -- ---- a trace

  -- each signal of it, by its own operation
  abbrev StoodThen : ℕ → TraceStart → CallEvent → List CallEvent → Type 0
  StoodThen number s (transfers.Receives x) older = StoodSo number (record { start = s; events = transfers.Receives x ∷ older }) None x.now
  StoodThen number s (transfers.Releases side) older = Unit {0}
  StoodThen number s (transfers.Restores away) older = Unit {0}
  StoodThen number s (transfers.Finishes at output) older = Unit {0}

  abbrev pub AllStoodThen : ℕ → TraceStart → List CallEvent → Type 0
  AllStoodThen number s [] = Unit {0}
  AllStoodThen number s (x ∷ older) = StoodThen number s x older × AllStoodThen number s older

  pub record TraceStood (number : ℕ) (trace : CallTraceWithTransfers) : Type 0 where
    pub opened : StoodSo number (record { start = trace.start; events = [] }) trace.start.arrival.served.origin trace.start.now
    pub events : AllStoodThen number trace.start trace.events

  -- the call of this number opens by it
  opens-so : (number : ℕ) (x : ReceivedSignal) (older : List TableOp) (a : Arrival) (came : CallTraceWithTransfers) →
      came ≡ record { start = start_by (call_config d) x (table_after (call_config d) older).entries a; events = [] } →
      (a.number.0 ≡ number) → SeesRecordsInForce d token loaded fuel whole x older → ComesBy number (Receives x) older came →
      StoodSo number came a.served.origin (start_by (call_config d) x (table_after (call_config d) older).entries a).now
  opens-so number x older a came is same t by =
      let now : SnapshotView = (start_by (call_config d) x (table_after (call_config d) older).entries a).now in
      subst (λ (n : ℕ). StoodSo n came a.served.origin now) same
      (stood a.number.0 came a.served.origin x older t (subst (λ (n : ℕ). ComesBy n (Receives x) older came) (sym same) by))

  abbrev Before : ℕ → Option CallTraceWithTransfers → Type 0
  Before number was = (earlier : CallTraceWithTransfers) → was ≡ Some earlier → TraceStood number earlier

  goes : (number : ℕ) (x : ReceivedSignal) (older : List TableOp) → SeesRecordsInForce d token loaded fuel whole x older →
      (opens : Option Arrival) (came : Option calls.Signal) (was : Option CallTraceWithTransfers) (met : Option Entry) (trace : CallTraceWithTransfers) → Before number was →
      is_number number (number_by (option_map (start_by (call_config d) x (table_after (call_config d) older).entries) opens) met) ≡ true →
      ComesBy number (Receives x) older trace →
      continued_trace (option_map (start_by (call_config d) x (table_after (call_config d) older).entries) opens) (option_map (received_event x number (table_after (call_config d) older).entries) came) was ≡ Some trace →
      TraceStood number trace
  goes number x older t (Some a) came was met trace before mine by h =
      let new : CallTraceWithTransfers = record { start = start_by (call_config d) x (table_after (call_config d) older).entries a; events = [] } in
      let is : new ≡ trace = same_Some new trace h in
      subst (TraceStood number) is
      (record { opened = opens-so number x older a new refl (eqb-true a.number.0 number mine) t (subst (ComesBy number (Receives x) older) (sym is) by); events = tt })
  goes number x older t None came None met trace before mine by h = absurd (none-some trace h)
  goes number x older t None None (Some earlier) met trace before mine by h = subst (TraceStood number) (same_Some earlier trace h) (before earlier refl)
  goes number x older t None (Some s) (Some earlier) met trace before mine by h =
      let was = before earlier refl in
      let new : CallTraceWithTransfers = record earlier { events = received_event x number (table_after (call_config d) older).entries s ∷ earlier.events } in
      let is : new ≡ trace = same_Some new trace h in
      subst (TraceStood number) is (record {
        opened = was.opened;
        events = (stood number new None x older t (subst (ComesBy number (Receives x) older) (sym is) by), was.events);
      })

  -- what is no signal, or is of no call
  not_received : (number : ℕ) (came : Option CallEvent) (was : Option CallTraceWithTransfers) (trace : CallTraceWithTransfers) →
      ((s : TraceStart) (older : List CallEvent) → IfSome came (λ x. StoodThen number s x older)) → Before number was →
      continued_trace None came was ≡ Some trace → TraceStood number trace
  not_received number came None trace t before h = absurd (none-some trace h)
  not_received number None (Some earlier) trace t before h = subst (TraceStood number) (same_Some earlier trace h) (before earlier refl)
  not_received number (Some x) (Some earlier) trace t before h =
      let was = before earlier refl in
      subst (TraceStood number) (same_Some (record earlier { events = x ∷ earlier.events }) trace h) (record { opened = was.opened; events = (t earlier.start earlier.events, was.events) })

  op-goes : (number : ℕ) (op : TableOp) (older : List TableOp) (was : Option CallTraceWithTransfers) (trace : CallTraceWithTransfers) → OpSeesInForce d token loaded fuel whole op older →
      Before number was → ComesBy number op older trace →
      continued_trace (opening_by (call_config d) op (table_after (call_config d) older)) (event_by op number (table_after (call_config d) older).entries) was ≡ Some trace → TraceStood number trace
  op-goes number (Receives x) older was trace t before by h =
      goes number x older t (arrival_of (next_number (table_after (call_config d) older).opened) x.signal) (signal_of_call x.signal) was
      (entry_by (Receives x) (table_after (call_config d) older).entries) trace before by.mine by h
  op-goes number (Releases call side) older was trace t before by h = not_received number (Some (transfers.Releases side)) was trace (λ s older. tt) before h
  op-goes number (Restores call away) older was trace t before by h = not_received number (Some (transfers.Restores away)) was trace (λ s older. tt) before h
  op-goes number (Finishes call at tokens) older was trace t before by h = not_received number (Some (transfers.Finishes at (empty_output tokens))) was trace (λ s older. tt) before h
  op-goes number (Drops count) older was trace t before by h = not_received number None was trace (λ s older. tt) before h

  pub trace_stood : (number : ℕ) (ops : List TableOp) (trace : CallTraceWithTransfers) → AllSeeInForce d token loaded fuel whole ops → trace_of (call_config d) number ops ≡ Some trace → TraceStood number trace
  unfolding trace_of
  trace_stood number [] trace t h = absurd (none-some trace h)
  trace_stood number (op ∷ older) trace t h =
      go (is_number number (call_of (call_config d) op (table_after (call_config d) older))) refl h (λ trace. trace_stood number older trace t.1)
    where
      go : (b : Bool) → is_number number (call_of (call_config d) op (table_after (call_config d) older)) ≡ b →
          (if b then continued_trace (opening_by (call_config d) op (table_after (call_config d) older)) (event_by op number (table_after (call_config d) older).entries)
          (trace_of (call_config d) number older) else trace_of (call_config d) number older) ≡ Some trace →
          ((trace : CallTraceWithTransfers) → trace_of (call_config d) number older ≡ Some trace → TraceStood number trace) → TraceStood number trace
      go true mine now before = op-goes number op older (trace_of (call_config d) number older) trace t.0 before (record { mine = mine; comes = h }) now
      go false mine now before = before trace now

  -- ---- when it reached its targets

  module _ (number : ℕ) (s : TraceStart) (events : List CallEvent) where
    abbrev whole_trace : CallTraceWithTransfers
    whole_trace = record { start = s; events = events }

    abbrev Reached : ℕ → SnapshotView → Type 0
    Reached k now = ReachedIn (inputs_of d token loaded) fuel whole number whole_trace k now

    abbrev ReceivedWhole : SnapshotView → Type 0
    ReceivedWhole now = ReceivedIn (inputs_of d token loaded) fuel whole number whole_trace now

    abbrev received-so : (x : traces.TraceStep) (newer older : List CallEvent) → events ≡ newer ++ transfers.Receives x ∷ older → StoodThen number s (transfers.Receives x) older → ReceivedWhole x.now
    received-so x newer older is t = record { received = x; earlier = older; later = newer; in_order = is; so = refl; snapshot = t }

    -- a diversion that was made by then
    by-step : (k : ℕ) (x : CallEvent) (newer older : List CallEvent) → events ≡ newer ++ x ∷ older → StoodThen number s x older → nat_lt k (diversions_made_by s older) ≡ false →
        nat_lt k (diversions_made_by s (x ∷ older)) ≡ true →
        Reached k (snapshot_by x (snapshot_at_diversion s older k))
    by-step k (transfers.Receives x) newer older is t before after = Later (received-so x newer older is t) before after
    by-step k (transfers.Releases side) newer older is t before after = made-none k _ _ (released-made s side older) before after
    by-step k (transfers.Restores away) newer older is t before after = made-none k _ _ (restored-made s away older) before after
    by-step k (transfers.Finishes at output) newer older is t before after = made-none k _ _ (call_finish-made s at output older) before after

    one-more : (newer : List CallEvent) (x : CallEvent) (older : List CallEvent) → events ≡ newer ++ x ∷ older → events ≡ (newer ++ x ∷ []) ++ older
    one-more newer x older is = is ∙ sym (append_assoc newer (x ∷ []) older)

    made-so : (k : ℕ) (newer older : List CallEvent) → events ≡ newer ++ older → AllStoodThen number s older → nat_lt k (diversions_made_by s older) ≡ true → Reached k (snapshot_at_diversion s older k)
    unfolding snapshot_at_diversion
    made-so k newer [] is t made = Opening made refl
    made-so k newer (x ∷ older) is t made = go (nat_lt k (diversions_made_by s older)) refl (made-so k (newer ++ x ∷ []) older (one-more newer x older is) t.1)
      where
        go : (b : Bool) → nat_lt k (diversions_made_by s older) ≡ b → (nat_lt k (diversions_made_by s older) ≡ true → Reached k (snapshot_at_diversion s older k)) →
            Reached k (if b then snapshot_at_diversion s older k else snapshot_by x (snapshot_at_diversion s older k))
        go true before earlier = earlier before
        go false before earlier = by-step k x newer older is t.0 before made

    -- the state in some step
    abbrev SomeStep : SnapshotView → Type 0
    SomeStep now = ReceivedWhole now ⊎ (now ≡ s.now)

    some-now : (k : ℕ) (b : Bool) (x : CallEvent) (newer older : List CallEvent) → events ≡ newer ++ x ∷ older → StoodThen number s x older → SomeStep (snapshot_at_diversion s older k) →
        SomeStep (if b then snapshot_at_diversion s older k else snapshot_by x (snapshot_at_diversion s older k))
    some-now k true x newer older is t before = before
    some-now k false (transfers.Receives x) newer older is t before = inl (received-so x newer older is t)
    some-now k false (transfers.Releases side) newer older is t before = before
    some-now k false (transfers.Restores away) newer older is t before = before
    some-now k false (transfers.Finishes at output) newer older is t before = before

    some-step : (k : ℕ) (newer older : List CallEvent) → events ≡ newer ++ older → AllStoodThen number s older → SomeStep (snapshot_at_diversion s older k)
    unfolding snapshot_at_diversion
    some-step k newer [] is t = inr refl
    some-step k newer (x ∷ older) is t =
        some-now k (nat_lt k (diversions_made_by s older)) x newer older is t.0 (some-step k (newer ++ x ∷ []) older (one-more newer x older is) t.1)

    pub reached : (k : ℕ) → AllStoodThen number s events → Reached k (snapshot_at_diversion s events k)
    reached k t = go (nat_lt k (diversions_made_by s events)) refl
      where
        go : (b : Bool) → nat_lt k (diversions_made_by s events) ≡ b → Reached k (snapshot_at_diversion s events k)
        go true made = made-so k [] events refl t made
        go false made = NotYet made (some-step k [] events refl t)

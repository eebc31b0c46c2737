-- Each call of a table takes exactly the steps of its own signals.
use Rattle.std.proofs.Common.{◌≡◌, ◌≢◌, ℕ, ◌+◌, ◌<◌, ◌≤◌, ◌==◌, Bool, true, false, List, [], ◌∷◌, ◌++◌, Option, Some, None, inl, inr, refl, ap, sym, subst, ◌∙◌, arith}
use Rattle.std.proofs.lemmas.Bool.Decides.{nat_tests}
use Rattle.std.proofs.lemmas.List.{append-nil}
use Rattle.std.proofs.lemmas.Option.{none-some}
use Rattle.std.specs.Prelude.{if◌then◌else◌, find, min, ◌⊎◌, ◌^◌, ◌-◌}
use Rattle.mmtel_base.specs.Numbers.{next_number}
use Rattle.mmtel_call_services.specs.CallConfig.{CallConfigView}
use Rattle.mmtel_call_services.specs.declared.openings.Opening.{Opening}
use Rattle.mmtel_call.specs.Settled.{is_settled}
use Rattle.mmtel_call.specs.declared.calls.Call.{Call}
use Rattle.mmtel_call_theorems.specs.CallTrace.{TraceStart, opening_in}
use Rattle.mmtel_b2bua.specs.Entries.{is_numbered}
use Rattle.mmtel_b2bua.specs.Operations.{Drops, Finishes, Receives, Releases, Restores, TableOp, table_after, table_after_op}
use Rattle.mmtel_b2bua.specs.Tables.{is_opening}
use Rattle.mmtel_b2bua.specs.declared.entries.Entry.{Entry}
use Rattle.mmtel_b2bua_theorems.specs.TracesOfTables.{ArePutBack, HasNumbers, call_of, continued_trace, emits_of, entry_after, entry_in, event_by, invites_after}
use Rattle.mmtel_b2bua_theorems.specs.TracesOfTables.{charging_records_of, entry_by, is_number, number_by, number_of, op_charging_records, opening_by, out_by, trace_by, trace_of}
use Rattle.mmtel_b2bua_theorems.specs.Outcomes.{AreFitting, IsFitting}
use Rattle.mmtel_b2bua_theorems.specs.Theorems.{OutputsAreOfTheTrace}
use Rattle.mmtel_b2bua_theorems.specs.TracesWithTransfers as transfers
use Rattle.mmtel_b2bua_theorems.specs.TracesWithTransfers.{CallEvent, CallTraceWithTransfers, call_after, call_by}
use Rattle.mmtel_b2bua_theorems.proofs.TableEffects.{AllStay, Comes, ComesTo, Effect, IsNobodys, IsOpened, Nobodys, Opens, effect, first_entry, gone}
use Rattle.mmtel_b2bua_theorems.proofs.Tables.{Rising, changed, changed-found, changed-others, changed-rising, found-bounded, found-by-number}
use Rattle.mmtel_b2bua_theorems.proofs.Tables.{left, left-found, left-others, left-rising, more-found, more-others, more-rising, none-above}

-- a call remains the one that was opened
abbrev pub Stay : Type 0
Stay = (s : TraceStart) (events : List CallEvent) → (call_after s events).opening ≡ opening_in s

-- ---- numbers

pub number-is : (n m : ℕ) → n ≡ m → (n == m) ≡ true
number-is n m e = grind (arith, nat_tests)

pub number-differs : (n m : ℕ) → n ≢ m → (n == m) ≡ false
number-differs n m e = grind (arith, nat_tests)

pub distinct-numbers : (n m : ℕ) → (n ≡ m) ⊎ (n ≢ m)
distinct-numbers n m = go (n == m) refl
  where
    yes : (n == m) ≡ true → n ≡ m
    yes h = grind (arith, nat_tests)

    no : (n == m) ≡ false → n ≢ m
    no h = grind (arith, nat_tests)

    go : (b : Bool) → (n == m) ≡ b → (n ≡ m) ⊎ (n ≢ m)
    go true h = inl (yes h)
    go false h = inr (no h)

next-small : (n m : ℕ) → min (n + 1) m < m → min (n + 1) m ≡ n + 1
next-small n m e = omega arith

-- numbers only rise
before-small : (m : ℕ) (b : Bool) (n : ℕ) → (if b then min (n + 1) m else n) < m → n < m
before-small m true n e = omega arith
before-small m false n e = e

pub earlier-numbers : (config : CallConfigView) (op : TableOp) (earlier : List TableOp) → HasNumbers config (op ∷ earlier) → HasNumbers config earlier
earlier-numbers config (Receives x) earlier h = before-small (2 ^ 64 - 1) (is_opening x.signal) (table_after config earlier).opened h
earlier-numbers config (Releases number side) earlier h = h
earlier-numbers config (Restores number away) earlier h = h
earlier-numbers config (Finishes number at tokens) earlier h = h
earlier-numbers config (Drops count) earlier h = h

-- ---- what holds of a table after operations

pub record Holds (config : CallConfigView) (ops : List TableOp) : Type 0 where
  pub rising : Rising 0 (table_after config ops).entries (table_after config ops).opened
  pub found : (n : ℕ) → find (is_numbered n) (table_after config ops).entries ≡ entry_in (trace_of config n ops)
  pub unborn : (n : ℕ) → (table_after config ops).opened < n → (emits_of config n ops ≡ []) × (charging_records_of config n ops ≡ [])
  pub brings : (n : ℕ) (trace : CallTraceWithTransfers) → trace_of config n ops ≡ Some trace → OutputsAreOfTheTrace config ops n trace
  pub fits : ArePutBack config ops → (n : ℕ) (trace : CallTraceWithTransfers) → trace_of config n ops ≡ Some trace → AreFitting trace.start trace.events

-- the trace of an entry
pub record IsTraced (l : Option CallTraceWithTransfers) (e : Entry) (trace : CallTraceWithTransfers) : Type 0 where
  pub is : l ≡ Some trace
  pub stays : is_settled (call_after trace.start trace.events) ≡ false
  pub entry : entry_after trace ≡ e

traced-by : (l : Option CallTraceWithTransfers) (e : Entry) → entry_in l ≡ Some e → (trace : CallTraceWithTransfers) × IsTraced l e trace
traced-by None e h = absurd (none-some e h)
traced-by (Some trace) e h = go (is_settled (call_after trace.start trace.events)) refl h
  where
    go : (b : Bool) → is_settled (call_after trace.start trace.events) ≡ b → (if b then None else Some (entry_after trace)) ≡ Some e → (trace2 : CallTraceWithTransfers) × IsTraced (Some trace) e trace2
    go true s h = absurd (none-some e h)
    go false s h = (trace, record { is = refl; stays = s; entry = let same : entry_after trace ≡ e = cc in same })

pub entry-traces : (config : CallConfigView) (ops : List TableOp) (p : Entry → Bool) (e : Entry) → Holds config ops → find p (table_after config ops).entries ≡ Some e →
    (trace : CallTraceWithTransfers) × IsTraced (trace_of config (number_of e) ops) e trace
entry-traces config ops p e holds h =
    let table = table_after config ops in
    traced-by (trace_of config (number_of e) ops) e (sym (holds.found (number_of e)) ∙ found-by-number p 0 table.opened table.entries e holds.rising h)

pub all-stay : (config : CallConfigView) (ops : List TableOp) → Holds config ops → AllStay (table_after config ops).entries
all-stay config ops holds p e h =
    let (trace, l) = entry-traces config ops p e holds h in ap (λ (e : Entry). is_settled e.call) (sym l.entry) ∙ l.stays

-- ---- an operation of no call, or of another call, does not change a trace

abbrev at_number : {A : Type 0} → (n : ℕ) → Option ℕ → List A → List A
at_number n call xs = if is_number n call then xs else []

record Passes (config : CallConfigView) (op : TableOp) (earlier : List TableOp) (n : ℕ) : Type 0 where
  pub trace : trace_of config n (op ∷ earlier) ≡ trace_of config n earlier
  pub emits : emits_of config n (op ∷ earlier) ≡ emits_of config n earlier
  pub rows : charging_records_of config n (op ∷ earlier) ≡ charging_records_of config n earlier

passes : (config : CallConfigView) (op : TableOp) (earlier : List TableOp) (n : ℕ) → is_number n (call_of config op (table_after config earlier)) ≡ false → Passes config op earlier n
unfolding trace_of emits_of charging_records_of
passes config op earlier n h =
    let table = table_after config earlier in
    record {
      trace = ap (λ b. if b then continued_trace (opening_by config op table) (event_by op n table.entries) (trace_of config n earlier) else trace_of config n earlier) h;
      emits = ap (λ b. emits_of config n earlier ++ (if b then out_by config op table else [])) h ∙ append-nil (emits_of config n earlier);
      rows = ap (λ b. charging_records_of config n earlier ++ (if b then op_charging_records config op table else [])) h ∙ append-nil (charging_records_of config n earlier);
    }

passed-brings : (config : CallConfigView) (op : TableOp) (earlier : List TableOp) (n : ℕ) (trace : CallTraceWithTransfers) → Holds config earlier → Passes config op earlier n →
    trace_of config n (op ∷ earlier) ≡ Some trace → OutputsAreOfTheTrace config (op ∷ earlier) n trace
passed-brings config op earlier n trace holds p is =
    let b = holds.brings n trace (sym p.trace ∙ is) in record { opening = b.opening; outputs = b.outputs; emits = p.emits ∙ b.emits; rows = p.rows ∙ b.rows }

-- ---- an operation of no call

nobody-holds : (config : CallConfigView) (op : TableOp) (earlier : List TableOp) → Holds config earlier → IsNobodys config op (table_after config earlier) → Holds config (op ∷ earlier)
nobody-holds config op earlier holds o =
    let call : call_of config op (table_after config earlier) ≡ None = λ i. number_by (o.opens i) (o.entry i) in
    let pass : (n : ℕ) → Passes config op earlier n = λ n. passes config op earlier n (ap (is_number n) call) in
    record {
      rising = subst (λ es. Rising 0 es (table_after_op config op (table_after config earlier)).opened) (sym o.entries) (subst (Rising 0 (table_after config earlier).entries)
          (sym o.opened) holds.rising);
      found = λ n. ap (find (is_numbered n)) o.entries ∙ holds.found n ∙ ap entry_in (sym (pass n).trace);
      unborn = λ n above.
          let u = holds.unborn n (subst (λ m. m < n) o.opened above) in ((pass n).emits ∙ u.0, (pass n).rows ∙ u.1);
      brings = λ n trace is. passed-brings config op earlier n trace holds (pass n) is;
      fits = λ back n trace is. holds.fits back.1 n trace (sym (pass n).trace ∙ is);
    }

-- ---- a call is opened

pub record Begins (config : CallConfigView) (op : TableOp) (earlier : List TableOp) (s : TraceStart) : Type 0 where
  pub trace : trace_of config s.arrival.number.0 (op ∷ earlier) ≡ Some (record { start = s; events = [] })
  pub emits : emits_of config s.arrival.number.0 (op ∷ earlier) ≡ emits_of config s.arrival.number.0 earlier ++ out_by config op (table_after config earlier)
  pub rows : charging_records_of config s.arrival.number.0 (op ∷ earlier) ≡ charging_records_of config s.arrival.number.0 earlier ++ op_charging_records config op (table_after config earlier)

pub begins : (config : CallConfigView) (op : TableOp) (earlier : List TableOp) (s : TraceStart) → opening_by config op (table_after config earlier) ≡ Some s → Begins config op earlier s
unfolding trace_of emits_of charging_records_of
begins config op earlier s opens =
    let table = table_after config earlier in
    let n = s.arrival.number.0 in
    let call : call_of config op table ≡ Some n = ap (λ o. number_by o (entry_by op table.entries)) opens in
    let its : is_number n (call_of config op table) ≡ true = ap (is_number n) call ∙ number-is n n refl in
    record {
      trace =
          ap (λ b. if b then continued_trace (opening_by config op table) (event_by op n table.entries) (trace_of config n earlier) else trace_of config n earlier) its
          ∙ ap (λ o. continued_trace o (event_by op n table.entries) (trace_of config n earlier)) opens;
      emits = ap (λ b. emits_of config n earlier ++ (if b then out_by config op table else [])) its;
      rows = ap (λ b. charging_records_of config n earlier ++ (if b then op_charging_records config op table else [])) its;
    }

opened-holds : Stay → (config : CallConfigView) (op : TableOp) (earlier : List TableOp) (s : TraceStart) → HasNumbers config (op ∷ earlier) → Holds config earlier →
    IsOpened config op (table_after config earlier) s → Holds config (op ∷ earlier)
opened-holds stay config op earlier s few holds o =
    let table = table_after config earlier in
    let n = s.arrival.number.0 in
    let first = first_entry s in
    let small : next_number table.opened < 2 ^ 64 - 1 = subst (λ m. m < 2 ^ 64 - 1) o.opened few in
    let next : n ≡ table.opened + 1 = o.number ∙ next-small table.opened (2 ^ 64 - 1) small in
    let last : (table_after_op config op table).opened ≡ table.opened + 1 = o.opened ∙ next-small table.opened (2 ^ 64 - 1) small in
    let numbered : number_of first ≡ n = ap (λ (o : Opening). o.number.0) (stay s []) in
    let call : call_of config op table ≡ Some n = ap (λ o. number_by o (entry_by op table.entries)) o.opens in
    let begun = begins config op earlier s o.opens in
    let pass : (m : ℕ) → n ≢ m → Passes config op earlier m = λ m other. passes config op earlier m (ap (is_number m) call ∙ number-differs n m other) in
    let above : table.opened < n = omega arith in
    let found_now : find (is_numbered n) (table_after_op config op table).entries ≡ entry_in (trace_of config n (op ∷ earlier)) =
    ap (find (is_numbered n)) o.entries ∙ more-found n table.entries (left gone first) (none-above 0 table.opened n table.entries above holds.rising)
    ∙ left-found gone n first numbered ∙ ap entry_in (sym begun.trace) in
    let brings_now : OutputsAreOfTheTrace config (op ∷ earlier) n (record { start = s; events = [] }) =
    let u = holds.unborn n above in
    record {
      opening = (o.its, refl);
      outputs = o.empty;
      emits = begun.emits ∙ ap (λ l. l ++ out_by config op table) u.0 ∙ o.out;
      rows = begun.rows
          ∙ ap (λ l. l ++ op_charging_records config op table) u.1 ∙ o.rows;
    } in
    record {
      rising =
          subst (λ es. Rising 0 es (table_after_op config op table).opened) (sym o.entries)
          (more-rising 0 table.opened (table_after_op config op table).opened table.entries (left gone first) holds.rising
          (left-rising gone table.opened (table_after_op config op table).opened first (omega arith) (omega arith)));
      found = λ m.
          elim (distinct-numbers n m) [
            | inl same ↦ subst (λ m. find (is_numbered m) (table_after_op config op table).entries ≡ entry_in (trace_of config m (op ∷ earlier))) same found_now
            | inr other ↦
                ap (find (is_numbered m)) o.entries
                ∙ more-others m table.entries (left gone first) (left-others gone m first (subst (λ k. k ≢ m) (sym numbered) other))
                ∙ holds.found m ∙ ap entry_in (sym (pass m other).trace)
          ];
      unborn = λ m higher.
          let other : n ≢ m = omega arith in
          let u = holds.unborn m (omega arith) in ((pass m other).emits ∙ u.0, (pass m other).rows ∙ u.1);
      brings = λ m trace is.
          elim (distinct-numbers n m) [
            | inl same ↦ subst (λ m. trace_of config m (op ∷ earlier) ≡ Some trace → OutputsAreOfTheTrace config (op ∷ earlier) m trace) same (λ is.
                let both : Some (record { start = s; events = [] }) ≡ Some trace = sym begun.trace ∙ is in
                let it : record { start = s; events = [] } ≡ trace = cc in subst (OutputsAreOfTheTrace config (op ∷ earlier) n) it brings_now) is
            | inr other ↦ passed-brings config op earlier m trace holds (pass m other) is
          ];
      fits = λ back m trace is.
          elim (distinct-numbers n m) [
            | inl same ↦ subst (λ m. trace_of config m (op ∷ earlier) ≡ Some trace → AreFitting trace.start trace.events) same (λ is.
                let both : Some (record { start = s; events = [] }) ≡ Some trace = sym begun.trace ∙ is in
                let it : record { start = s; events = [] } ≡ trace = cc in subst (λ (l : CallTraceWithTransfers). AreFitting l.start l.events) it tt) is
            | inr other ↦ holds.fits back.1 m trace (sym (pass m other).trace ∙ is)
          ];
    }

-- ---- an event of a call

pub record GoesOn (config : CallConfigView) (op : TableOp) (earlier : List TableOp) (n : ℕ) (trace : CallTraceWithTransfers) (event : CallEvent) : Type 0 where
  pub is : trace_of config n (op ∷ earlier) ≡ Some (record trace { events = event ∷ trace.events })
  pub emits : emits_of config n (op ∷ earlier) ≡ emits_of config n earlier ++ out_by config op (table_after config earlier)
  pub rows : charging_records_of config n (op ∷ earlier) ≡ charging_records_of config n earlier ++ op_charging_records config op (table_after config earlier)

pub goes-so : (config : CallConfigView) (op : TableOp) (earlier : List TableOp) (n : ℕ) (trace : CallTraceWithTransfers) (event : CallEvent) → opening_by config op (table_after config earlier) ≡ None →
    event_by op n (table_after config earlier).entries ≡ Some event →
    call_of config op (table_after config earlier) ≡ Some n → trace_of config n earlier ≡ Some trace → GoesOn config op earlier n trace event
unfolding trace_of emits_of charging_records_of
goes-so config op earlier n trace event opens came call was =
    let table = table_after config earlier in
    let its : is_number n (call_of config op table) ≡ true = ap (is_number n) call ∙ number-is n n refl in
    record {
      is =
          ap (λ b. if b then continued_trace (opening_by config op table) (event_by op n table.entries) (trace_of config n earlier) else trace_of config n earlier) its
          ∙ (λ i. continued_trace (opens i) (came i) (was i));
      emits = ap (λ b. emits_of config n earlier ++ (if b then out_by config op table else [])) its;
      rows = ap (λ b. charging_records_of config n earlier ++ (if b then op_charging_records config op table else [])) its;
    }

-- the entry after it
record IsNext (e z : Entry) (n : ℕ) (trace : CallTraceWithTransfers) (event : CallEvent) : Type 0 where
  pub entry : z ≡ entry_after (record trace { events = event ∷ trace.events })
  pub number : number_of z ≡ n

next-entry : Stay → (config : CallConfigView) (e z : Entry) (n : ℕ) (trace : CallTraceWithTransfers) (event : CallEvent) → entry_after trace ≡ e → trace.start.config ≡ config → trace.start.arrival.number.0 ≡ n →
    z.call ≡ call_by config event e.call →
    z.invites ≡ e.invites ++ Rattle.mmtel_b2bua_theorems.specs.TracesOfTables.invites_by_event event → IsNext e z n trace event
unfolding call_after
next-entry stay config e z n trace event entry its numbered call invites =
    let later : CallTraceWithTransfers = record trace { events = event ∷ trace.events } in
    let called : z.call ≡ call_after trace.start (event ∷ trace.events) = call ∙ (λ i. call_by (sym its i) event (sym entry i).call) in
    let invited : z.invites ≡ invites_after trace.start (event ∷ trace.events) = invites
    ∙ (λ i. (sym entry i).invites ++ Rattle.mmtel_b2bua_theorems.specs.TracesOfTables.invites_by_event event) in
    record {
      entry = λ i. record { call = called i; invites = invited i };
      number = ap (λ (c : Call). c.opening.number.0) called ∙ ap (λ (o : Opening). o.number.0) (stay trace.start (event ∷ trace.events)) ∙ numbered;
    }

come-brings : (config : CallConfigView) (op : TableOp) (earlier : List TableOp) (p : Entry → Bool) (e z : Entry) (n : ℕ) (trace : CallTraceWithTransfers) (event : CallEvent) → entry_after trace ≡ e →
    OutputsAreOfTheTrace config earlier n trace →
    GoesOn config op earlier n trace event → Comes config op (table_after config earlier) p e z event →
    OutputsAreOfTheTrace config (op ∷ earlier) n (record trace { events = event ∷ trace.events })
unfolding transfers.emits_after transfers.charging_records_after
come-brings config op earlier p e z n trace event entry b g c =
    let its = b.opening.0 in
    record {
      opening = b.opening;
      outputs = (c.own, b.outputs);
      emits = g.emits ∙ (λ i. b.emits i ++ c.out i) ∙ (λ i. transfers.emits_after trace.start trace.events ++ transfers.emits_by (sym its i) event (sym entry i).call);
      rows = g.rows ∙ (λ i. b.rows i ++ c.rows i) ∙ (λ i. transfers.charging_records_after trace.start trace.events ++ transfers.charging_records_by (sym its i) event (sym entry i).call);
    }

come-holds : Stay → (config : CallConfigView) (op : TableOp) (earlier : List TableOp) (p : Entry → Bool) (e z : Entry) (event : CallEvent) → Holds config earlier →
    Comes config op (table_after config earlier) p e z event → Holds config (op ∷ earlier)
come-holds stay config op earlier p e z event holds c =
    let table = table_after config earlier in
    let n = number_of e in
    let (trace, l) = entry-traces config earlier p e holds c.found in
    let b = holds.brings n trace l.is in
    let call : call_of config op table ≡ Some n = λ i. number_by (c.opens i) (c.entry i) in
    let g = goes-so config op earlier n trace event c.opens c.came call l.is in
    let next = next-entry stay config e z n trace event l.entry b.opening.0 b.opening.1 c.call c.invites in
    let pass : (m : ℕ) → n ≢ m → Passes config op earlier m = λ m other. passes config op earlier m (ap (is_number m) call ∙ number-differs n m other) in
    let later : CallTraceWithTransfers = record trace { events = event ∷ trace.events } in
    let low : n ≤ table.opened = found-bounded p 0 table.opened table.entries e holds.rising c.found in
    let found_now : find (is_numbered n) (table_after_op config op table).entries ≡ entry_in (trace_of config n (op ∷ earlier)) =
    ap (find (is_numbered n)) c.entries ∙ changed-found gone p (λ x. z) 0 table.opened table.entries e c.found next.number holds.rising
    ∙ ap (λ (z : Entry). if gone z then None else Some z) next.entry ∙ ap entry_in (sym g.is) in
    let brings_now = come-brings config op earlier p e z n trace event l.entry b g c in
    record {
      rising =
          subst (λ es. Rising 0 es (table_after_op config op table).opened) (sym c.entries)
          (subst (Rising 0 (changed p (λ x. left gone z) table.entries)) (sym c.opened) (changed-rising gone p
          (λ x. z) 0 table.opened table.entries e c.found next.number holds.rising));
      found = λ m.
          elim (distinct-numbers n m) [
            | inl same ↦ subst (λ m. find (is_numbered m) (table_after_op config op table).entries ≡ entry_in (trace_of config m (op ∷ earlier))) same found_now
            | inr other ↦
                ap (find (is_numbered m)) c.entries
                ∙ changed-others gone p (λ x. z) m table.entries e c.found next.number other
                ∙ holds.found m ∙ ap entry_in (sym (pass m other).trace)
          ];
      unborn = λ m above.
          let higher : table.opened < m = subst (λ k. k < m) c.opened above in
          let other : n ≢ m = omega arith in
          let u = holds.unborn m higher in ((pass m other).emits ∙ u.0, (pass m other).rows ∙ u.1);
      brings = λ m trace2 is.
          elim (distinct-numbers n m) [
            | inl same ↦ subst (λ m. trace_of config m (op ∷ earlier) ≡ Some trace2 → OutputsAreOfTheTrace config (op ∷ earlier) m trace2) same (λ is.
                let both : Some later ≡ Some trace2 = sym g.is ∙ is in
                let it : later ≡ trace2 = cc in subst (OutputsAreOfTheTrace config (op ∷ earlier) n) it brings_now) is
            | inr other ↦ passed-brings config op earlier m trace2 holds (pass m other) is
          ];
      fits = λ back m trace2 is.
          elim (distinct-numbers n m) [
            | inl same ↦ subst (λ m. trace_of config m (op ∷ earlier) ≡ Some trace2 → AreFitting trace2.start trace2.events) same (λ is.
                let both : Some later ≡ Some trace2 = sym g.is ∙ is in
                let it : later ≡ trace2 = cc in
                subst (λ (l : CallTraceWithTransfers). AreFitting l.start l.events) it (
                  subst (λ (e : Entry). IsFitting event e.call) (sym l.entry)
                      (c.fits back.0),
                  holds.fits back.1 n trace l.is,
                )) is
            | inr other ↦ holds.fits back.1 m trace2 (sym (pass m other).trace ∙ is)
          ];
    }

-- ---- every list of operations

after-effect : Stay → (config : CallConfigView) (op : TableOp) (earlier : List TableOp) → HasNumbers config (op ∷ earlier) → Holds config earlier → Effect config op (table_after config earlier) →
    Holds config (op ∷ earlier)
after-effect stay config op earlier few holds (Opens s o) = opened-holds stay config op earlier s few holds o
after-effect stay config op earlier few holds (ComesTo p e z event c) = come-holds stay config op earlier p e z event holds c
after-effect stay config op earlier few holds (Nobodys o) = nobody-holds config op earlier holds o

pub holds_after : Stay → (config : CallConfigView) (ops : List TableOp) → HasNumbers config ops → Holds config ops
unfolding trace_of emits_of charging_records_of
holds_after stay config [] few = record {
  rising = omega arith;
  found = λ n. refl;
  unborn = λ n above. (refl, refl);
  brings = λ n trace is. absurd (none-some trace is);
  fits = λ back n trace is. absurd (none-some trace is);
}
holds_after stay config (op ∷ earlier) few =
    let holds = holds_after stay config earlier (earlier-numbers config op earlier few) in
    after-effect stay config op earlier few holds (effect config op (table_after config earlier) (all-stay config earlier holds))

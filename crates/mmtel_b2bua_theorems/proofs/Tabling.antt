-- The claims on every table, put together.
use Rattle.std.proofs.Common.{◌≡◌, ℕ, List, [], ◌∷◌, ◌++◌, None, take, drop, refl, ap, subst, sym, ◌∙◌, append_assoc}
use Rattle.std.proofs.lemmas.List.{append-nil, take-append-drop}
use Rattle.std.proofs.lemmas.Option.{none-some}
use Rattle.mmtel_charging.specs.declared.rows.Row.{Row}
use Rattle.mmtel_call_services.specs.CallConfig.{CallConfigView}
use Rattle.mmtel_call_theorems.specs.Continuation.{CallsContinue}
use Rattle.mmtel_call_theorems.specs.Theorems.{ChargingIsExact, DiversionsAreCounted, ReachesItsOutcome, ShowsItsOutcome, ShowsNothingLater}
use Rattle.mmtel_call_theorems.specs.Session.Theorems.{IsSessionObserved, SessionsAreObserved, SessionsExpireAsObserved}
use Rattle.mmtel_call_theorems.specs.Attempts.Theorems.{AttemptsAreObserved, EndingsAreObserved, PhaseIsObserved}
use Rattle.mmtel_b2bua.specs.Operations.{Drops, Finishes, Receives, Releases, Restores, TableOp, table_after}
use Rattle.mmtel_b2bua.specs.Tables.{Table}
use Rattle.mmtel_b2bua_theorems.specs.TracesOfTables.{all_charging_records, call_of, entry_in, number_by, op_charging_records, out_by, records_handed_after, records_handed_by}
use Rattle.mmtel_b2bua_theorems.specs.Theorems.{CallOutputsAreOfTheTrace, CallsOfTablesAreExact, CallsTakeTheirSteps, ChargingRecordsAreInOrder, OtherOperationsOutputNothing}
use Rattle.mmtel_b2bua_theorems.specs.TracesWithTransfers.{call_after}
use Rattle.mmtel_b2bua_theorems.specs.Observed.{no_reply_after, observed_after, session_after}
use Rattle.mmtel_b2bua_theorems.proofs.Outcomes.{traces_charged, traces_counted, traces_reach, traces_show, traces_stay}
use Rattle.mmtel_b2bua_theorems.proofs.Transactions.{trace_others}
use Rattle.mmtel_b2bua_theorems.proofs.TableEffects.{ComesTo, Effect, Nobodys, Opens, finished-effect, receives-effect}
use Rattle.mmtel_b2bua_theorems.proofs.OwnSteps.{holds_after}
use Rattle.mmtel_b2bua_theorems.proofs.Tables.{finds}
use Rattle.mmtel_b2bua_theorems.proofs.Sessions.{traces_expire, traces_keep}
use Rattle.mmtel_b2bua_theorems.proofs.Observed.{attempts_observed, endings_observed_so, traces_show_throughout}

-- ---- an operation of no call

abbrev OutputsNothing : CallConfigView → TableOp → Table → Type 0
OutputsNothing config op table = (out_by config op table ≡ []) × (op_charging_records config op table ≡ [])

nothing-by : (config : CallConfigView) (op : TableOp) (table : Table) → call_of config op table ≡ None → Effect config op table → OutputsNothing config op table
nothing-by config op table none (Opens s o) = absurd (none-some s.arrival.number.0 (sym none
    ∙ ap (λ opens. number_by opens (Rattle.mmtel_b2bua_theorems.specs.TracesOfTables.entry_by op table.entries)) o.opens))
nothing-by config op table none (ComesTo p e z event c) = absurd (none-some (Rattle.mmtel_b2bua_theorems.specs.TracesOfTables.number_of e) (sym none ∙ (λ i. number_by (c.opens i) (c.entry i))))
nothing-by config op table none (Nobodys o) = (o.out, o.rows)

pub nothing_of_others : OtherOperationsOutputNothing
nothing_of_others config (Receives x) earlier none = nothing-by config (Receives x) (table_after config earlier) none (receives-effect config x.at x.view x.tokens x.signal
    (table_after config earlier))
nothing_of_others config (Releases number side) earlier none = (refl, refl)
nothing_of_others config (Restores number away) earlier none = (refl, refl)
nothing_of_others config (Finishes number at tokens) earlier none =
    nothing-by config (Finishes number at tokens) (table_after config earlier) none (finished-effect config number at tokens (table_after config earlier) (finds _
    (table_after config earlier).entries))
nothing_of_others config (Drops count) earlier none = (refl, refl)

-- ---- CDRs

-- nothing is handed over, and these are filed
more-filed : (handed rows all filed : List Row) → handed ++ rows ≡ all → (handed ++ []) ++ (rows ++ filed) ≡ all ++ filed
more-filed handed rows all filed e = ap (λ l. l ++ (rows ++ filed)) (append-nil handed) ∙ sym (append_assoc handed rows filed) ∙ ap (λ l. l ++ filed) e

as-before : (handed rows all : List Row) → handed ++ rows ≡ all → (handed ++ []) ++ rows ≡ all ++ []
as-before handed rows all e = ap (λ l. l ++ rows) (append-nil handed) ∙ e ∙ sym (append-nil all)

some-handed : (count : ℕ) (handed rows all : List Row) → handed ++ rows ≡ all → (handed ++ take count rows) ++ drop count rows ≡ all ++ []
some-handed count handed rows all e = append_assoc handed (take count rows) (drop count rows) ∙ ap (λ l. handed ++ l) (take-append-drop count rows) ∙ e ∙ sym (append-nil all)

pub in_order : ChargingRecordsAreInOrder
unfolding records_handed_after all_charging_records
in_order config [] = refl
in_order config (Receives x ∷ earlier) = let table = table_after config earlier in more-filed (records_handed_after config earlier) table.rows (all_charging_records config earlier) (op_charging_records config
    (Receives x) table) (in_order config earlier)
in_order config (Releases number side ∷ earlier) = as-before (records_handed_after config earlier) (table_after config earlier).rows (all_charging_records config earlier) (in_order config earlier)
in_order config (Restores number away ∷ earlier) = as-before (records_handed_after config earlier) (table_after config earlier).rows (all_charging_records config earlier) (in_order config earlier)
in_order config (Finishes number at tokens ∷ earlier) =
    let table = table_after config earlier in more-filed (records_handed_after config earlier) table.rows (all_charging_records config earlier) (op_charging_records config (Finishes number at tokens) table)
    (in_order config earlier)
in_order config (Drops count ∷ earlier) = some-handed count (records_handed_after config earlier) (table_after config earlier).rows (all_charging_records config earlier) (in_order config earlier)

-- ---- each call

pub take_steps : CallsContinue → ChargingIsExact → CallsTakeTheirSteps
take_steps law charged config ops number few = (holds_after (traces_stay law charged) config ops few).found number

pub output_own : CallsContinue → ChargingIsExact → CallOutputsAreOfTheTrace
output_own law charged config ops number trace few is = (holds_after (traces_stay law charged) config ops few).brings number trace is

pub calls_exact : CallsContinue → ChargingIsExact → ReachesItsOutcome → ShowsItsOutcome → ShowsNothingLater → AttemptsAreObserved → EndingsAreObserved → DiversionsAreCounted → SessionsAreObserved →
    SessionsExpireAsObserved → CallsOfTablesAreExact
calls_exact law charged comes shows later attempts endings counted sessions expire config ops number trace few is =
    let holds = holds_after (traces_stay law charged) config ops few in
    let own = holds.brings number trace is in
    let charges = traces_charged law charged in
    record {
      in_table = holds.found number ∙ ap entry_in is;
      result = traces_reach law charged comes trace.start trace.events;
      emits = own.emits;
      shown = λ keys. traces_show law charged shows trace.start trace.events (trace_others config ops number trace keys is) own.outputs;
      throughout = λ keys. traces_show_throughout law charged shows later trace.start trace.events (trace_others config ops number trace keys is) own.outputs;
      observed = endings_observed_so law charged attempts endings trace.start trace.events;
      watched =
          subst (λ (config : CallConfigView). PhaseIsObserved config.bound (no_reply_after trace.start trace.events) (call_after trace.start trace.events).acks (call_after trace.start trace.events).phase
          (observed_after trace.start trace.events)) own.opening.0
          (attempts_observed law charged attempts trace.start trace.events);
      session =
          subst (λ (config : CallConfigView). IsSessionObserved config.timer (call_after trace.start trace.events) (session_after trace.start trace.events)) own.opening.0
          (traces_keep law charged sessions trace.start trace.events);
      expires = λ later earlier x number came due. traces_expire law charged sessions expire trace.start earlier x number due;
      counted = traces_counted law charged counted trace.start trace.events;
      answered = charges.answered trace.start trace.events;
      runs = λ back goes. let (run, none) = charges.runs trace.start trace.events (holds.fits back number trace is) goes in (run, own.rows ∙ none);
      filed = λ cause back over. let (none, rows) = charges.filed trace.start trace.events cause (holds.fits back number trace is) over in (none, own.rows ∙ rows);
      ended = λ cause over answered. charges.ended trace.start trace.events cause over answered;
    }

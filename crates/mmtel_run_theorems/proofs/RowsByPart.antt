-- Each CDR of a call is that of the caller's, a target's or a diverting account's part, and none is a participant's.
use Rattle.std.proofs.Common.{◌≡◌, ℕ, ◌<◌, ◌^◌, ◌+◌, suc, Bool, true, false, not, List, [], ◌∷◌, ◌++◌, Option, Some, None, map, refl, sym, ap, ◌∙◌, subst, arith, cond, append-nil}
use Rattle.std.specs.Prelude.{if◌then◌else◌, filter, find, min, ◌-◌, option_to_list}
use Rattle.std.proofs.lemmas.Bool.{eq-eqb}
use Rattle.std.proofs.lemmas.Option.{none-some, same_Some}
use Rattle.mmtel_b2bua.specs.Entries.{is_numbered}
use Rattle.mmtel_b2bua.specs.Operations.{Drops, Finishes, Receives, Releases, Restores, TableOp, table_after}
use Rattle.mmtel_b2bua.specs.Tables.{opened_after}
use Rattle.mmtel_b2bua.specs.declared.entries.Entry.{Entry}
use Rattle.mmtel_b2bua.specs.declared.signals.Signal.{Signal}
use Rattle.mmtel_b2bua.specs.declared.signals.Signal.TheVariants as signal
use Rattle.mmtel_b2bua_theorems.specs.TracesOfTables.{ArePutBack, HasNumbers, all_charging_records, call_of, charging_records_of, continued_trace, entry_by}
use Rattle.mmtel_b2bua_theorems.specs.TracesOfTables.{entry_in, event_by, is_number, is_of, number_by, number_of, op_charging_records, opening_by, trace_of}
use Rattle.mmtel_b2bua_theorems.specs.Outcomes.{call_inputs_after, ending_by_cause, outcome_after}
use Rattle.mmtel_b2bua_theorems.specs.Theorems.{CallIsExact, CallsOfTablesAreExact, CallsTakeTheirSteps, ChargingRecordsAreOfCalls, is_charging_record_of}
use Rattle.mmtel_b2bua_theorems.specs.TracesWithTransfers.{CallEvent, CallTraceWithTransfers, call_after}
use Rattle.mmtel_call_services.specs.ChargingRecords.{last_charging_record, past_answer, past_charging_record, with_answer}
use Rattle.mmtel_call_services.specs.CallConfig.{CallConfigView}
use Rattle.mmtel_call_services.specs.declared.charging_records.Ending.{Ending}
use Rattle.mmtel_call.specs.declared.calls.Phase.{Phase}
use Rattle.mmtel_call.specs.declared.calls.Phase.TheVariants.{Detached, Established, Offered, Over}
use Rattle.mmtel_call_theorems.specs.NoInjection.Emits.{Each}
use Rattle.mmtel_call_theorems.specs.Charging.{charging_records_of_parts, diverting_part, last_part, origin_part, part_of, past_parts, served_part}
use Rattle.mmtel_call_theorems.specs.CallTrace.{TraceStart, is_over}
use Rattle.mmtel_charging.specs.Meters.{MeterView}
use Rattle.mmtel_charging.specs.declared.rows.Kind.{Kind}
use Rattle.mmtel_charging.specs.declared.rows.Row.{Row}
use Rattle.mmtel_precedence.specs.Calls as precedence
use Rattle.mmtel_precedence.specs.Calls.{OutcomeTarget}
use Rattle.mmtel_precedence.specs.Targets.{served_at}
use Rattle.mmtel_types.specs.declared.causes.Cause.{Cause}
use Rattle.mmtel_types.specs.declared.numbers.Account.{Account}
use Rattle.mmtel_types.specs.declared.numbers.CallNo.{CallNo}
use Rattle.mmtel_run_theorems.specs.ChargingRecords.{is_call_row, is_participant}

-- ---- each of two lists

pub each_behind : {A : Type 0} (P : A → Type 0) (xs ys : List A) → Each P xs → Each P ys → Each P (xs ++ ys)
each_behind P [] ys h g = g
each_behind P (x ∷ xs) ys h g = (h.0, each_behind P xs ys h.1 g)

pub each_first : {A : Type 0} (P : A → Type 0) (xs ys : List A) → Each P (xs ++ ys) → Each P xs
each_first P [] ys h = tt
each_first P (x ∷ xs) ys h = (h.0, each_first P xs ys h.1)

pub each_last : {A : Type 0} (P : A → Type 0) (xs ys : List A) → Each P (xs ++ ys) → Each P ys
each_last P [] ys h = h
each_last P (x ∷ xs) ys h = each_last P xs ys h.1

-- ---- the parts of a call

abbrev IsOfCall : Kind → Type 0
IsOfCall kind = is_participant kind ≡ false

abbrev IsPart : MeterView → Type 0
IsPart part = IsOfCall part.kind

abbrev AreParts : List MeterView → Type 0
AreParts parts = Each IsPart parts

abbrev pub IsCallPartRow : Row → Type 0
IsCallPartRow row = is_call_row row ≡ true

abbrev pub AreOfCalls : List Row → Type 0
AreOfCalls rows = Each IsCallPartRow rows

one-part : (kind : Kind) (number : CallNo) (at : ℕ) (account : Option Account) → IsOfCall kind → AreParts (option_to_list (part_of kind number at account))
one-part kind number at None h = tt
one-part kind number at (Some account) h = (h, tt)

past-parts : (call : precedence.CallInputs) (number : CallNo) (k : ℕ) (diverts : Option Account) (targets : List OutcomeTarget) → AreParts (past_parts call number k diverts targets)
past-parts call number k diverts [] = tt
past-parts call number k diverts (target ∷ []) = one-part _ number _ diverts refl
past-parts call number k diverts (target ∷ next ∷ later) =
    let one = option_to_list (diverting_part call number k diverts) in
    let two = option_to_list (served_part call number k target) in
    each_behind IsPart (one ++ two) _ (each_behind IsPart one two (one-part _ number _ diverts refl) (one-part _ number _ (served_at call target.diversion target.uri) refl))
    (past-parts call number (suc k) (served_at call target.diversion target.uri) (next ∷ later))

last-part : (call : precedence.CallInputs) (number : CallNo) (k : ℕ) (targets : List OutcomeTarget) → AreParts (option_to_list (last_part call number k targets))
last-part call number k [] = tt
last-part call number k (target ∷ []) = one-part _ number _ (served_at call target.diversion target.uri) refl
last-part call number k (target ∷ next ∷ later) = last-part call number (suc k) (next ∷ later)

answer-kind : (answered : Option ℕ) (part : MeterView) → (with_answer answered part).kind ≡ part.kind
answer-kind None part = refl
answer-kind (Some at) part = refl

past-rows : (end : Ending) (parts : List MeterView) → AreParts parts → AreOfCalls (map (past_charging_record end) parts)
unfolding past_charging_record
past-rows end [] h = tt
past-rows end (part ∷ parts) h =
    (ap (λ (kind : Kind). not (is_participant kind)) (answer-kind (past_answer part.kind end.answered) part) ∙ ap (λ (b : Bool). not b) h.0, past-rows end parts h.1)

last-rows : (end : Ending) (parts : List MeterView) → AreParts parts → AreOfCalls (map (last_charging_record end) parts)
unfolding last_charging_record
last-rows end [] h = tt
last-rows end (part ∷ parts) h = (ap (λ (kind : Kind). not (is_participant kind)) (answer-kind end.answered part) ∙ ap (λ (b : Bool). not b) h.0, last-rows end parts h.1)

charges : (end : Ending) (call : precedence.CallInputs) (number : CallNo) (targets : List OutcomeTarget) → AreOfCalls (charging_records_of_parts end call number targets)
charges end call number targets =
    let first = map (past_charging_record end) (option_to_list (origin_part call number)) in
    let past = map (past_charging_record end) (past_parts call number 0 None targets) in
    each_behind IsCallPartRow (first ++ past) _
    (each_behind IsCallPartRow first past (past-rows end (option_to_list (origin_part call number)) (one-part _ number _ call.served.origin refl))
    (past-rows end (past_parts call number 0 None targets) (past-parts call number 0 None targets)))
    (last-rows end (option_to_list (last_part call number 0 targets)) (last-part call number 0 targets))

-- ---- numbers

fewer-signal : (s : Signal) (n : ℕ) → opened_after s n < 2 ^ 64 - 1 → n < 2 ^ 64 - 1
fewer-signal (signal.Arrived key invite served registration identities) n h = let f : min (n + 1) (2 ^ 64 - 1) < 2 ^ 64 - 1 = h in omega (arith, f)
fewer-signal (signal.Request call side key request) n h = h
fewer-signal (signal.Ack call side ack) n h = h
fewer-signal (signal.Cancel call key cancel invite) n h = h
fewer-signal (signal.Answer key response) n h = h
fewer-signal (signal.Silent branch method) n h = h
fewer-signal (signal.Due call what) n h = h
fewer-signal (signal.Over key) n h = h

fewer : (config : CallConfigView) (op : TableOp) (older : List TableOp) → HasNumbers config (op ∷ older) → HasNumbers config older
fewer config (Receives x) older h = fewer-signal x.signal (table_after config older).opened h
fewer config (Releases number side) older h = h
fewer config (Restores number away) older h = h
fewer config (Finishes number at tokens) older h = h
fewer config (Drops count) older h = h

-- ---- a number without a trace has no CDRs

-- where one passes the first test and the second, one passes the second
finds-other : (p q : Entry → Bool) (es : List Entry) (e : Entry) → find p es ≡ Some e → q e ≡ true → find q es ≡ None → ⊥
finds-other p q [] e h g none = none-some e h
finds-other p q (x ∷ es) e h g none = go (p x) (q x) refl h none (λ h none. finds-other p q es e h g none)
  where
    go : (a b : Bool) → q x ≡ b → cond a (Some x) (find p es) ≡ Some e → cond b (Some x) (find q es) ≡ None → (find p es ≡ Some e → find q es ≡ None → ⊥) → ⊥
    go a true is h none later = none-some x (sym none)
    go true false is h none later = let same : x ≡ e = same_Some x e h in absurd (let f : false ≡ true = sym is ∙ (ap q same ∙ g) in cc)
    go false false is h none later = later h none

met-numbered : (op : TableOp) (n : ℕ) (es : List Entry) (e : Entry) → entry_by op es ≡ Some e → is_numbered n e ≡ true → find (is_numbered n) es ≡ None → ⊥
met-numbered (Receives x) n es e met is none = finds-other (is_of x.signal) (is_numbered n) es e met is none
met-numbered (Releases number side) n es e met is none = finds-other (is_numbered number) (is_numbered n) es e met is none
met-numbered (Restores number away) n es e met is none = finds-other (is_numbered number) (is_numbered n) es e met is none
met-numbered (Finishes number at tokens) n es e met is none = finds-other (is_numbered number) (is_numbered n) es e met is none
met-numbered (Drops count) n es e met is none = none-some e met

numbered : (n : ℕ) (e : Entry) → is_number n (Some (number_of e)) ≡ true → is_numbered n e ≡ true
unfolding is_numbered
numbered n e h = h

-- for a call that no operation opens
no-trace : (opens : Option TraceStart) (came : Option CallEvent) (was : Option CallTraceWithTransfers) → continued_trace opens came was ≡ None → (opens ≡ None) × (was ≡ None)
no-trace (Some s) came was h = absurd (none-some (record { start = s; events = [] }) (sym h))
no-trace None came None h = (refl, refl)
no-trace None None (Some trace) h = absurd (none-some trace (sym h))
no-trace None (Some x) (Some trace) h = absurd (none-some (record trace { events = x ∷ trace.events }) (sym h))

met-by-number : (opens : Option TraceStart) (met : Option Entry) (n : ℕ) → opens ≡ None → is_number n (number_by opens met) ≡ true → (e : Entry) × (met ≡ Some e) × (is_numbered n e ≡ true)
met-by-number (Some s) met n none h = absurd (none-some s (sym none))
met-by-number None None n none h = absurd (let f : false ≡ true = h in cc)
met-by-number None (Some e) n none h = (e, refl, numbered n e h)

module _ (steps : CallsTakeTheirSteps) (config : CallConfigView) (n : ℕ) where
  no-rows : (ops : List TableOp) → HasNumbers config ops → trace_of config n ops ≡ None → charging_records_of config n ops ≡ []
  unfolding trace_of charging_records_of
  no-rows [] few h = refl
  no-rows (op ∷ older) few h =
      let table = table_after config older in
      let fewer_older : HasNumbers config older = fewer config op older few in
      go (is_number n (call_of config op table)) refl h (λ none. no-rows older fewer_older none) (λ is none.
      let nothing = no-trace (opening_by config op table) (event_by op n table.entries) (trace_of config n older) none in
      let met = met-by-number (opening_by config op table) (entry_by op table.entries) n nothing.0 is in
      met-numbered op n table.entries met.0 met.1 met.2 (steps config older n fewer_older ∙ ap entry_in nothing.1))
    where
      go : (b : Bool) → is_number n (call_of config op (table_after config older)) ≡ b →
          (if b then continued_trace (opening_by config op (table_after config older)) (event_by op n (table_after config older).entries) (trace_of config n older) else trace_of config n older) ≡ None →
          (trace_of config n older ≡ None → charging_records_of config n older ≡ []) →
          (is_number n (call_of config op (table_after config older)) ≡ true →
          continued_trace (opening_by config op (table_after config older)) (event_by op n (table_after config older).entries) (trace_of config n older) ≡ None → ⊥) →
          charging_records_of config n older ++ (if b then op_charging_records config op (table_after config older) else []) ≡ []
      go true is h before never = absurd (never is h)
      go false is h before never = append-nil (charging_records_of config n older) ∙ before h

-- ---- the CDRs of a number

over-cause : (phase : Phase) → is_over phase ≡ true → (cause : Cause) × (phase ≡ Over cause)
over-cause (Offered x) h = absurd (let e : false ≡ true = h in cc)
over-cause (Established x stage) h = absurd (let e : false ≡ true = h in cc)
over-cause (Detached detached) h = absurd (let e : false ≡ true = h in cc)
over-cause (Over cause) h = (cause, refl)

module _ (steps : CallsTakeTheirSteps) (exact : CallsOfTablesAreExact) (config : CallConfigView) (ops : List TableOp) (few : HasNumbers config ops) (put : ArePutBack config ops) where
  trace-rows : (n : ℕ) (trace : CallTraceWithTransfers) → CallIsExact config ops n trace → AreOfCalls (charging_records_of config n ops)
  trace-rows n trace is = go (is_over (call_after trace.start trace.events).phase) refl
    where
      go : (b : Bool) → is_over (call_after trace.start trace.events).phase ≡ b → AreOfCalls (charging_records_of config n ops)
      go false goes = subst AreOfCalls (sym (is.runs put goes).1) tt
      go true over =
          let (cause, ends) = over-cause (call_after trace.start trace.events).phase over in
          subst AreOfCalls (sym (is.filed cause put ends).1)
          (charges (ending_by_cause trace.start trace.events cause) (call_inputs_after trace.start trace.events) trace.start.arrival.number (outcome_after trace.start trace.events).targets)

  number-rows : (n : ℕ) → AreOfCalls (charging_records_of config n ops)
  number-rows n = go (trace_of config n ops) refl
    where
      go : (o : Option CallTraceWithTransfers) → trace_of config n ops ≡ o → AreOfCalls (charging_records_of config n ops)
      go None none = subst AreOfCalls (sym (no-rows steps config n ops few none)) tt
      go (Some trace) is = trace-rows n trace (exact config ops n trace few is)

-- ---- and so all CDRs

later-kept : (n : ℕ) (row : Row) (rows : List Row) → AreOfCalls (filter (is_charging_record_of n) (row ∷ rows)) → AreOfCalls (filter (is_charging_record_of n) rows)
later-kept n row rows h = go (is_charging_record_of n row) h
  where
    go : (b : Bool) → AreOfCalls (cond b (row ∷ filter (is_charging_record_of n) rows) (filter (is_charging_record_of n) rows)) → AreOfCalls (filter (is_charging_record_of n) rows)
    go true h = h.1
    go false h = h

by-numbers : (rows : List Row) → ((n : ℕ) → AreOfCalls (filter (is_charging_record_of n) rows)) → AreOfCalls rows
by-numbers [] h = tt
by-numbers (row ∷ rows) h =
    let own : is_charging_record_of row.call.0 row ≡ true = eq-eqb row.call.0 row.call.0 refl in
    let first : AreOfCalls (row ∷ filter (is_charging_record_of row.call.0) rows) =
    subst (λ (b : Bool). AreOfCalls (cond b (row ∷ filter (is_charging_record_of row.call.0) rows) (filter (is_charging_record_of row.call.0) rows))) own (h row.call.0) in
    (first.0, by-numbers rows (λ n. later-kept n row rows (h n)))

pub calls_are_of_calls : CallsTakeTheirSteps → CallsOfTablesAreExact → ChargingRecordsAreOfCalls → (config : CallConfigView) (ops : List TableOp) → HasNumbers config ops → ArePutBack config ops →
    AreOfCalls (all_charging_records config ops)
calls_are_of_calls steps exact own config ops few put =
    by-numbers (all_charging_records config ops) (λ n. subst AreOfCalls (sym (own config ops n few put)) (number-rows steps exact config ops few put n))

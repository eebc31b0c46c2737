-- Among all CDRs those of a call are the CDRs of its operations.
use Rattle.std.proofs.Common.{◌≡◌, ◌≢◌, ℕ, suc, Bool, true, false, List, [], ◌∷◌, ◌++◌, Option, Some, None, inl, inr, map, refl, ap, sym, cond, subst, ◌∙◌}
use Rattle.std.proofs.lemmas.List.Elements.{filter-append}
use Rattle.std.proofs.lemmas.Option.{none-some}
use Rattle.std.specs.Prelude.{if◌then◌else◌, filter, option_to_list}
use Rattle.mmtel_charging.specs.Meters.{MeterView}
use Rattle.mmtel_charging.specs.declared.rows.Kind.{Kind}
use Rattle.mmtel_charging.specs.declared.rows.Row.{Row}
use Rattle.mmtel_precedence.specs.Calls as precedence
use Rattle.mmtel_precedence.specs.Calls.{OutcomeTarget}
use Rattle.mmtel_precedence.specs.Targets.{served_at}
use Rattle.mmtel_types.specs.declared.causes.Cause.{Cause}
use Rattle.mmtel_types.specs.declared.numbers.Account.{Account}
use Rattle.mmtel_types.specs.declared.numbers.CallNo.{CallNo}
use Rattle.mmtel_call_services.specs.ChargingRecords.{last_charging_record, past_answer, past_charging_record, with_answer}
use Rattle.mmtel_call_services.specs.CallConfig.{CallConfigView}
use Rattle.mmtel_call_services.specs.declared.charging_records.Ending.{Ending}
use Rattle.mmtel_call.specs.declared.calls.Phase.TheVariants.{Detached, Established, Offered, Over}
use Rattle.mmtel_call.specs.declared.calls.Phase.{Phase}
use Rattle.mmtel_call_theorems.specs.Charging.{charging_records_of_parts, diverting_part, last_part, origin_part, part_of, past_parts, served_part}
use Rattle.mmtel_call_theorems.specs.Continuation.{CallsContinue}
use Rattle.mmtel_call_theorems.specs.Theorems.{ChargingIsExact}
use Rattle.mmtel_call_theorems.specs.CallTrace.{is_over}
use Rattle.mmtel_b2bua.specs.Operations.{TableOp, table_after}
use Rattle.mmtel_b2bua_theorems.specs.TracesOfTables.{ArePutBack, HasNumbers, all_charging_records, call_of, charging_records_of, entry_by, is_number, number_by, number_of, op_charging_records, trace_of}
use Rattle.mmtel_b2bua_theorems.specs.Outcomes.{call_inputs_after, charges_due_after, ending_by_cause, outcome_after}
use Rattle.mmtel_b2bua_theorems.specs.Theorems.{ChargingRecordsAreOfCalls, is_charging_record_of}
use Rattle.mmtel_b2bua_theorems.specs.TracesWithTransfers as transfers
use Rattle.mmtel_b2bua_theorems.specs.TracesWithTransfers.{CallTraceWithTransfers, call_after}
use Rattle.mmtel_b2bua_theorems.proofs.Outcomes.{traces_charged, traces_stay}
use Rattle.mmtel_b2bua_theorems.proofs.TableEffects.{ComesTo, Effect, Nobodys, Opens, effect}
use Rattle.mmtel_b2bua_theorems.proofs.OwnSteps.{Holds, all-stay, begins, distinct-numbers, earlier-numbers, entry-traces, goes-so, holds_after, number-differs, number-is}
use Rattle.mmtel_b2bua_theorems.proofs.Tabling.{nothing_of_others}

-- ---- CDRs and parts of one call

abbrev AllOf : (n : ℕ) → List Row → Type 0
AllOf n [] = Unit {0}
AllOf n (row ∷ rows) = (row.call.0 ≡ n) × AllOf n rows

all-append : (n : ℕ) (xs ys : List Row) → AllOf n xs → AllOf n ys → AllOf n (xs ++ ys)
all-append n [] ys h g = g
all-append n (x ∷ xs) ys h g = (h.0, all-append n xs ys h.1 g)

all-behind : (n : ℕ) (xs ys : List Row) → AllOf n (xs ++ ys) → AllOf n ys
all-behind n [] ys h = h
all-behind n (x ∷ xs) ys h = all-behind n xs ys h.1

abbrev AllParts : (n : ℕ) → List MeterView → Type 0
AllParts n [] = Unit {0}
AllParts n (part ∷ parts) = (part.call.0 ≡ n) × AllParts n parts

parts-append : (n : ℕ) (xs ys : List MeterView) → AllParts n xs → AllParts n ys → AllParts n (xs ++ ys)
parts-append n [] ys h g = g
parts-append n (x ∷ xs) ys h g = (h.0, parts-append n xs ys h.1 g)

answer-call : (answered : Option ℕ) (part : MeterView) → (with_answer answered part).call ≡ part.call
answer-call None part = refl
answer-call (Some at) part = refl

past-all : (n : ℕ) (end : Ending) (parts : List MeterView) → AllParts n parts → AllOf n (map (past_charging_record end) parts)
unfolding past_charging_record
past-all n end [] h = tt
past-all n end (part ∷ parts) h = (ap (λ (c : CallNo). c.0) (answer-call (past_answer part.kind end.answered) part) ∙ h.0, past-all n end parts h.1)

last-all : (n : ℕ) (end : Ending) (parts : List MeterView) → AllParts n parts → AllOf n (map (last_charging_record end) parts)
unfolding last_charging_record
last-all n end [] h = tt
last-all n end (part ∷ parts) h = (ap (λ (c : CallNo). c.0) (answer-call end.answered part) ∙ h.0, last-all n end parts h.1)

one-part : (kind : Kind) (number : CallNo) (at : ℕ) (account : Option Account) → AllParts number.0 (option_to_list (part_of kind number at account))
one-part kind number at None = tt
one-part kind number at (Some account) = (refl, tt)

past-parts-all : (call : precedence.CallInputs) (number : CallNo) (k : ℕ) (diverts : Option Account) (targets : List OutcomeTarget) →
    AllParts number.0 (past_parts call number k diverts targets)
past-parts-all call number k diverts [] = tt
past-parts-all call number k diverts (target ∷ []) = one-part _ number _ diverts
past-parts-all call number k diverts (target ∷ next ∷ later) =
    let one = option_to_list (diverting_part call number k diverts) in
    let two = option_to_list (served_part call number k target) in
    parts-append number.0 (one ++ two) _ (parts-append number.0 one two (one-part _ number _ diverts) (one-part _ number _ (served_at call target.diversion target.uri)))
    (past-parts-all call number (suc k) (served_at call target.diversion target.uri) (next ∷ later))

last-part-all : (call : precedence.CallInputs) (number : CallNo) (k : ℕ) (targets : List OutcomeTarget) → AllParts number.0 (option_to_list (last_part call number k targets))
last-part-all call number k [] = tt
last-part-all call number k (target ∷ []) = one-part _ number _ (served_at call target.diversion target.uri)
last-part-all call number k (target ∷ next ∷ later) = last-part-all call number (suc k) (next ∷ later)

charges-all : (end : Ending) (call : precedence.CallInputs) (number : CallNo) (targets : List OutcomeTarget) → AllOf number.0 (charging_records_of_parts end call number targets)
charges-all end call number targets =
    all-append number.0 (map (past_charging_record end) (option_to_list (origin_part call number)) ++ map (past_charging_record end) (past_parts call number 0 None targets)) _
    (all-append number.0 (map (past_charging_record end) (option_to_list (origin_part call number))) _
    (past-all number.0 end (option_to_list (origin_part call number)) (one-part _ number _ call.served.origin))
    (past-all number.0 end (past_parts call number 0 None targets) (past-parts-all call number 0 None targets)))
    (last-all number.0 end (option_to_list (last_part call number 0 targets)) (last-part-all call number 0 targets))

-- ---- the CDRs of a call

over-cause : (phase : Phase) → is_over phase ≡ true → (cause : Cause) × (phase ≡ Over cause)
over-cause (Offered x) h = absurd (let e : false ≡ true = h in cc)
over-cause (Established x stage) h = absurd (let e : false ≡ true = h in cc)
over-cause (Detached detached) h = absurd (let e : false ≡ true = h in cc)
over-cause (Over cause) h = (cause, refl)

call-all : CallsContinue → ChargingIsExact → (config : CallConfigView) (ops : List TableOp) (n : ℕ) (trace : CallTraceWithTransfers) → HasNumbers config ops → ArePutBack config ops →
    trace_of config n ops ≡ Some trace → AllOf n (charging_records_of config n ops)
call-all law charged config ops n trace few back is =
    let holds = holds_after (traces_stay law charged) config ops few in
    let own = holds.brings n trace is in
    let fits = holds.fits back n trace is in
    let charges = traces_charged law charged in
    let c = call_after trace.start trace.events in
    go charges fits own.opening.1 own.rows (is_over c.phase) refl
  where
    go : Rattle.mmtel_b2bua_theorems.specs.Theorems.TracesAreCharged → Rattle.mmtel_b2bua_theorems.specs.Outcomes.AreFitting trace.start trace.events → trace.start.arrival.number.0 ≡ n →
        charging_records_of config n ops ≡ transfers.charging_records_after trace.start trace.events →
        (b : Bool) → is_over (call_after trace.start trace.events).phase ≡ b → AllOf n (charging_records_of config n ops)
    go charges fits numbered rows false over = subst (AllOf n) (sym (rows ∙ (charges.runs trace.start trace.events fits over).1)) tt
    go charges fits numbered rows true over =
        let (cause, phase) = over-cause (call_after trace.start trace.events).phase over in
        subst (AllOf n) (sym (rows ∙ (charges.filed trace.start trace.events cause fits phase).1))
        (subst (λ m. AllOf m (charges_due_after trace.start trace.events cause)) numbered (charges-all (ending_by_cause trace.start trace.events cause)
        (call_inputs_after trace.start trace.events) trace.start.arrival.number (outcome_after trace.start trace.events).targets))

-- ---- the CDRs of an operation

-- the call to which it belongs has a trace then
there : (config : CallConfigView) (op : TableOp) (earlier : List TableOp) (m : ℕ) → Holds config earlier → call_of config op (table_after config earlier) ≡ Some m →
    Effect config op (table_after config earlier) → (trace : CallTraceWithTransfers) × (trace_of config m (op ∷ earlier) ≡ Some trace)
there config op earlier m holds call (Opens s o) =
    let table = table_after config earlier in
    let both : Some s.arrival.number.0 ≡ Some m = ap (λ opens. number_by opens (entry_by op table.entries)) (sym o.opens) ∙ call in
    let same : s.arrival.number.0 ≡ m = cc in
    (record { start = s; events = [] }, subst (λ m. trace_of config m (op ∷ earlier) ≡ Some (record { start = s; events = [] })) same (begins config op earlier s o.opens).trace)
there config op earlier m holds call (ComesTo p e z event c) =
    let (trace, l) = entry-traces config earlier p e holds c.found in
    let of_e : call_of config op (table_after config earlier) ≡ Some (number_of e) = λ i. number_by (c.opens i) (c.entry i) in
    let both : Some (number_of e) ≡ Some m = sym of_e ∙ call in
    let same : number_of e ≡ m = cc in (
      record trace { events = event ∷ trace.events },
      subst (λ m. trace_of config m (op ∷ earlier) ≡ Some (record trace { events = event ∷ trace.events })) same (goes-so config op earlier
          (number_of e) trace event c.opens c.came of_e l.is).is,
    )
there config op earlier m holds call (Nobodys o) = absurd (none-some m ((λ i. number_by (sym o.opens i) (sym o.entry i)) ∙ call))

op-all : CallsContinue → ChargingIsExact → (config : CallConfigView) (op : TableOp) (earlier : List TableOp) (m : ℕ) → HasNumbers config (op ∷ earlier) → ArePutBack config (op ∷ earlier) →
    call_of config op (table_after config earlier) ≡ Some m →
    AllOf m (op_charging_records config op (table_after config earlier))
unfolding charging_records_of
op-all law charged config op earlier m few back call =
    let holds = holds_after (traces_stay law charged) config earlier (earlier-numbers config op earlier few) in
    let (trace, is) = there config op earlier m holds call (effect config op (table_after config earlier) (all-stay config earlier holds)) in
    let rows = op_charging_records config op (table_after config earlier) in
    let its : is_number m (call_of config op (table_after config earlier)) ≡ true = ap (is_number m) call ∙ number-is m m refl in
    all-behind m (charging_records_of config m earlier) rows
    (subst (λ b. AllOf m (charging_records_of config m earlier ++ (if b then rows else []))) its (call-all law charged config (op ∷ earlier) m trace few back is))

-- ---- all CDRs

kept-all : (n : ℕ) (rows : List Row) → AllOf n rows → filter (is_charging_record_of n) rows ≡ rows
kept-all n [] h = refl
kept-all n (row ∷ rows) h = ap (λ b. cond b (row ∷ filter (is_charging_record_of n) rows) (filter (is_charging_record_of n) rows)) (number-is row.call.0 n h.0) ∙ ap (λ l. row ∷ l) (kept-all n rows h.1)

kept-none : (m n : ℕ) (rows : List Row) → m ≢ n → AllOf m rows → filter (is_charging_record_of n) rows ≡ []
kept-none m n [] other h = refl
kept-none m n (row ∷ rows) other h =
    ap (λ b. cond b (row ∷ filter (is_charging_record_of n) rows) (filter (is_charging_record_of n) rows)) (number-differs row.call.0 n (subst (λ k. k ≢ n) (sym h.0) other)) ∙ kept-none m n rows other h.1

op-kept : CallsContinue → ChargingIsExact → (config : CallConfigView) (op : TableOp) (earlier : List TableOp) (n : ℕ) → HasNumbers config (op ∷ earlier) → ArePutBack config (op ∷ earlier) →
    (call : Option ℕ) → call_of config op (table_after config earlier) ≡ call →
    filter (is_charging_record_of n) (op_charging_records config op (table_after config earlier)) ≡ (if is_number n call then op_charging_records config op (table_after config earlier) else [])
op-kept law charged config op earlier n few back None call = ap (filter (is_charging_record_of n)) (nothing_of_others config op earlier call).1
op-kept law charged config op earlier n few back (Some m) call =
    let rows = op_charging_records config op (table_after config earlier) in
    let all = op-all law charged config op earlier m few back call in
    elim (distinct-numbers m n) [
      | inl same ↦ kept-all n rows (subst (λ k. AllOf k rows) same all) ∙ ap (λ b. if b then rows else []) (sym (number-is m n same))
      | inr other ↦ kept-none m n rows other all ∙ ap (λ b. if b then rows else []) (sym (number-differs m n other))
    ]

pub of_calls : CallsContinue → ChargingIsExact → ChargingRecordsAreOfCalls
unfolding all_charging_records charging_records_of
of_calls law charged config [] n few back = refl
of_calls law charged config (op ∷ earlier) n few back =
    let table = table_after config earlier in
    filter-append (is_charging_record_of n) (all_charging_records config earlier) (op_charging_records config op table)
    ∙ (λ i.
    of_calls law charged config earlier n (earlier-numbers config op earlier few) back.1 i
    ++ op-kept law charged config op earlier n few back (call_of config op table) refl i)

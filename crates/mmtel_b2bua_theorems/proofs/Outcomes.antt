-- The result of every trace.
use Rattle.std.proofs.Common.{◌≡◌, ℕ, ◌+◌, true, false, List, [], ◌++◌, Option, Some, None, refl, ap, sym, ◌∙◌}
use Rattle.std.specs.Prelude.{is_some, option_to_list}
use Rattle.mmtel_charging.specs.Meters.{MeterView}
use Rattle.mmtel_precedence.specs.Calls as precedence
use Rattle.mmtel_precedence.specs.Theorems.{diversions_made}
use Rattle.mmtel_types.specs.declared.causes.Cause.{Cause}
use Rattle.mmtel_types.specs.declared.causes.Cause.TheVariants as causes
use Rattle.mmtel_call.specs.declared.calls.Call.{Call}
use Rattle.mmtel_call.specs.declared.calls.Phase.TheVariants.{Detached, Established, Offered, Over}
use Rattle.mmtel_call.specs.declared.calls.Phase.{Phase}
use Rattle.mmtel_call_theorems.specs.Charging.{charging_records_of_parts, parts_of, running_meters, running_meters_in}
use Rattle.mmtel_call_theorems.specs.Endings.{answer_moment}
use Rattle.mmtel_call_theorems.specs.Continuation.{CallsContinue, Parts, StaysSame, ending_at, is_established_in, parts_in}
use Rattle.mmtel_call_theorems.specs.Outcomes as trace_outcomes
use Rattle.mmtel_call_theorems.specs.Outcomes.{call_inputs_of, initially_remaining, result_if_answered, result_in, result_of}
use Rattle.mmtel_call_theorems.specs.Theorems as trace_theorems
use Rattle.mmtel_call_theorems.specs.Theorems.{ChargingIsExact, DiversionsAreCounted, ReachesItsOutcome, ShowsItsOutcome}
use Rattle.mmtel_call_theorems.specs.Labels.{label_of_result, labels_of, labels_of_targets}
use Rattle.mmtel_call_theorems.specs.CallTrace as traces
use Rattle.mmtel_call_theorems.specs.CallTrace.{TraceStart, TraceStep, is_over, opening_in}
use Rattle.mmtel_precedence.specs.Outcome.{outcome}
use Rattle.mmtel_b2bua_theorems.specs.Outcomes.{AreFitting, call_inputs_after, charges_due_after, endings_after, outcome_after, parts_after}
use Rattle.mmtel_b2bua_theorems.specs.Theorems.{TraceDiversionsAreCounted, TracesAreCharged, TracesReachTheirOutcome, TracesShowTheirOutcome}
use Rattle.mmtel_b2bua_theorems.specs.TracesWithTransfers.{CallEvent, call_after, charging_records_after, over_at}
use Rattle.mmtel_b2bua_theorems.proofs.TraceSteps.{Gone, Later, MatchesTrace, Place, Runs, Same, matches_trace}

-- ---- the same is known, and the result is the same

pub known-same : (s : TraceStart) (events : List CallEvent) (received : List TraceStep) → MatchesTrace s events received → call_inputs_after s events ≡ trace_outcomes.call_inputs_after s received
known-same s events received l = λ i. call_inputs_of s.config s.now (opening_in s) (λ k. l.snapshot k i)

pub outcome-same : (s : TraceStart) (events : List CallEvent) (received : List TraceStep) → MatchesTrace s events received → outcome_after s events ≡ trace_outcomes.outcome_after s received
outcome-same s events received l = λ i. outcome (call_inputs_of s.config s.now (opening_in s) (λ k. l.snapshot k i)) (l.endings i)

-- what does not change of the trace's call
stays-same : (s : TraceStart) (events : List CallEvent) (received : List TraceStep) → Place s events received → StaysSame (traces.call_after s received) (call_after s events)
stays-same s events received (Same is rows over) = record {
  opening = ap (λ (c : Call). c.opening) is;
  diversions = ap (λ (c : Call). c.diversions) is;
  answered = ap (λ
      (c : Call). c.answered) is;
}
stays-same s events received (Later stands kept after) = kept

pub traces_stay : CallsContinue → ChargingIsExact → (s : TraceStart) (events : List CallEvent) → (call_after s events).opening ≡ opening_in s
traces_stay law charged s events = let (received, l) = matches_trace law charged s events in (stays-same s events received l.place).opening ∙ law.opening s received

-- ---- the result

established-answered : (phase : Phase) (answered : Option ℕ) → is_established_in phase ≡ true → result_in phase answered ≡ precedence.Answered
established-answered (Offered x) answered h = absurd (let e : false ≡ true = h in cc)
established-answered (Established x stage) answered h = refl
established-answered (Detached detached) answered h = refl
established-answered (Over cause) answered h = absurd (let e : false ≡ true = h in cc)

over-answered : (answered : Option ℕ) (result : precedence.CallResult) → is_some answered ≡ true → result_if_answered answered result ≡ precedence.Answered
over-answered None result h = absurd (let e : false ≡ true = h in cc)
over-answered (Some at) result h = refl

result-same : CallsContinue → (s : TraceStart) (events : List CallEvent) (received : List TraceStep) → Place s events received → result_of (call_after s events) ≡ result_of (traces.call_after s received)
result-same law s events received (Same is rows over) = ap result_of is
result-same law s events received (Later stands kept (Runs on parts none)) =
    let c = call_after s events in
    let d = traces.call_after s received in
    established-answered c.phase c.answered on ∙ sym (established-answered d.phase d.answered stands)
result-same law s events received (Later stands kept (Gone over past flights is)) =
    let c = call_after s events in
    let d = traces.call_after s received in
    let answered : is_some c.answered ≡ true = ap is_some kept.answered ∙ law.answered s received stands in
    ap (λ phase. result_in phase c.answered) over ∙ over-answered c.answered (precedence.Final causes.Ended) answered ∙ sym (established-answered d.phase d.answered stands)

pub traces_reach : CallsContinue → ChargingIsExact → ReachesItsOutcome → TracesReachTheirOutcome
traces_reach law charged comes s events =
    let (received, l) = matches_trace law charged s events in
    result-same law s events received l.place ∙ comes s received ∙ ap (λ (o : precedence.Outcome). o.result) (sym (outcome-same s events received l))

-- ---- what is sent

pub traces_show : CallsContinue → ChargingIsExact → ShowsItsOutcome → TracesShowTheirOutcome
traces_show law charged shows s events others outputs =
    let (received, l) = matches_trace law charged s events in
    ap (labels_of s.arrival.key) l.emits ∙ shows s received (l.own others outputs)
    ∙ ap (λ (o : precedence.Outcome). labels_of_targets (opening_in s) o.targets ++ label_of_result o.result) (sym (outcome-same s events received l))

-- ---- the bound

pub traces_counted : CallsContinue → ChargingIsExact → DiversionsAreCounted → TraceDiversionsAreCounted
traces_counted law charged counted s events =
    let (received, l) = matches_trace law charged s events in
    (λ i. ((stays-same s events received l.place).diversions i).remaining + diversions_made (outcome-same s events received l i)) ∙ counted s received

-- ---- charging

abbrev run_of : Parts → List MeterView
run_of p = option_to_list p.first ++ p.past ++ option_to_list p.last

running-is : (phase : Phase) (past : List MeterView) → is_established_in phase ≡ true → running_meters_in phase past ≡ run_of (parts_in phase past)
running-is (Offered x) past h = absurd (let e : false ≡ true = h in cc)
running-is (Established x stage) past h = refl
running-is (Detached detached) past h = refl
running-is (Over cause) past h = absurd (let e : false ≡ true = h in cc)

established-on : (phase : Phase) → is_established_in phase ≡ true → is_over phase ≡ false
established-on (Offered x) h = absurd (let e : false ≡ true = h in cc)
established-on (Established x stage) h = refl
established-on (Detached detached) h = refl
established-on (Over cause) h = absurd (let e : false ≡ true = h in cc)

answered-observed : CallsContinue → ChargingIsExact → (s : TraceStart) (events : List CallEvent) → (call_after s events).answered ≡ answer_moment (endings_after s events)
answered-observed law charged s events =
    let (received, l) = matches_trace law charged s events in
    (stays-same s events received l.place).answered ∙ charged.answered s received ∙ ap answer_moment (sym l.endings)

parts-same : (s : TraceStart) (events : List CallEvent) (received : List TraceStep) → MatchesTrace s events received → trace_theorems.parts_after s received ≡ parts_after s events
parts-same s events received l = λ i. parts_of (sym (known-same s events received l) i) s.arrival.number (sym (outcome-same s events received l) i).targets

runs-at : CallsContinue → ChargingIsExact → (s : TraceStart) (events : List CallEvent) (received : List TraceStep) → MatchesTrace s events received → AreFitting s events →
    is_over (call_after s events).phase ≡ false → Place s events received →
    (running_meters (call_after s events) ≡ parts_after s events) × (charging_records_after s events ≡ [])
runs-at law charged s events received l fits goes (Same is rows over) =
    let (run, none) = charged.runs s received (ap (λ (c : Call). is_over c.phase) (sym is) ∙ goes) in
    (ap running_meters is ∙ run ∙ parts-same s events received l, rows ∙ none)
runs-at law charged s events received l fits goes (Later stands kept (Runs on parts none)) =
    let c = call_after s events in
    let begun = law.parts s received (established-on (traces.call_after s received).phase stands) in
    (running-is c.phase c.past on ∙ ap run_of (parts fits ∙ begun) ∙ parts-same s events received l, none)
runs-at law charged s events received l fits goes (Later stands kept (Gone over past flights is)) = absurd (let e : true ≡ false = ap is_over (sym over) ∙ goes in cc)

filed-at : CallsContinue → ChargingIsExact → (s : TraceStart) (events : List CallEvent) (received : List TraceStep) (cause : Cause) → MatchesTrace s events received → AreFitting s events →
    (call_after s events).phase ≡ Over cause → Place s events received →
    (running_meters (call_after s events) ≡ []) × (charging_records_after s events ≡ charges_due_after s events cause)
filed-at law charged s events received cause l fits over_by_cause (Same is rows over) =
    let phase = ap (λ (c : Call). c.phase) (sym is) ∙ over_by_cause in
    let moment = over (ap is_over phase) in
    let (none, filed) = charged.filed s received cause phase in (
      ap running_meters is ∙ none,
      rows ∙ filed ∙ (λ i.
          charging_records_of_parts (record { answered = (sym is i).answered; at = sym moment i; holds = (sym is i).hold.holds; cause = cause })
          (sym (known-same s events received l) i) s.arrival.number (sym (outcome-same s events received l) i).targets),
    )
filed-at law charged s events received cause l fits over_by_cause (Later stands kept (Runs on parts none)) =
    absurd (let e : false ≡ true = sym (established-on (call_after s events).phase on) ∙ ap is_over over_by_cause in cc)
filed-at law charged s events received cause l fits over_by_cause (Later stands kept (Gone over past flights is)) =
    let c = call_after s events in
    let same_phase : Over causes.Ended ≡ Over cause = sym over ∙ over_by_cause in
    let same : causes.Ended ≡ cause = cc in
    let begun = law.parts s received (established-on (traces.call_after s received).phase stands) in (
      ap (λ phase. running_meters_in phase c.past) over ∙ past,
      is fits ∙ ap (λ (p : Parts). Rattle.mmtel_call_services.specs.ChargingRecords.charging_records (ending_at c (over_at s events)) p.past p.first p.last) begun ∙ (λ i.
          charging_records_of_parts (record { answered = c.answered; at = over_at s events; holds = c.hold.holds; cause = same i })
          (sym (known-same s events received l) i) s.arrival.number (sym (outcome-same s events received l) i).targets),
    )

-- of one that was answered
ended-at : CallsContinue → ChargingIsExact → (s : TraceStart) (events : List CallEvent) (received : List TraceStep) (cause : Cause) → MatchesTrace s events received → (call_after s events).phase ≡ Over cause →
    is_some (answer_moment (endings_after s events)) ≡ true → Place s events received → cause ≡ causes.Ended
ended-at law charged s events received cause l over_by_cause answered (Same is rows over) =
    law.cause s received cause (ap (λ (c : Call). c.phase) (sym is) ∙ over_by_cause) (ap is_some (charged.answered s received ∙ ap answer_moment (sym l.endings)) ∙ answered)
ended-at law charged s events received cause l over_by_cause answered (Later stands kept (Runs on parts none)) =
    absurd (let e : false ≡ true = sym (established-on (call_after s events).phase on) ∙ ap is_over over_by_cause in cc)
ended-at law charged s events received cause l over_by_cause answered (Later stands kept (Gone over past flights is)) =
    let same_phase : Over causes.Ended ≡ Over cause = sym over ∙ over_by_cause in
    let same : causes.Ended ≡ cause = cc in
    sym same

pub traces_charged : CallsContinue → ChargingIsExact → TracesAreCharged
traces_charged law charged = record {
  answered = answered-observed law charged;
  runs = λ s events fits goes. let (received, l) = matches_trace law charged s events in runs-at law charged s events received l fits goes l.place;
  filed = λ s events cause fits over. let (received, l) = matches_trace law charged s events in filed-at law charged s events received cause l fits over l.place;
  ended = λ s events cause over answered. let (received, l) = matches_trace law charged s events in ended-at law charged s events received cause l over answered l.place;
}

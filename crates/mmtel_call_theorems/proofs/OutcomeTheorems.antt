-- The result of every trace.
use Rattle.std.proofs.Common.{◌≡◌, ℕ, zero, suc, ◌+◌, Bool, true, false, List, [], ◌∷◌, ◌++◌, map, refl, ap, sym, ◌∙◌, arith}
use Rattle.std.proofs.lemmas.List.{map-append}
use Rattle.std.proofs.lemmas.List.Sums.{sum_by-append}
use Rattle.std.specs.Prelude.{Option, Some, None, count_by, cond, option_to_list}
use Rattle.mmtel_charging.specs.Meters.{MeterView}
use Rattle.mmtel_charging.specs.declared.rows.Row.{Row}
use Rattle.mmtel_precedence.specs.Calls as precedence
use Rattle.mmtel_precedence.specs.Calls.{Final, SnapshotView}
use Rattle.mmtel_precedence.specs.Extension.{LaterEndingsExtend}
use Rattle.mmtel_precedence.specs.Theorems.{diversions_made}
use Rattle.mmtel_precedence.specs.Moves as moves
use Rattle.mmtel_precedence.specs.Moves.{CallState, MovesGiveTheOutcome, account_at, enough_moves, initial_state, outcome_so_far}
use Rattle.mmtel_precedence.specs.Services.{ServedAccountView}
use Rattle.mmtel_precedence.specs.NextSteps.{EndingsAreMoves, NextStepsAreMoves}
use Rattle.mmtel_types.specs.declared.causes.Cause.{Cause}
use Rattle.mmtel_call_services.specs.ChargingRecords.{charging_records, last_charging_record, past_charging_record}
use Rattle.mmtel_call_services.specs.CallConfig.{CallConfigView}
use Rattle.mmtel_call_services.specs.declared.openings.Opening.{Opening}
use Rattle.mmtel_call_services.specs.declared.charging_records.Ending.{Ending}
use Rattle.mmtel_call.specs.declared.calls.Call.{Call}
use Rattle.mmtel_call.specs.declared.calls.Phase.TheVariants.{Established, Offered, Over}
use Rattle.mmtel_call_theorems.specs.Charging.{charging_records_of_parts, last_part, origin_part, parts_of, past_parts, running_meters, running_meters_in}
use Rattle.mmtel_call_theorems.specs.Endings.{endings_after}
use Rattle.mmtel_call_theorems.specs.Outcomes.{call_inputs_after, call_inputs_of, outcome_after, result_if_answered, result_in, result_of, snapshot_at_diversion}
use Rattle.mmtel_call_theorems.specs.Theorems.{BegunPart, ChargingIsExact, DiversionsAreCounted, ReachesItsOutcome, ShowsItsOutcome}
use Rattle.mmtel_call_theorems.specs.Theorems.{charges_due_after, ending_by_cause, part_of_charging_record, part_of_meter, parts_after}
use Rattle.mmtel_call_theorems.specs.Labels.{label_of_result, labels_of_targets}
use Rattle.mmtel_call_theorems.specs.CallTrace.{TraceStart, TraceStep, call_after, charging_records_after, is_over, opening_in, over_at}
use Rattle.mmtel_call_theorems.proofs.OutcomeAgreement.{Agrees, Ends, Place, Rings, Talks}
use Rattle.mmtel_call_theorems.proofs.AnswerMoments.{answer-observed}
use Rattle.mmtel_call_theorems.proofs.OutcomesOfTraces.{LabelsAgree, moves-more, state_agrees}

-- ---- moves that lead to nothing more

abbrev pub kept_at : CallState → moves.TargetPhase → CallState
kept_at kept phase = record kept { phase = phase; endings = [] }

pub ringing-still : (n : ℕ) (call : precedence.CallInputs) (kept : CallState) (account : ServedAccountView) → moves.moves n call (kept_at kept (moves.Ringing account)) ≡ kept_at kept (moves.Ringing account)
unfolding moves.moves
ringing-still zero call kept account = refl
ringing-still (suc n) call kept account = ringing-still n call kept account

pub over-still : (n : ℕ) (call : precedence.CallInputs) (kept : CallState) (result : precedence.CallResult) → moves.moves n call (kept_at kept (moves.Over result)) ≡ kept_at kept (moves.Over result)
unfolding moves.moves
over-still zero call kept result = refl
over-still (suc n) call kept result = over-still n call kept result

pub at-phase : (kept : CallState) (phase : moves.TargetPhase) → kept.phase ≡ phase → kept.endings ≡ [] → kept ≡ kept_at kept phase
at-phase kept phase e f = ap (λ es. record kept { endings = es }) f ∙ ap (λ p. record kept { phase = p; endings = [] }) e

still : (config : CallConfigView) (first : SnapshotView) (o : Opening) (later : ℕ → SnapshotView) (kept : CallState) (c : Call) (filed : List Row) (at : ℕ) (n : ℕ) (call : precedence.CallInputs) → kept.endings ≡ [] →
    Place config first o later kept c filed at → moves.moves n call kept ≡ kept
still config first o later kept c filed at n call empty (Rings x reach p) =
    let e = at-phase kept (moves.Ringing (account_at reach)) p.rings empty in ap (moves.moves n call) e ∙ ringing-still n call kept (account_at reach) ∙ sym e
still config first o later kept c filed at n call empty (Talks x stage moment p) =
    let e = at-phase kept (moves.Over precedence.Answered) p.over empty in ap (moves.moves n call) e ∙ over-still n call kept precedence.Answered ∙ sym e
still config first o later kept c filed at n call empty (Ends cause p) =
    let e = at-phase kept (moves.Over (result_if_answered c.answered (Final cause))) p.over empty in ap (moves.moves n call) e ∙ over-still n call kept (result_if_answered c.answered (Final cause)) ∙ sym e

-- ---- a trace and its Outcome

-- what is kept of the call at the end of the trace
pub record IsOutcomeOf (s : TraceStart) (received : List TraceStep) (kept : CallState) : Type 0 where
  pub outcome : outcome_so_far kept ≡ outcome_after s received
  pub agrees : Agrees s.config s.now (opening_in s) (snapshot_at_diversion s received) kept (call_after s received) (charging_records_after s received) (over_at s received)
  pub shown : LabelsAgree s received kept

pub outcome_of_trace : NextStepsAreMoves → EndingsAreMoves → LaterEndingsExtend → MovesGiveTheOutcome → (s : TraceStart) (received : List TraceStep) → (kept : CallState) × IsOutcomeOf s received kept
outcome_of_trace turn_law end_law extend enough_law s received =
    let (m, agrees, shown) = state_agrees turn_law end_law extend s received (snapshot_at_diversion s received) (λ j most. refl) in
    let call = call_inputs_after s received in
    let kept = moves.moves m call (initial_state call (endings_after s received)) in
    let enough = enough_moves call in
    let same : moves.moves (m + enough) call (initial_state call (endings_after s received)) ≡ kept =
    sym (moves-more m enough call (initial_state call (endings_after s received)))
    ∙ still s.config s.now (opening_in s) (snapshot_at_diversion s received) kept (call_after s received) (charging_records_after s received) (over_at s received) enough call agrees.empty agrees.place in (
      kept,
      record {
        outcome = ap outcome_so_far (sym same) ∙ enough_law call (endings_after s received) (m + enough) (omega arith);
        agrees = agrees;
        shown = shown;
      },
    )

-- ---- the result

result-at : (config : CallConfigView) (first : SnapshotView) (o : Opening) (later : ℕ → SnapshotView) (kept : CallState) (c : Call) (filed : List Row) (at : ℕ) →
    Place config first o later kept c filed at → result_of c ≡ moves.result_in kept.phase
result-at config first o later kept c filed at (Rings x reach p) = ap (λ phase. result_in phase c.answered) p.phase ∙ ap moves.result_in (sym p.rings)
result-at config first o later kept c filed at (Talks x stage moment p) = ap (λ phase. result_in phase c.answered) p.phase ∙ ap moves.result_in (sym p.over)
result-at config first o later kept c filed at (Ends cause p) = ap (λ phase. result_in phase c.answered) p.phase ∙ ap moves.result_in (sym p.over)

pub reaches_its_outcome : NextStepsAreMoves → EndingsAreMoves → LaterEndingsExtend → MovesGiveTheOutcome → ReachesItsOutcome
reaches_its_outcome turn_law end_law extend enough_law s received =
    let (kept, t) = outcome_of_trace turn_law end_law extend enough_law s received in
    result-at s.config s.now (opening_in s) (snapshot_at_diversion s received) kept (call_after s received) (charging_records_after s received) (over_at s received) t.agrees.place
    ∙ ap (λ (o : precedence.Outcome). o.result) t.outcome

-- ---- what is sent

pub shows_its_outcome : NextStepsAreMoves → EndingsAreMoves → LaterEndingsExtend → MovesGiveTheOutcome → ShowsItsOutcome
shows_its_outcome turn_law end_law extend enough_law s received own =
    let (kept, t) = outcome_of_trace turn_law end_law extend enough_law s received in
    t.shown own ∙ ap (λ (o : precedence.Outcome). labels_of_targets (opening_in s) o.targets ++ label_of_result o.result) t.outcome

-- ---- the bound

pub diversions_are_counted : NextStepsAreMoves → EndingsAreMoves → LaterEndingsExtend → MovesGiveTheOutcome → DiversionsAreCounted
diversions_are_counted turn_law end_law extend enough_law s received =
    let (kept, t) = outcome_of_trace turn_law end_law extend enough_law s received in
    let made : diversions_made (outcome_after s received) ≡ kept.done = ap diversions_made (sym t.outcome) ∙ t.agrees.made in
    ap (λ n. (call_after s received).diversions.remaining + n) made ∙ t.agrees.remaining

-- ---- charging

-- where the call is not over
runs-at : (config : CallConfigView) (first : SnapshotView) (o : Opening) (later : ℕ → SnapshotView) (kept : CallState) (c : Call) (filed : List Row) (at : ℕ) → is_over c.phase ≡ false →
    Place config first o later kept c filed at →
    (running_meters c ≡ parts_of (call_inputs_of config first o later) o.number kept.targets) × (filed ≡ [])
runs-at config first o later kept c filed at goes (Rings x reach p) =
    let call = call_inputs_of config first o later in (
      ap (λ phase. running_meters_in phase c.past) p.phase
          ∙ ap (λ past. option_to_list x.caller.meter ++ past ++ option_to_list x.callee.leg.meter) p.past
          ∙ ap (λ one. option_to_list one ++ past_parts call o.number 0 None kept.targets ++ option_to_list x.callee.leg.meter) p.origin
          ∙ ap (λ last. option_to_list (origin_part call o.number) ++ past_parts call o.number 0 None kept.targets ++ option_to_list last) p.last,
      p.none,
    )
runs-at config first o later kept c filed at goes (Talks x stage moment p) =
    let call = call_inputs_of config first o later in (
      ap (λ phase. running_meters_in phase c.past) p.phase
          ∙ ap (λ past. option_to_list x.caller.meter ++ past ++ option_to_list x.callee.meter) p.past
          ∙ ap (λ one. option_to_list one ++ past_parts call o.number 0 None kept.targets ++ option_to_list x.callee.meter) p.origin
          ∙ ap (λ last. option_to_list (origin_part call o.number) ++ past_parts call o.number 0 None kept.targets ++ option_to_list last) p.last,
      p.none,
    )
runs-at config first o later kept c filed at goes (Ends cause p) = absurd (let e : true ≡ false = ap is_over (sym p.phase) ∙ goes in cc)

-- once it is over
filed-at : (config : CallConfigView) (first : SnapshotView) (o : Opening) (later : ℕ → SnapshotView) (kept : CallState) (c : Call) (filed : List Row) (at : ℕ) (cause : Cause) → c.phase ≡ Over cause →
    Place config first o later kept c filed at →
    (running_meters c ≡ []) × (filed ≡ charging_records_of_parts (record { answered = c.answered; at = at; holds = c.hold.holds; cause = cause }) (call_inputs_of config first o later) o.number kept.targets)
filed-at config first o later kept c filed at cause over (Rings x reach p) = absurd (let e : Offered x ≡ Over cause = sym p.phase ∙ over in cc)
filed-at config first o later kept c filed at cause over (Talks x stage moment p) = absurd (let e : Established x stage ≡ Over cause = sym p.phase ∙ over in cc)
filed-at config first o later kept c filed at cause over (Ends why p) =
    let e : Over why ≡ Over cause = sym p.phase ∙ over in
    let same : why ≡ cause = cc in (
      ap (λ phase. running_meters_in phase c.past) p.phase ∙ p.past,
      p.rows ∙ ap (λ cause. charging_records_of_parts (record { answered = c.answered; at = at; holds = c.hold.holds; cause = cause }) (call_inputs_of config first o later) o.number kept.targets) same,
    )

runs : NextStepsAreMoves → EndingsAreMoves → LaterEndingsExtend → MovesGiveTheOutcome → (s : TraceStart) (received : List TraceStep) → is_over (call_after s received).phase ≡ false →
    (running_meters (call_after s received) ≡ parts_after s received) × (charging_records_after s received ≡ [])
runs turn_law end_law extend enough_law s received goes =
    let (kept, t) = outcome_of_trace turn_law end_law extend enough_law s received in
    let (run, none) = runs-at s.config s.now (opening_in s) (snapshot_at_diversion s received) kept (call_after s received) (charging_records_after s received) (over_at s received) goes t.agrees.place in
    (run ∙ ap (λ (o : precedence.Outcome). parts_of (call_inputs_after s received) s.arrival.number o.targets) t.outcome, none)

filed : NextStepsAreMoves → EndingsAreMoves → LaterEndingsExtend → MovesGiveTheOutcome → (s : TraceStart) (received : List TraceStep) (cause : Cause) → (call_after s received).phase ≡ Over cause →
    (running_meters (call_after s received) ≡ []) × (charging_records_after s received ≡ charges_due_after s received cause)
filed turn_law end_law extend enough_law s received cause over =
    let (kept, t) = outcome_of_trace turn_law end_law extend enough_law s received in
    let (none, rows) = filed-at s.config s.now (opening_in s) (snapshot_at_diversion s received) kept (call_after s received) (charging_records_after s received) (over_at s received) cause over t.agrees.place in
    (none, rows ∙ ap (λ (o : precedence.Outcome). charging_records_of_parts (ending_by_cause s received cause) (call_inputs_after s received) s.arrival.number o.targets) t.outcome)

-- ---- as many began as run or were filed

count-append : {A : Type 0} (p : A → Bool) (xs ys : List A) → count_by p (xs ++ ys) ≡ count_by p xs + count_by p ys
count-append p xs ys = sum_by-append (λ x. cond (p x) 1 0) xs ys

-- whether a CDR is that of the part
past-begun : (end : Ending) (parts : List MeterView) → map part_of_charging_record (map (past_charging_record end) parts) ≡ map part_of_meter parts
unfolding past_charging_record
past-begun end [] = refl
past-begun end (part ∷ parts) = go (Rattle.mmtel_call_services.specs.ChargingRecords.past_answer part.kind end.answered) part ∙ ap (λ l. part_of_meter part ∷ l) (past-begun end parts)
  where
    go : (answered : Option ℕ) (part : MeterView) →
        part_of_charging_record (Rattle.mmtel_charging.specs.Meters.row_of_meter (Rattle.mmtel_call_services.specs.ChargingRecords.with_answer answered part) end.at end.holds end.cause) ∷
        map part_of_charging_record (map (past_charging_record end) parts) ≡ part_of_meter part ∷ map part_of_charging_record (map (past_charging_record end) parts)
    go None part = refl
    go (Some at) part = refl

last-begun : (end : Ending) (part : Option MeterView) → map part_of_charging_record (map (last_charging_record end) (option_to_list part)) ≡ map part_of_meter (option_to_list part)
unfolding last_charging_record
last-begun end None = refl
last-begun end (Some part) = go end.answered
  where
    go : (answered : Option ℕ) →
        part_of_charging_record (Rattle.mmtel_charging.specs.Meters.row_of_meter (Rattle.mmtel_call_services.specs.ChargingRecords.with_answer answered part) end.at end.holds end.cause) ∷ []
        ≡ part_of_meter part ∷ []
    go None = refl
    go (Some at) = refl

rows-begun : (end : Ending) (past : List MeterView) (one last : Option MeterView) → map part_of_charging_record (charging_records end past one last) ≡ map part_of_meter (option_to_list one ++ past ++ option_to_list last)
rows-begun end past one last =
    map-append part_of_charging_record (map (past_charging_record end) (option_to_list one) ++ map (past_charging_record end) past) (map (last_charging_record end) (option_to_list last))
    ∙ ap (λ l. l ++ map part_of_charging_record (map (last_charging_record end) (option_to_list last)))
    (map-append part_of_charging_record (map (past_charging_record end) (option_to_list one)) (map (past_charging_record end) past)
    ∙ ap (λ l. l ++ map part_of_charging_record (map (past_charging_record end) past)) (past-begun end (option_to_list one)) ∙ ap (λ l. map part_of_meter (option_to_list one) ++ l) (past-begun end past)
    ∙ sym (map-append part_of_meter (option_to_list one) past))
    ∙ ap (λ l. map part_of_meter (option_to_list one ++ past) ++ l) (last-begun end last)
    ∙ sym (map-append part_of_meter (option_to_list one ++ past) (option_to_list last))

count-runs : (p : BegunPart → Bool) (parts run : List MeterView) (rows : List Row) → run ≡ parts → rows ≡ [] →
    count_by p (map part_of_meter parts) ≡ count_by p (map part_of_meter run) + count_by p (map part_of_charging_record rows)
count-runs p parts run rows e f =
    let none : count_by p (map part_of_charging_record rows) ≡ 0 = ap (λ l. count_by p (map part_of_charging_record l)) f in
    let same : count_by p (map part_of_meter run) ≡ count_by p (map part_of_meter parts) = ap (λ l. count_by p (map part_of_meter l)) e in
    omega arith

count-filed : (p : BegunPart → Bool) (parts run : List MeterView) (rows : List Row) → run ≡ [] → map part_of_charging_record rows ≡ map part_of_meter parts →
    count_by p (map part_of_meter parts) ≡ count_by p (map part_of_meter run) + count_by p (map part_of_charging_record rows)
count-filed p parts run rows e f =
    let none : count_by p (map part_of_meter run) ≡ 0 = ap (λ l. count_by p (map part_of_meter l)) e in
    let same : count_by p (map part_of_charging_record rows) ≡ count_by p (map part_of_meter parts) = ap (count_by p) f in
    omega arith

each-at : NextStepsAreMoves → EndingsAreMoves → LaterEndingsExtend → MovesGiveTheOutcome → (s : TraceStart) (received : List TraceStep) (kept : CallState) (p : BegunPart → Bool) →
    Place s.config s.now (opening_in s) (snapshot_at_diversion s received) kept (call_after s received) (charging_records_after s received) (over_at s received) →
    count_by p (map part_of_meter (parts_after s received)) ≡ count_by p (map part_of_meter (running_meters (call_after s received))) + count_by p (map part_of_charging_record (charging_records_after s received))
each-at turn_law end_law extend enough_law s received kept p (Rings x reach q) =
    let (run, none) = runs turn_law end_law extend enough_law s received (ap is_over q.phase) in count-runs p (parts_after s received) (running_meters (call_after s received)) (charging_records_after s received) run none
each-at turn_law end_law extend enough_law s received kept p (Talks x stage moment q) =
    let (run, none) = runs turn_law end_law extend enough_law s received (ap is_over q.phase) in count-runs p (parts_after s received) (running_meters (call_after s received)) (charging_records_after s received) run none
each-at turn_law end_law extend enough_law s received kept p (Ends cause q) =
    let (none, rows) = filed turn_law end_law extend enough_law s received cause q.phase in
    let call = call_inputs_after s received in
    let targets = (outcome_after s received).targets in
    count-filed p (parts_after s received) (running_meters (call_after s received)) (charging_records_after s received) none
    (ap (map part_of_charging_record) rows
    ∙ rows-begun (ending_by_cause s received cause) (past_parts call s.arrival.number 0 None targets) (origin_part call s.arrival.number) (last_part call s.arrival.number 0 targets))

pub charging_is_exact : NextStepsAreMoves → EndingsAreMoves → LaterEndingsExtend → MovesGiveTheOutcome → ChargingIsExact
charging_is_exact turn_law end_law extend enough_law = record {
  answered = answer-observed;
  runs = runs turn_law end_law extend enough_law;
  filed = filed turn_law end_law extend enough_law;
  each = λ s received p.
      let (kept, t) = outcome_of_trace turn_law end_law extend enough_law s received in each-at turn_law end_law extend enough_law s received kept p t.agrees.place;
}

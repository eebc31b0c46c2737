-- The invariants of a call from step to step.
use Rattle.std.proofs.Common.{◌≡◌, ℕ, true, false, List, [], ◌++◌, refl, ap, sym, subst, ◌∙◌}
use Rattle.mmtel_charging.specs.Meters.{MeterView}
use Rattle.mmtel_charging.specs.declared.rows.Row.{Row}
use Rattle.mmtel_output.specs.declared.outputs.StepOutput.{StepOutput}
use Rattle.mmtel_precedence.specs.Calls.{SnapshotView}
use Rattle.mmtel_precedence.specs.Calls as precedence
use Rattle.mmtel_precedence.specs.Extension.{LaterEndingsExtend}
use Rattle.mmtel_precedence.specs.Moves.{CallState, MovesGiveTheOutcome}
use Rattle.mmtel_precedence.specs.NextSteps.{EndingsAreMoves, NextStepsAreMoves}
use Rattle.mmtel_types.specs.declared.causes.Cause.{Cause}
use Rattle.mmtel_types.specs.declared.causes.Cause.TheVariants as causes
use Rattle.std.specs.Prelude.{Option, Some, None, is_some}
use Rattle.mmtel_call_services.specs.Decisions.{service_sheet}
use Rattle.mmtel_call_services.specs.ChargingRecords.{cause_by, charging_records}
use Rattle.mmtel_call_services.specs.CallConfig.{CallConfigView}
use Rattle.mmtel_call_services.specs.declared.openings.Opening.{Opening}
use Rattle.mmtel_call.specs.Closing.{StepResult, established_call_end}
use Rattle.mmtel_call.specs.Table.{step}
use Rattle.mmtel_call.specs.declared.calls.Call.{Call}
use Rattle.mmtel_call.specs.declared.calls.RelayedTransaction.{RelayedTransaction}
use Rattle.mmtel_call.specs.declared.calls.EstablishedLegs.{EstablishedLegs}
use Rattle.mmtel_call.specs.declared.calls.Phase.{Phase}
use Rattle.mmtel_call.specs.declared.calls.Phase.TheVariants.{Detached, Established, Offered, Over}
use Rattle.mmtel_call.specs.declared.calls.Stage.{Stage}
use Rattle.mmtel_call.specs.declared.calls.OfferedAttempt.{OfferedAttempt}
use Rattle.mmtel_call.specs.declared.signals.Signal.{Signal}
use Rattle.mmtel_call_theorems.specs.Charging.{last_part, origin_part, past_parts}
use Rattle.mmtel_call_theorems.specs.Continuation as going
use Rattle.mmtel_call_theorems.specs.Continuation.{CallsContinue, HasEnded, Parts, StaysOver, StaysSame, is_established_in, parts_begun, parts_in, parts_now}
use Rattle.mmtel_call_theorems.specs.Outcomes.{call_inputs_after, call_inputs_of, last_record, outcome_after, snapshot_at_diversion}
use Rattle.mmtel_call_theorems.specs.CallTrace.{TraceStart, TraceStep, call_after, charging_records_after, is_over, opening_in, over_at}
use Rattle.mmtel_call_theorems.proofs.OutcomeAgreement.{Ends, Place, Rings, Talks}
use Rattle.mmtel_call_theorems.proofs.Continuation as answering
use Rattle.mmtel_call_theorems.proofs.OutcomeTheorems.{outcome_of_trace}
use Rattle.mmtel_call_theorems.proofs.Dismissal.{last_none}
use Rattle.mmtel_call_theorems.proofs.DiversionBoundSteps.{stays-detached}
use Rattle.mmtel_call_theorems.proofs.UnchangedCalls.{SameCall, Untouched}

-- ---- every trace

abbrev Theorems : (A : Type 0) → Type 0
Theorems A = NextStepsAreMoves → EndingsAreMoves → LaterEndingsExtend → MovesGiveTheOutcome → A

stays_itself : Theorems ((s : TraceStart) (received : List TraceStep) → (call_after s received).opening ≡ opening_in s)
stays_itself turn_law end_law extend enough_law s received = let (kept, t) = outcome_of_trace turn_law end_law extend enough_law s received in t.agrees.opening

abbrev made_of : Option MeterView → List MeterView → Option MeterView → Parts
made_of first past last = record { first = first; past = past; last = last }

parts-at : (config : CallConfigView) (first : SnapshotView) (o : Opening) (later : ℕ → SnapshotView) (kept : CallState) (c : Call) (filed : List Row) (at : ℕ) → is_over c.phase ≡ false →
    Place config first o later kept c filed at →
    let call = call_inputs_of config first o later in parts_now c ≡ made_of (origin_part call o.number) (past_parts call o.number 0 None kept.targets) (last_part call o.number 0 kept.targets)
parts-at config first o later kept c filed at goes (Rings x reach p) = ap (λ phase. parts_in phase c.past) p.phase ∙ (λ i. made_of (p.origin i) (p.past i) (p.last i))
parts-at config first o later kept c filed at goes (Talks x stage moment p) = ap (λ phase. parts_in phase c.past) p.phase ∙ (λ i. made_of (p.origin i) (p.past i) (p.last i))
parts-at config first o later kept c filed at goes (Ends cause p) = absurd (let e : true ≡ false = ap is_over (sym p.phase) ∙ goes in cc)

begun_run : Theorems ((s : TraceStart) (received : List TraceStep) → is_over (call_after s received).phase ≡ false → parts_now (call_after s received) ≡ parts_begun s received)
begun_run turn_law end_law extend enough_law s received goes =
    let (kept, t) = outcome_of_trace turn_law end_law extend enough_law s received in
    let call = call_inputs_after s received in
    let number = s.arrival.number in
    parts-at s.config s.now (opening_in s) (snapshot_at_diversion s received) kept (call_after s received) (charging_records_after s received) (over_at s received) goes t.agrees.place
    ∙ ap (λ (o : precedence.Outcome). made_of (origin_part call number) (past_parts call number 0 None o.targets) (last_part call number 0 o.targets)) t.outcome

record-at : (config : CallConfigView) (first : SnapshotView) (o : Opening) (later : ℕ → SnapshotView) (kept : CallState) (c : Call) (filed : List Row) (at : ℕ) (y : OfferedAttempt) →
    c.phase ≡ Offered y → Place config first o later kept c filed at →
    service_sheet y.attempt.service ≡ last_record (call_inputs_of config first o later) 0 kept.targets
record-at config first o later kept c filed at y offered (Rings x reach p) =
    let e : Offered y ≡ Offered x = sym offered ∙ p.phase in
    let same : y ≡ x = cc in
    ap (λ (x : OfferedAttempt). service_sheet x.attempt.service) same ∙ p.record_of
record-at config first o later kept c filed at y offered (Talks x stage moment p) = absurd (let e : Established x stage ≡ Offered y = sym p.phase ∙ offered in cc)
record-at config first o later kept c filed at y offered (Ends cause p) = absurd (let e : Over cause ≡ Offered y = sym p.phase ∙ offered in cc)

goes_by_record : Theorems ((s : TraceStart) (received : List TraceStep) (x : OfferedAttempt) → (call_after s received).phase ≡ Offered x →
    service_sheet x.attempt.service ≡ last_record (call_inputs_after s received) 0 (outcome_after s received).targets)
goes_by_record turn_law end_law extend enough_law s received x offered =
    let (kept, t) = outcome_of_trace turn_law end_law extend enough_law s received in
    record-at s.config s.now (opening_in s) (snapshot_at_diversion s received) kept (call_after s received) (charging_records_after s received) (over_at s received) x offered t.agrees.place
    ∙ ap (λ (o : precedence.Outcome). last_record (call_inputs_after s received) 0 o.targets) t.outcome

answered-at : (config : CallConfigView) (first : SnapshotView) (o : Opening) (later : ℕ → SnapshotView) (kept : CallState) (c : Call) (filed : List Row) (at : ℕ) → is_established_in c.phase ≡ true →
    Place config first o later kept c filed at → is_some c.answered ≡ true
answered-at config first o later kept c filed at stands (Rings x reach p) = absurd (let e : false ≡ true = ap is_established_in (sym p.phase) ∙ stands in cc)
answered-at config first o later kept c filed at stands (Talks x stage moment p) = ap is_some p.answered
answered-at config first o later kept c filed at stands (Ends cause p) = absurd (let e : false ≡ true = ap is_established_in (sym p.phase) ∙ stands in cc)

was_answered : Theorems ((s : TraceStart) (received : List TraceStep) → is_established_in (call_after s received).phase ≡ true → is_some (call_after s received).answered ≡ true)
was_answered turn_law end_law extend enough_law s received stands =
    let (kept, t) = outcome_of_trace turn_law end_law extend enough_law s received in
    answered-at s.config s.now (opening_in s) (snapshot_at_diversion s received) kept (call_after s received) (charging_records_after s received) (over_at s received) stands t.agrees.place

cause-at : (config : CallConfigView) (first : SnapshotView) (o : Opening) (later : ℕ → SnapshotView) (kept : CallState) (c : Call) (filed : List Row) (at : ℕ) (cause : Cause) → c.phase ≡ Over cause →
    is_some c.answered ≡ true →
    Place config first o later kept c filed at → cause ≡ causes.Ended
cause-at config first o later kept c filed at cause over answered (Rings x reach p) = absurd (let e : Offered x ≡ Over cause = sym p.phase ∙ over in cc)
cause-at config first o later kept c filed at cause over answered (Talks x stage moment p) = absurd (let e : Established x stage ≡ Over cause = sym p.phase ∙ over in cc)
cause-at config first o later kept c filed at cause over answered (Ends why p) =
    let e : Over why ≡ Over cause = sym p.phase ∙ over in
    let same : why ≡ cause = cc in
    sym same ∙ p.why answered

by_ending : Theorems ((s : TraceStart) (received : List TraceStep) (cause : Cause) → (call_after s received).phase ≡ Over cause → is_some (call_after s received).answered ≡ true → cause ≡ causes.Ended)
by_ending turn_law end_law extend enough_law s received cause over answered =
    let (kept, t) = outcome_of_trace turn_law end_law extend enough_law s received in
    cause-at s.config s.now (opening_in s) (snapshot_at_diversion s received) kept (call_after s received) (charging_records_after s received) (over_at s received) cause over answered t.agrees.place

-- ---- one step

ended_so : (answered : Option ℕ) → cause_by answered causes.Ended ≡ causes.Ended
ended_so None = refl
ended_so (Some at) = refl

same_of : (c d : Call) → SameCall c d → StaysSame c d
same_of c d a = record { opening = a.opening; diversions = a.diversions; answered = a.answered }

leaves-so : (at : ℕ) (x y : EstablishedLegs) (stage : Stage) (c d : Call) (rows : List Row) (output : StepOutput) → SameCall c d → y.caller.meter ≡ x.caller.meter → y.callee.meter ≡ x.callee.meter → output.rows ≡ rows →
    HasEnded at (record c { phase = Established x stage }) rows (established_call_end at y d output)
leaves-so at x y stage c d rows output a e f g = record {
  same = record { opening = a.opening; diversions = a.diversions; answered = a.answered };
  over = ap Over (ended_so d.answered);
  past = refl;
  in_flight = refl;
  filed = λ i. g i ++ charging_records (record { answered = d.answered; at = at; holds = d.hold.holds; cause = ended_so d.answered i }) (a.past i) (e i) (f i);
}

established-goes : (at : ℕ) (x : EstablishedLegs) (stage : Stage) (c : Call) (rows : List Row) (s : StepResult) → answering.ContinuesOrEnds at x c rows s →
    going.ContinuesOrEnds at (record c { phase = Established x stage }) rows s
established-goes at x stage c rows s (answering.Continues y later r) = going.Continues (record {
  same = record { opening = r.same.opening; diversions = r.same.diversions; answered = r.same.answered };
  established = ap is_established_in r.phase;
  parts = ap (λ phase. parts_in phase s.call.past) r.phase ∙ (λ i. made_of (r.caller i) (r.same.past i) (r.callee i));
  none = r.none;
})
established-goes at x stage c rows s (answering.Ends y d output r) =
    subst (going.ContinuesOrEnds at (record c { phase = Established x stage }) rows) (sym r.is) (going.Ends (leaves-so at x y stage c d rows output r.same r.caller r.callee r.none))

untouched-goes : (at : ℕ) (c : Call) (rows : List Row) (s : StepResult) → is_established_in c.phase ≡ true → Untouched c rows s → going.ContinuesOrEnds at c rows s
untouched-goes at c rows s stands u = going.Continues (record {
  same = same_of c s.call u.same;
  established = ap is_established_in u.phase ∙ stands;
  parts = λ i. parts_in (u.phase i) (u.same.past i);
  none = u.none;
})

standing-goes : (phase : Phase) (config : CallConfigView) (now : SnapshotView) (received : Signal) (c : Call) (output : StepOutput) → is_established_in phase ≡ true →
    going.ContinuesOrEnds now.at (record c { phase = phase }) output.rows (step config now received (record c { phase = phase }) output)
standing-goes (Offered x) config now received c output stands = absurd (let e : false ≡ true = stands in cc)
standing-goes (Established x stage) config now received c output stands = established-goes now.at x stage c output.rows _ (answering.goes config now x stage received c output)
standing-goes (Detached detached) config now received c output stands = untouched-goes now.at (record c { phase = Detached detached }) output.rows _ refl (stays-detached config now detached received c output)
standing-goes (Over cause) config now received c output stands = absurd (let e : false ≡ true = stands in cc)

over-stays : (phase : Phase) (config : CallConfigView) (now : SnapshotView) (received : Signal) (c : Call) (output : StepOutput) → is_over phase ≡ true →
    StaysOver (record c { phase = phase; relayed = [] }) output.rows (step config now received (record c { phase = phase; relayed = [] }) output)
over-stays (Offered x) config now received c output over = absurd (let e : false ≡ true = over in cc)
over-stays (Established x stage) config now received c output over = absurd (let e : false ≡ true = over in cc)
over-stays (Detached detached) config now received c output over = absurd (let e : false ≡ true = over in cc)
over-stays (Over cause) config now received c output over =
    let u = answering.stays-over config now cause received (record c { relayed = [] }) output in
    record { same = same_of _ _ u.same; phase = u.phase; past = u.same.past; hold = u.hold refl; in_flight = u.in_flight refl; none = u.none }

pub calls_continue : Theorems CallsContinue
calls_continue turn_law end_law extend enough_law = record {
  opening = stays_itself turn_law end_law extend enough_law;
  parts = begun_run turn_law end_law extend enough_law;
  sheet_of = goes_by_record turn_law end_law extend enough_law;
  answered = was_answered turn_law end_law extend enough_law;
  cause = by_ending turn_law end_law extend enough_law;
  established = λ config now received c output stands. standing-goes c.phase config now received c output stands;
  ended = λ config now received c output over none.
      subst (λ (flights : List RelayedTransaction). StaysOver (record c { relayed = flights }) output.rows (step config now received (record c { relayed = flights }) output)) (sym none)
      (over-stays c.phase config now received c output over);
  dismissed = last_none;
}

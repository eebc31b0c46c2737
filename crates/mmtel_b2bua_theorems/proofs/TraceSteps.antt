-- A trace of a call and a trace of signals alone that has the same result.
-- When a leg of the call was detached the call had been answered, and whatever it receives then changes nothing of its Outcome.
use Rattle.std.proofs.Common.{◌≡◌, ℕ, ◌-◌, Bool, true, false, List, [], ◌∷◌, ◌++◌, Option, Some, None, length, drop, refl, ap, sym, subst, ◌∙◌}
use Rattle.std.proofs.lemmas.List.{append-nil, drop_at}
use Rattle.std.specs.Prelude.{if◌then◌else◌, nat_lt, not, option_to_list}
use Rattle.std.specs.List.{filter}
use Rattle.std.specs.Option.{option_map}
use Rattle.mmtel_charging.specs.declared.rows.Row.{Row}
use Rattle.mmtel_output.specs.declared.outputs.StepOutput.{StepOutput}
use Rattle.mmtel_leg.specs.declared.legs.Released.{Released}
use Rattle.mmtel_leg.specs.declared.legs.Released.TheVariants as released
use Rattle.mmtel_precedence.specs.Calls.{SnapshotView}
use Rattle.mmtel_types.specs.declared.causes.Cause.TheVariants as causes
use Rattle.mmtel_types.specs.declared.sides.Side.{Side}
use Rattle.mmtel_types.specs.declared.sides.Side.TheVariants.{Caller, Callee}
use Rattle.mmtel_call_services.specs.ChargingRecords.{cause_by, charging_records}
use Rattle.mmtel_call_services.specs.CallConfig.{CallConfigView}
use Rattle.mmtel_call.specs.Closing.{StepResult, step_result}
use Rattle.mmtel_call.specs.RelayedTransactions.{is_updating, output_after_dismissal, with_dismissal, with_dismissals}
use Rattle.mmtel_call.specs.Detaching.{call_finish, caller_meter_of, detached_in, finish_of_phase, fits_in, target_meter_of, with_leg_restored}
use Rattle.mmtel_call.specs.Table.{step, transition}
use Rattle.mmtel_call.specs.declared.calls.Call.{Call}
use Rattle.mmtel_call.specs.declared.calls.RelayedTransaction.{RelayedTransaction}
use Rattle.mmtel_call.specs.declared.calls.DetachedLeg.{DetachedLeg}
use Rattle.mmtel_call.specs.declared.calls.Phase.TheVariants.{Detached, Established, Offered, Over}
use Rattle.mmtel_call.specs.declared.calls.Phase.{Phase}
use Rattle.mmtel_call.specs.declared.calls.Stage.TheVariants.{Answered, Departing, Reinviting, Stable}
use Rattle.mmtel_call.specs.declared.signals.Signal.TheVariants as of_call
use Rattle.mmtel_call_theorems.specs.Endings as trace_endings
use Rattle.mmtel_call_theorems.specs.Endings.{end_in, ending_by}
use Rattle.mmtel_call_theorems.specs.Continuation as going
use Rattle.mmtel_call_theorems.specs.Continuation.{CallsContinue, HasEnded, Parts, StaysSame, ending_at, is_established_in, parts_in, parts_now}
use Rattle.mmtel_call_theorems.specs.Outcomes as trace_outcomes
use Rattle.mmtel_call_theorems.specs.Outcomes.{diversions_made_in}
use Rattle.mmtel_call_theorems.specs.Theorems.{ChargingIsExact}
use Rattle.mmtel_call_theorems.specs.Labels as trace_labels
use Rattle.mmtel_call_theorems.specs.Labels.{is_offered}
use Rattle.mmtel_call_theorems.specs.CallTrace as traces
use Rattle.mmtel_call_theorems.specs.CallTrace.{TraceStart, TraceStep, is_over, items_added, next_step}
use Rattle.mmtel_b2bua_theorems.specs.Outcomes.{AreFitting, EventsHaveOtherKeys, HaveEmptyOutputs, IsFitting, endings_after, endings_by, snapshot_at_diversion, snapshot_by}
use Rattle.mmtel_b2bua_theorems.specs.TracesWithTransfers.{CallEvent, Finishes, Receives, Releases, Restores, call_after}
use Rattle.mmtel_b2bua_theorems.specs.TracesWithTransfers.{call_by, charging_records_after, charging_records_by as filed_by, emits_by, emits_while_offered, moment_by, over_at}

-- ---- a step of an established call

-- what is the same where an event happens to an established call, or where the event does not change it
data Turns (P : Type 0) (at : ℕ) (c d : Call) (filed : List Row) : Type 0 where
  Keeps : d ≡ c → filed ≡ [] → Turns P at c d filed
  Stays : is_established_in c.phase ≡ true → StaysSame c d → is_established_in d.phase ≡ true → (P → parts_now d ≡ parts_now c) → filed ≡ [] → Turns P at c d filed
  Leaves : is_established_in c.phase ≡ true → StaysSame c d → d.phase ≡ Over causes.Ended → d.past ≡ [] → d.relayed ≡ [] →
      filed ≡ charging_records (ending_at d at) (parts_now c).past (parts_now c).first (parts_now c).last → Turns P at c d filed

same : (c : Call) (phase : Phase) → StaysSame c (record c { phase = phase })
same c phase = record { opening = refl; diversions = refl; answered = refl }

detached-turns : (phase : Phase) (side : Side) (c : Call) (at : ℕ) → Turns (Unit {0}) at (record c { phase = phase }) (detached_in phase side (record c { phase = phase })) []
detached-turns (Offered x) side c at = Keeps refl refl
detached-turns (Established x (Answered waiting success)) side c at = Keeps refl refl
detached-turns (Established x (Departing waiting success)) side c at = Keeps refl refl
detached-turns (Established x Stable) Caller c at = Stays refl (record { opening = refl; diversions = refl; answered = refl }) refl (λ p. refl) refl
detached-turns (Established x Stable) Callee c at = Stays refl (record { opening = refl; diversions = refl; answered = refl }) refl (λ p. refl) refl
detached-turns (Established x (Reinviting asking q)) side c at = Keeps refl refl
detached-turns (Detached detached) side c at = Keeps refl refl
detached-turns (Over cause) side c at = Keeps refl refl

-- by the leg that is put back and the one that remained
back-parts : (away left : Released) (detached : DetachedLeg) (c : Call) → detached.remaining ≡ left → fits_in (Detached detached) away ≡ true →
    parts_now (with_leg_restored (Detached detached) away (record c { phase = Detached detached })) ≡ parts_now (record c { phase = Detached detached })
back-parts (released.Caller leg) (released.Caller other) detached c is fits = absurd (let e : false
    ≡ true = ap (Rattle.mmtel_call.specs.Detaching.fits (released.Caller leg)) (sym is) ∙ fits in cc)
back-parts (released.Caller leg) (released.Callee other) detached c is fits =
    subst (λ left. parts_now (with_leg_restored (Detached (record detached { remaining = left })) (released.Caller leg) (record c { phase = Detached (record detached { remaining = left }) }))
    ≡ parts_now (record c { phase = Detached (record detached { remaining = left }) })) (sym is) refl
back-parts (released.Callee leg) (released.Caller other) detached c is fits =
    subst (λ left. parts_now (with_leg_restored (Detached (record detached { remaining = left })) (released.Callee leg) (record c { phase = Detached (record detached { remaining = left }) }))
    ≡ parts_now (record c { phase = Detached (record detached { remaining = left }) })) (sym is) refl
back-parts (released.Callee leg) (released.Callee other) detached c is fits = absurd (let e : false
    ≡ true = ap (Rattle.mmtel_call.specs.Detaching.fits (released.Callee leg)) (sym is) ∙ fits in cc)

back-turns : (phase : Phase) (away : Released) (c : Call) (at : ℕ) →
    Turns (fits_in phase away ≡ true) at (record c { phase = phase }) (with_leg_restored phase away (record c { phase = phase })) []
back-turns (Offered x) away c at = Keeps refl refl
back-turns (Established x stage) away c at = Keeps refl refl
back-turns (Detached detached) away c at = Stays refl (record { opening = refl; diversions = refl; answered = refl }) refl (λ fits. back-parts away detached.remaining detached c refl fits) refl
back-turns (Over cause) away c at = Keeps refl refl

ended_so : (answered : Option ℕ) → cause_by answered causes.Ended ≡ causes.Ended
ended_so None = refl
ended_so (Some at) = refl

-- the output of a step
added-none : {A : Type 0} (before : List A) → items_added before before ≡ []
added-none before = ap (λ l. drop (length before) l) (sym (append-nil before)) ∙ drop_at before [] (length before) refl

added-is : {A : Type 0} (before behind after : List A) → after ≡ before ++ behind → items_added before after ≡ behind
added-is before behind after e = ap (λ l. drop (length before) l) e ∙ drop_at before behind (length before) refl

-- requests in flight get their final responses, and no CDR is filed
each_rows : (config : CallConfigView) (c : Call) (flights : List RelayedTransaction) (output : StepOutput) → (with_dismissals config c flights output).rows ≡ output.rows
each_rows config c [] output = refl
each_rows config c (flight ∷ flights) output = each_rows config c flights (with_dismissal config c flight output)

dismissing_rows : (config : CallConfigView) (detached : DetachedLeg) (c : Call) (output : StepOutput) → (output_after_dismissal config (record c { phase = Detached detached }) output).rows ≡ output.rows
dismissing_rows config detached c output =
    let d : Call = record c { phase = Detached detached } in
    let pracks = filter (λ (flight : RelayedTransaction). not (is_updating flight)) c.relayed in
    each_rows config d (filter is_updating c.relayed) (with_dismissals config d pracks output) ∙ each_rows config d pracks output

finished-turns : (phase : Phase) (config : CallConfigView) (at : ℕ) (c : Call) (output : StepOutput) →
    let s = finish_of_phase phase config at (record c { phase = phase }) output in Turns (Unit {0}) at (record c { phase = phase }) s.call (items_added output.rows s.output.rows)
finished-turns (Offered x) config at c output = Keeps refl (added-none output.rows)
finished-turns (Established x stage) config at c output = Keeps refl (added-none output.rows)
finished-turns (Detached detached) config at c output =
    let s = finish_of_phase (Detached detached) config at (record c { phase = Detached detached }) output in
    Leaves refl (record { opening = refl; diversions = refl; answered = refl }) (ap Over (ended_so c.answered)) refl refl
    (added-is output.rows (charging_records (record { answered = c.answered; at = at; holds = c.hold.holds; cause = causes.Ended }) c.past (caller_meter_of detached.remaining detached.meter)
    (target_meter_of detached.remaining detached.meter)) s.output.rows
    (ap (λ rows. rows ++ charging_records (record { answered = c.answered; at = at; holds = c.hold.holds; cause = cause_by c.answered causes.Ended }) c.past (caller_meter_of detached.remaining detached.meter)
    (target_meter_of detached.remaining detached.meter)) (dismissing_rows config detached c output)
    ∙ (λ i. output.rows ++ charging_records (record { answered = c.answered; at = at; holds = c.hold.holds; cause = ended_so c.answered i }) c.past (caller_meter_of detached.remaining detached.meter)
    (target_meter_of detached.remaining detached.meter))))
finished-turns (Over cause) config at c output = Keeps refl (added-none output.rows)

-- a signal that an established call receives
received-turns : CallsContinue → (config : CallConfigView) (x : TraceStep) (c : Call) → is_established_in c.phase ≡ true →
    let s = step config x.now x.signal c x.output in Turns (Unit {0}) x.now.at c s.call (items_added x.output.rows s.output.rows)
received-turns law config x c stands =
    let s = step config x.now x.signal c x.output in
    elim (law.established config x.now x.signal c x.output stands) as (λ g. Turns (Unit {0}) x.now.at c s.call (items_added x.output.rows s.output.rows)) [
      | going.Continues r ↦ Stays stands r.same r.established (λ p. r.parts) (ap (items_added x.output.rows) r.none ∙ added-none x.output.rows)
      | going.Ends r ↦ Leaves stands r.same r.over r.past r.in_flight (added-is x.output.rows _ s.output.rows r.filed)
    ]

-- ---- a call of which a leg was detached once, beside the call of a trace of signals, which is stable

pub data After (P : Type 0) (at : ℕ) (d c : Call) (rows : List Row) : Type 0 where
  Runs : is_established_in c.phase ≡ true → (P → (parts_now c ≡ parts_now d)) → rows ≡ [] → After P at d c rows
  Gone : c.phase ≡ Over causes.Ended → c.past ≡ [] → c.relayed ≡ [] → (P → rows ≡ charging_records (ending_at c at) (parts_now d).past (parts_now d).first (parts_now d).last) → After P at d c rows

both-same : (c d e : Call) → StaysSame c d → StaysSame d e → StaysSame c e
both-same c d e one two = record { opening = two.opening ∙ one.opening; diversions = two.diversions ∙ one.diversions; answered = two.answered ∙ one.answered }

established-on : (phase : Phase) → is_established_in phase ≡ true → is_over phase ≡ false
established-on (Offered x) h = absurd (let e : false ≡ true = h in cc)
established-on (Established x stage) h = refl
established-on (Detached detached) h = refl
established-on (Over cause) h = absurd (let e : false ≡ true = h in cc)

not-standing : {A : Type 0} (phase : Phase) → phase ≡ Over causes.Ended → is_established_in phase ≡ true → A
not-standing phase e h = absurd (let f : true ≡ false = sym h ∙ ap is_established_in e in cc)

if-same : {A : Type 0} (b : Bool) (x : A) → (if b then x else x) ≡ x
if-same true x = refl
if-same false x = refl

abbrev at_if : Call → (before now : ℕ) → ℕ
at_if c before now = if is_over c.phase then before else now

-- what was there and nothing more
no-more : (rows filed : List Row) → filed ≡ [] → rows ++ filed ≡ rows
no-more rows filed e = ap (λ l. rows ++ l) e ∙ append-nil rows

abbrev rows_of_parts : Call → ℕ → Parts → List Row
rows_of_parts c at parts = charging_records (ending_at c at) parts.past parts.first parts.last

after-turns : (P Q : Type 0) (before now : ℕ) (d c e : Call) (rows filed : List Row) → After P before d c rows → Turns Q now c e filed →
    After (Q × P) (at_if c before now) d e (rows ++ filed)
after-turns P Q before now d c e rows filed (Runs stands parts none) (Keeps is nothing) =
    Runs (ap (λ (c : Call). is_established_in c.phase) is ∙ stands) (λ p. ap parts_now is ∙ parts p.1) (no-more rows filed nothing ∙ none)
after-turns P Q before now d c e rows filed (Runs stands parts none) (Stays from kept on later nothing) =
    Runs on (λ p. later p.0 ∙ parts p.1) (no-more rows filed nothing ∙ none)
after-turns P Q before now d c e rows filed (Runs stands parts none) (Leaves from kept over past flights is) =
    Gone over past flights (λ p.
    ap (λ l. l ++ filed) none ∙ is ∙ ap (rows_of_parts e now) (parts p.1)
    ∙ ap (λ b. rows_of_parts e (if b then before else now) (parts_now d)) (sym (established-on c.phase stands)))
after-turns P Q before now d c e rows filed (Gone over past flights is) (Keeps same_call nothing) =
    Gone (ap (λ (c : Call). c.phase) same_call ∙ over) (ap (λ (c : Call). c.past) same_call ∙ past) (ap (λ (c : Call). c.relayed) same_call ∙ flights) (λ p.
    no-more rows filed nothing ∙ is p.1 ∙ ap (λ (c : Call). rows_of_parts c before (parts_now d)) (sym same_call)
    ∙ ap (λ phase. rows_of_parts e (if is_over phase then before else now) (parts_now d)) (sym over))
after-turns P Q before now d c e rows filed (Gone over past flights is) (Stays from kept on later nothing) = not-standing c.phase over from
after-turns P Q before now d c e rows filed (Gone over past flights is) (Leaves from kept left empty none filed_is) = not-standing c.phase over from

after-received : CallsContinue → (P : Type 0) (before : ℕ) (d c : Call) (rows : List Row) (config : CallConfigView) (x : TraceStep) → After P before d c rows →
    let s = step config x.now x.signal c x.output in After (Unit {0} × P) (at_if c before x.now.at) d s.call (rows ++ items_added x.output.rows s.output.rows)
after-received law P before d c rows config x (Runs stands parts none) = after-turns P (Unit {0}) before x.now.at d c _ rows _ (Runs stands parts none) (received-turns law config x c stands)
after-received law P before d c rows config x (Gone over past flights is) =
    let s = step config x.now x.signal c x.output in
    let r = law.ended config x.now x.signal c x.output (ap is_over over) flights in
    Gone (r.phase ∙ over) (r.past ∙ past) r.in_flight (λ p.
    no-more rows (items_added x.output.rows s.output.rows) (ap (items_added x.output.rows) r.none ∙ added-none x.output.rows) ∙ is p.1
    ∙ (λ i. charging_records (record { answered = sym r.same.answered i; at = before; holds = (sym r.hold i).holds; cause = causes.Ended }) (parts_now d).past (parts_now d).first
    (parts_now d).last)
    ∙ ap (λ phase. rows_of_parts s.call (if is_over phase then before else x.now.at) (parts_now d)) (sym over))

received-same : CallsContinue → (P : Type 0) (before : ℕ) (d c : Call) (rows : List Row) (config : CallConfigView) (x : TraceStep) → After P before d c rows →
    StaysSame c (step config x.now x.signal c x.output).call
received-same law P before d c rows config x (Runs stands parts none) =
    elim (law.established config x.now x.signal c x.output stands) as (λ g. StaysSame c (step config x.now x.signal c x.output).call) [ going.Continues r ↦ r.same | going.Ends r ↦ r.same ]
received-same law P before d c rows config x (Gone over past flights is) = (law.ended config x.now x.signal c x.output (ap is_over over) flights).same

turns-same : (P : Type 0) (at : ℕ) (c d : Call) (filed : List Row) → Turns P at c d filed → StaysSame c d
turns-same P at c d filed (Keeps is nothing) = record {
  opening = ap (λ (c : Call). c.opening) is;
  diversions = ap (λ (c : Call). c.diversions) is;
  answered = ap (λ
      (c : Call). c.answered) is;
}
turns-same P at c d filed (Stays from kept on later nothing) = kept
turns-same P at c d filed (Leaves from kept over past flights is) = kept

-- it is not offered any more
pub after-offered : (P : Type 0) (at : ℕ) (d c : Call) (rows : List Row) → After P at d c rows → is_offered c.phase ≡ false
after-offered P at d c rows (Runs stands parts none) = go c.phase stands
  where
    go : (phase : Phase) → is_established_in phase ≡ true → is_offered phase ≡ false
    go (Offered x) h = absurd (let e : false ≡ true = h in cc)
    go (Established x stage) h = refl
    go (Detached detached) h = refl
    go (Over cause) h = refl
after-offered P at d c rows (Gone over past flights is) = ap is_offered over

established-offered : (phase : Phase) → is_established_in phase ≡ true → is_offered phase ≡ false
established-offered (Offered x) h = absurd (let e : false ≡ true = h in cc)
established-offered (Established x stage) h = refl
established-offered (Detached detached) h = refl
established-offered (Over cause) h = refl

-- so no attempt of it ends
no-end : (x : TraceStep) (c : Call) → is_offered c.phase ≡ false → ending_by x c ≡ []
no-end x c h = go c.phase h
  where
    go : (phase : Phase) → is_offered phase ≡ false → option_to_list (option_map (trace_endings.ending_at x.now.at) (end_in phase c x.signal)) ≡ []
    go (Offered trial) h = absurd (let e : true ≡ false = h in cc)
    go (Established pair stage) h = refl
    go (Detached detached) h = refl
    go (Over cause) h = refl

-- ---- a trace beside one of signals

pub data Place (s : TraceStart) (events : List CallEvent) (received : List TraceStep) : Type 0 where
  Same : call_after s events ≡ traces.call_after s received → charging_records_after s events ≡ traces.charging_records_after s received → (is_over (traces.call_after s received).phase ≡ true →
      over_at s events ≡ traces.over_at s received) → Place s events received
  Later : is_established_in (traces.call_after s received).phase ≡ true → StaysSame (traces.call_after s received) (call_after s events) →
      After (AreFitting s events) (over_at s events) (traces.call_after s received) (call_after s events) (charging_records_after s events) → Place s events received

pub record MatchesTrace (s : TraceStart) (events : List CallEvent) (received : List TraceStep) : Type 0 where
  pub endings : endings_after s events ≡ trace_endings.endings_after s received
  pub snapshot : (k : ℕ) → snapshot_at_diversion s events k ≡ trace_outcomes.snapshot_at_diversion s received k
  pub emits : emits_while_offered s events ≡ trace_labels.emits_while_offered s received
  pub own : EventsHaveOtherKeys s.arrival.key events → HaveEmptyOutputs s events → trace_labels.HaveEmptyOutputs s received
  pub place : Place s events received

-- ---- an event that is no signal

-- it continues from the established call of a trace of signals
snapshot-same : (law : ChargingIsExact) (s : TraceStart) (earlier : List CallEvent) (received : List TraceStep) (c : Call) → c ≡ traces.call_after s received →
    charging_records_after s earlier ≡ traces.charging_records_after s received → is_established_in c.phase ≡ true →
    After (AreFitting s earlier) (over_at s earlier) (traces.call_after s received) c (charging_records_after s earlier)
snapshot-same law s earlier received c is rows stands =
    let over : is_over (traces.call_after s received).phase ≡ false = ap (λ (c : Call). is_over c.phase) (sym is) ∙ established-on c.phase stands in
    Runs stands (λ p. ap parts_now is) (rows ∙ (law.runs s received over).1)

equal-same : (c d : Call) → c ≡ d → StaysSame d c
equal-same c d is = record { opening = ap (λ (c : Call). c.opening) is; diversions = ap (λ (c : Call). c.diversions) is; answered = ap (λ (c : Call). c.answered) is }

place-of : (law : ChargingIsExact) (s : TraceStart) (x : CallEvent) (earlier : List CallEvent) (received : List TraceStep) →
    Turns (IsFitting x (call_after s earlier)) (moment_by x (over_at s earlier)) (call_after s earlier) (call_by s.config x (call_after s earlier)) (filed_by s.config x
    (call_after s earlier)) →
    Place s earlier received → Place s (x ∷ earlier) received
unfolding call_after charging_records_after over_at
place-of law s x earlier received turns (Later stands kept after) =
    let c = call_after s earlier in
    let new = call_by s.config x c in
    let filed = filed_by s.config x c in
    let now = moment_by x (over_at s earlier) in
    Later stands (both-same (traces.call_after s received) c new kept (turns-same (IsFitting x c) now c new filed turns))
    (after-turns (AreFitting s earlier) (IsFitting x c) (over_at s earlier) now (traces.call_after s received) c new (charging_records_after s earlier) filed after turns)
place-of law s x earlier received turns (Same is rows over) =
    let c = call_after s earlier in
    let new = call_by s.config x c in
    let filed = filed_by s.config x c in
    let now = moment_by x (over_at s earlier) in
    let later : is_established_in c.phase ≡ true → Place s (x ∷ earlier) received = λ from.
    Later (ap (λ (c : Call). is_established_in c.phase) (sym is) ∙ from)
    (both-same (traces.call_after s received) c new (equal-same c (traces.call_after s received) is) (turns-same (IsFitting x c) now c new filed turns))
    (after-turns (AreFitting s earlier) (IsFitting x c) (over_at s earlier) now (traces.call_after s received) c new (charging_records_after s earlier) filed
    (snapshot-same law s earlier received c is rows from) turns) in
    elim turns as (λ t. Place s (x ∷ earlier) received) [
      | Keeps same_call nothing ↦ Same (same_call ∙ is) (no-more (charging_records_after s earlier) filed nothing ∙ rows) (λ h.
          ap (λ b. if b then over_at s earlier else now) (ap (λ (c : Call). is_over c.phase) is ∙ h) ∙ over h)
      | Stays from kept on parts nothing ↦ later from
      | Leaves from kept left empty none filed_is ↦ later from
    ]

no-signal : (law : ChargingIsExact) (s : TraceStart) (x : CallEvent) (earlier : List CallEvent) (received : List TraceStep) →
    Turns (IsFitting x (call_after s earlier)) (moment_by x (over_at s earlier)) (call_after s earlier) (call_by s.config x (call_after s earlier)) (filed_by s.config x
    (call_after s earlier)) →
    endings_by x (call_after s earlier) ≡ [] → ((before : SnapshotView) → snapshot_by x before ≡ before) →
    (if is_offered (call_after s earlier).phase then emits_by s.config x (call_after s earlier) else []) ≡ [] →
    MatchesTrace s earlier received → MatchesTrace s (x ∷ earlier) received
unfolding endings_after snapshot_at_diversion emits_while_offered
no-signal law s x earlier received turns ends stands out l = record {
  endings = ap (λ es. endings_after s earlier ++ es) ends ∙ append-nil (endings_after s earlier) ∙ l.endings;
  snapshot = λ k.
      ap (λ now. if nat_lt k (diversions_made_in s (call_after s earlier)) then snapshot_at_diversion s earlier k else now) (stands (snapshot_at_diversion s earlier k))
      ∙ if-same (nat_lt k (diversions_made_in s (call_after s earlier))) (snapshot_at_diversion s earlier k) ∙ l.snapshot k;
  emits = ap (λ es. emits_while_offered s earlier ++ es) out ∙ append-nil (emits_while_offered s earlier) ∙ l.emits;
  own = λ others step_outputs. l.own others.1 step_outputs.1;
  place = place-of law s x earlier received turns l.place;
}

-- while it is offered it does not end in this way
finished-out : (phase : Phase) (config : CallConfigView) (at : ℕ) (c : Call) (output : StepOutput) →
    (if is_offered phase then items_added output.out (finish_of_phase phase config at (record c { phase = phase }) output).output.out else []) ≡ []
finished-out (Offered x) config at c output = added-none output.out
finished-out (Established x stage) config at c output = refl
finished-out (Detached detached) config at c output = refl
finished-out (Over cause) config at c output = refl

-- ---- a signal

-- a signal without effect
abbrev pub quiet : TraceStep → TraceStep
quiet x = record { now = x.now; signal = of_call.Silent [] []; output = x.output }

quiet-step : (config : CallConfigView) (x : TraceStep) (c : Call) → step config x.now (quiet x).signal c x.output ≡ step_result c x.output
unfolding step transition
quiet-step config x c = refl

at-same : (b : Bool) (one two now : ℕ) → (b ≡ true → one ≡ two) → (if b then one else now) ≡ (if b then two else now)
at-same true one two now h = h refl
at-same false one two now h = refl

if-then : (b : Bool) (one now : ℕ) → b ≡ true → (if b then one else now) ≡ one
if-then b one now h = ap (λ b. if b then one else now) h

signal-same : (s : TraceStart) (x : TraceStep) (earlier : List CallEvent) (received : List TraceStep) → call_after s earlier ≡ traces.call_after s received →
    charging_records_after s earlier ≡ traces.charging_records_after s received →
    (is_over (traces.call_after s received).phase ≡ true → over_at s earlier ≡ traces.over_at s received) → MatchesTrace s earlier received → MatchesTrace s (Receives x ∷ earlier) (x ∷ received)
unfolding call_after charging_records_after over_at endings_after snapshot_at_diversion emits_while_offered traces.call_after traces.charging_records_after traces.over_at trace_endings.endings_after
    trace_outcomes.snapshot_at_diversion trace_labels.emits_while_offered
signal-same s x earlier received is rows over l = record {
  endings = λ i. l.endings i ++ ending_by x (is i);
  snapshot = λ k i. if nat_lt k (diversions_made_in s (is i)) then l.snapshot k i else x.now;
  emits = λ i. l.emits i ++ (if is_offered (is i).phase then items_added x.output.out (next_step s x (is i)).output.out else []);
  own = λ others step_outputs. (step_outputs.0, others.0, l.own others.1 step_outputs.1);
  place = Same (λ i. (next_step s x (is i)).call) (λ i. rows i ++ items_added x.output.rows (next_step s x (is i)).output.rows) (λ h.
      ap (λ (c : Call). if is_over c.phase then over_at s earlier else x.now.at) is
      ∙ at-same (is_over (traces.call_after s received).phase) (over_at s earlier) (traces.over_at s received) x.now.at over);
}

signal-later : (law : CallsContinue) (s : TraceStart) (x : TraceStep) (earlier : List CallEvent) (received : List TraceStep) → is_established_in (traces.call_after s received).phase ≡ true →
    StaysSame (traces.call_after s received) (call_after s earlier) →
    After (AreFitting s earlier) (over_at s earlier) (traces.call_after s received) (call_after s earlier) (charging_records_after s earlier) → MatchesTrace s earlier received →
    MatchesTrace s (Receives x ∷ earlier) (quiet x ∷ received)
unfolding call_after charging_records_after over_at endings_after snapshot_at_diversion emits_while_offered traces.call_after traces.charging_records_after traces.over_at trace_endings.endings_after
    trace_outcomes.snapshot_at_diversion trace_labels.emits_while_offered
signal-later law s x earlier received stands kept after l =
    let c = call_after s earlier in
    let d = traces.call_after s received in
    let offered : is_offered c.phase ≡ false = after-offered (AreFitting s earlier) (over_at s earlier) d c (charging_records_after s earlier) after in
    let still : d ≡ (next_step s (quiet x) d).call = ap (λ (t : StepResult). t.call) (sym (quiet-step s.config x d)) in
    let new = (step s.config x.now x.signal c x.output).call in
    record {
      endings =
          (λ i. l.endings i ++ no-end x c offered i) ∙ (λ i. trace_endings.endings_after s received ++ sym (no-end (quiet x) d (established-offered d.phase stands)) i);
      snapshot = λ k i. if nat_lt k (Rattle.mmtel_call_theorems.specs.Outcomes.initially_remaining s - (kept.diversions i).remaining) then l.snapshot k i else x.now;
      emits =
          (λ i. l.emits i ++ (if offered i then items_added x.output.out (step s.config x.now x.signal c x.output).output.out else []))
          ∙ (λ i. trace_labels.emits_while_offered s received ++ (if sym (established-offered d.phase stands) i then items_added x.output.out (next_step s (quiet x) d).output.out else []));
      own = λ others step_outputs. (step_outputs.0, tt, l.own others.1 step_outputs.1);
      place =
          subst (λ (e : Call). is_established_in e.phase ≡ true → StaysSame e new →
          After (AreFitting s (Receives x ∷ earlier)) (over_at s (Receives x ∷ earlier)) e new (charging_records_after s (Receives x ∷ earlier)) → Place s (Receives x ∷ earlier) (quiet x ∷ received))
          (sym still) Later
          stands
          (both-same d c new kept (received-same law (AreFitting s earlier) (over_at s earlier) d c (charging_records_after s earlier) s.config x after))
          (after-received law (AreFitting s earlier) (over_at s earlier) d c (charging_records_after s earlier) s.config x after);
    }

-- what else is observed of a trace beside one of signals, step by step
pub record Beside (s : TraceStart) (R : List CallEvent → List TraceStep → Type 0) : Type 0 where
  pub opens : R [] []
  -- the call is that of the trace of signals
  pub same : (x : TraceStep) (earlier : List CallEvent) (received : List TraceStep) → call_after s earlier ≡ traces.call_after s received → R earlier received → R (Receives x ∷ earlier) (x ∷ received)
  -- a leg of it was detached once, and the trace of signals has a signal without effect
  pub later : (x : TraceStep) (earlier : List CallEvent) (received : List TraceStep) → is_established_in (traces.call_after s received).phase ≡ true → is_offered (call_after s earlier).phase ≡ false →
      R earlier received → R (Receives x ∷ earlier) (quiet x ∷ received)
  -- what is no signal
  pub releases : (side : Side) (earlier : List CallEvent) (received : List TraceStep) → R earlier received → R (Releases side ∷ earlier) received
  pub restores : (away : Released) (earlier : List CallEvent) (received : List TraceStep) → R earlier received → R (Restores away ∷ earlier) received
  pub finishes : (at : ℕ) (output : StepOutput) (earlier : List CallEvent) (received : List TraceStep) → R earlier received → R (Finishes at output ∷ earlier) received

abbrev MatchesTraceBeside : TraceStart → (List CallEvent → List TraceStep → Type 0) → List CallEvent → Type 0
MatchesTraceBeside s R events = (received : List TraceStep) × MatchesTrace s events received × R events received

signal-matches : (law : CallsContinue) (s : TraceStart) (R : List CallEvent → List TraceStep → Type 0) → Beside s R → (x : TraceStep) (earlier : List CallEvent) (received : List TraceStep) → Place s earlier received →
    MatchesTrace s earlier received → R earlier received → MatchesTraceBeside s R (Receives x ∷ earlier)
signal-matches law s R b x earlier received (Same is rows over) l r = (x ∷ received, signal-same s x earlier received is rows over l, b.same x earlier received is r)
signal-matches law s R b x earlier received (Later stands kept after) l r = (
  quiet x ∷ received,
  signal-later law s x earlier received stands kept after l,
  b.later x earlier received stands (after-offered (AreFitting s earlier) (over_at s earlier) (traces.call_after s received) (call_after s earlier) (charging_records_after s earlier) after) r,
)

-- ---- every trace

pub matches_trace_beside : CallsContinue → ChargingIsExact → (s : TraceStart) (R : List CallEvent → List TraceStep → Type 0) → Beside s R → (events : List CallEvent) → MatchesTraceBeside s R events
unfolding call_after charging_records_after over_at endings_after snapshot_at_diversion emits_while_offered traces.call_after traces.charging_records_after traces.over_at trace_endings.endings_after
    trace_outcomes.snapshot_at_diversion trace_labels.emits_while_offered call_finish
matches_trace_beside law charged s R b [] = ([], record { endings = refl; snapshot = λ k. refl; emits = refl; own = λ others step_outputs. step_outputs; place = Same refl refl (λ h. refl) }, b.opens)
matches_trace_beside law charged s R b (Receives x ∷ earlier) = let (received, l, r) = matches_trace_beside law charged s R b earlier in signal-matches law s R b x earlier received l.place l r
matches_trace_beside law charged s R b (Releases side ∷ earlier) =
    let (received, l, r) = matches_trace_beside law charged s R b earlier in
    let c = call_after s earlier in (
      received,
      no-signal charged s (Releases side) earlier received (detached-turns c.phase side c (over_at s earlier)) refl (λ before. refl) (if-same (is_offered c.phase) []) l,
      b.releases side earlier received r,
    )
matches_trace_beside law charged s R b (Restores away ∷ earlier) =
    let (received, l, r) = matches_trace_beside law charged s R b earlier in
    let c = call_after s earlier in (
      received,
      no-signal charged s (Restores away) earlier received (back-turns c.phase away c (over_at s earlier)) refl (λ before. refl) (if-same (is_offered c.phase) []) l,
      b.restores away earlier received r,
    )
matches_trace_beside law charged s R b (Finishes at output ∷ earlier) =
    let (received, l, r) = matches_trace_beside law charged s R b earlier in
    let c = call_after s earlier in (
      received,
      no-signal charged s (Finishes at output) earlier received (finished-turns c.phase s.config at c output) refl (λ before. refl) (finished-out c.phase s.config at c output) l,
      b.finishes at output earlier received r,
    )

-- of which nothing else is observed
nothing-beside : (s : TraceStart) → Beside s (λ events received. Unit {0})
nothing-beside s = record {
  opens = tt;
  same = λ x earlier received is r. tt;
  later = λ x earlier received stands offered r. tt;
  releases = λ side earlier received r. tt;
  restores = λ away earlier received r. tt;
  finishes = λ at output earlier received r. tt;
}

pub matches_trace : CallsContinue → ChargingIsExact → (s : TraceStart) (events : List CallEvent) → (received : List TraceStep) × MatchesTrace s events received
matches_trace law charged s events = let (received, l, r) = matches_trace_beside law charged s (λ events received. Unit {0}) (nothing-beside s) events in (received, l)

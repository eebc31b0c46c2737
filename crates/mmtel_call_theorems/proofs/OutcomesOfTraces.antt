-- Every trace: the phase of the call is the one to which the moves of the precedence of services lead over its endings.
use Rattle.std.proofs.Common.{◌≡◌, ℕ, zero, suc, ◌+◌, ◌-◌, ◌≤◌, ◌<◌, Bool, true, false, List, [], ◌∷◌, ◌++◌, length, drop, refl, ap, sym, subst, ◌∙◌, arith}
use Rattle.std.proofs.lemmas.Bool.Decides.{nat_tests}
use Rattle.std.proofs.lemmas.List.{append-nil, drop_at}
use Rattle.std.specs.Prelude.{Option, Some, None, if◌then◌else◌, is_some, nat_lt}
use Rattle.std.specs.Option.{option_map}
use Rattle.mmtel_charging.specs.declared.rows.Row.{Row}
use Rattle.mmtel_output.specs.Outputs.{after_draw}
use Rattle.mmtel_output.specs.declared.outputs.StepOutput.{StepOutput}
use Rattle.mmtel_precedence.specs.Calls as precedence
use Rattle.mmtel_precedence.specs.Calls.{EndedAttempt, Final, ReachedTargetView, SnapshotView}
use Rattle.mmtel_precedence.specs.Extension.{LaterEndingsExtend, with_more_endings}
use Rattle.mmtel_precedence.specs.Moves as moves
use Rattle.mmtel_precedence.specs.Moves.{CallState, initial_phase, initial_state}
use Rattle.mmtel_precedence.specs.Opening.{refusal_at_opening, refusal_on_opening}
use Rattle.mmtel_precedence.specs.NextSteps.{EndingsAreMoves, NextStepsAreMoves}
use Rattle.mmtel_rules.specs.Facts.{FactsView}
use Rattle.mmtel_types.specs.Causes.{status_of}
use Rattle.mmtel_types.specs.declared.causes.Cause.{Cause}
use Rattle.mmtel_call_services.specs.Diversions.{DiversionsView}
use Rattle.mmtel_call_services.specs.Opening.{initial_target, opening_refusal}
use Rattle.mmtel_call_services.specs.CallConfig.{CallConfigView}
use Rattle.mmtel_call_services.specs.declared.openings.Opening.{Opening}
use Rattle.mmtel_call.specs.Closing.{StepResult}
use Rattle.mmtel_call.specs.Opening.{call_after_opening, caller_of, new_call, unless_refused}
use Rattle.mmtel_call.specs.Sending.{with_status_to_caller}
use Rattle.mmtel_call.specs.declared.calls.Call.{Call}
use Rattle.mmtel_call.specs.declared.calls.EstablishedLegs.{EstablishedLegs}
use Rattle.mmtel_call.specs.declared.calls.Phase.{Phase}
use Rattle.mmtel_call.specs.declared.calls.Phase.TheVariants.{Established, Offered, Over}
use Rattle.mmtel_call.specs.declared.calls.Stage.{Stage}
use Rattle.mmtel_call.specs.declared.calls.OfferedAttempt.{OfferedAttempt}
use Rattle.mmtel_waiting.specs.declared.hold.HoldState.{HoldState}
use Rattle.mmtel_call_theorems.specs.Charging.{charging_records_of_parts}
use Rattle.mmtel_call_theorems.specs.Labels.{HasOtherKey, HaveEmptyOutputs, InFlightHasOtherKeys, Label, emits_while_offered, final_label}
use Rattle.mmtel_call_theorems.specs.Labels.{is_offered, label_if, label_of_result, labels_of, labels_of_targets, request_uri_at}
use Rattle.mmtel_call_theorems.proofs.Labels.{labels-append, quiet-provisional}
use Rattle.mmtel_transaction.specs.declared.words.Emit.{Emit}
use Rattle.mmtel_transaction.specs.declared.words.TKey.{TKey}
use Rattle.std.proofs.Common.{append_assoc}
use Rattle.mmtel_call_theorems.specs.Endings.{end_in, ending_by, endings_after}
use Rattle.mmtel_call_theorems.specs.Outcomes.{call_inputs_of, diversions_made_after, received_diversions, result_if_answered, snapshot_at_diversion}
use Rattle.mmtel_call_theorems.specs.CallTrace.{TraceStart, TraceStep, call_after, charging_records_after, first_step, is_over, items_added, next_step, opening_in, over_at}
use Rattle.mmtel_call_theorems.proofs.OutcomeAgreement.{Agrees, Came, Comes, Ends, IsEnded, IsEstablished, IsRinging, Place, Rings, Talks, total}
use Rattle.mmtel_call_theorems.proofs.Continuation as answering
use Rattle.mmtel_call_theorems.proofs.Targets.{divert-comes, refused-comes, status-labels, target-comes}
use Rattle.mmtel_call_theorems.proofs.Dismissal.{last_none}
use Rattle.mmtel_call_theorems.proofs.AttemptOutcomes as faring
use Rattle.mmtel_call_theorems.proofs.RelayedOfOthers.{own_fly}
use Rattle.mmtel_call_theorems.proofs.CallInputs.{IsKnown, first-known, of_target-known}
use Rattle.mmtel_call_theorems.proofs.DiversionBoundSteps.{step-leaves}
use Rattle.mmtel_call_theorems.proofs.OutcomesOfSteps.{ends_by, ringing-came, stable-came}
use Rattle.mmtel_call_theorems.proofs.UnchangedCalls.{Untouched}

-- the states at later targets are those in the trace
abbrev pub Fits : TraceStart → List TraceStep → (ℕ → SnapshotView) → Type 0
Fits s received later = (j : ℕ) → j < diversions_made_after s received → later j ≡ snapshot_at_diversion s received j

abbrev pub call_in : TraceStart → (ℕ → SnapshotView) → precedence.CallInputs
call_in s later = call_inputs_of s.config s.now (opening_in s) later

-- what was observed so far is what is due for the targets that were reached, and for the result
abbrev pub LabelsAgree : TraceStart → List TraceStep → CallState → Type 0
LabelsAgree s received kept = HaveEmptyOutputs s received → labels_of s.arrival.key (emits_while_offered s received) ≡ labels_of_targets (opening_in s) kept.targets ++ label_of_result (moves.result_in kept.phase)

-- the phase of the call is the one to which this many moves over its endings lead
abbrev pub StateAgrees : TraceStart → List TraceStep → (ℕ → SnapshotView) → Type 0
StateAgrees s received later =
    (m : ℕ) × Agrees s.config s.now (opening_in s) later (moves.moves m (call_in s later) (initial_state (call_in s later) (endings_after s received))) (call_after s received)
    (charging_records_after s received) (over_at s received)
    × LabelsAgree s received (moves.moves m (call_in s later) (initial_state (call_in s later) (endings_after s received)))

pub is-known : (s : TraceStart) → IsKnown s.now (opening_in s)
is-known s = record { sheet = refl; restricted = refl }

-- ---- as it opens

abbrev pub empty_kept : moves.TargetPhase → CallState
empty_kept phase = record { done = 0; targets = []; phase = phase; endings = [] }

pub plus-zero : (n : ℕ) → n + 0 ≡ n
plus-zero n = omega arith

-- by the cause that refuses it
begins-came : (law : NextStepsAreMoves) (refusal : Option Cause) (config : CallConfigView) (now : SnapshotView) (o : Opening) (later : ℕ → SnapshotView) (output : StepOutput) (rows : List Row)
    (old : List Label) → IsKnown now o → output.rows ≡ rows → (Unit {0} → labels_of o.key output.out ≡ old) →
    let c = new_call config o in
    let s = unless_refused refusal config now (caller_of now.at c) c output in
    ((j : ℕ) → j < total config o - s.call.diversions.remaining → later j ≡ now) →
    Comes config now o later (Unit {0}) [] (empty_kept (initial_phase refusal (call_inputs_of config now o later))) rows old s now.at
begins-came law None config now o later output rows old known same shown stands =
    let c = new_call config o in
    target-comes law c.diversions.remaining config now now later (caller_of now.at c) (Unit {0}) (divert-comes law c.diversions.remaining config now now later (caller_of now.at c) (Unit {0})) None
    (initial_target o) c output rows old (empty_kept (moves.Over precedence.Pending)) known
    (record {
      answered = refl;
      remaining = plus-zero (total config o);
      count = sym (plus-zero (received_diversions o));
      made = λ offer. refl;
      reached = refl;
      empty = refl;
      origin = refl;
      past = λ offer. refl;
      snapshots = refl;
      number = first-known o;
    })
    refl same shown (λ j least most. stands j most)
begins-came law (Some cause) config now o later output rows old known same shown stands =
    let c = new_call config o in
    refused-comes config now later now.at (caller_of now.at c) cause c (with_status_to_caller config c (status_of cause) output) rows (Unit {0}) old (empty_kept (moves.Over precedence.Pending))
    (record {
      answered = refl;
      remaining = plus-zero (total config o);
      count = sym (plus-zero (received_diversions o));
      made = refl;
      empty = refl;
      origin = refl;
      past = refl;
    })
    same (λ p. status-labels config c (status_of cause) output ∙ ap (λ l. l ++ final_label (status_of cause)) (shown p))

pub refusal-known : (config : CallConfigView) (now : SnapshotView) (o : Opening) (later : ℕ → SnapshotView) → IsKnown now o → opening_refusal config now.at o ≡ refusal_at_opening (call_inputs_of config now o later)
refusal-known config now o later known =
    ap (λ sheet. refusal_on_opening o.invite.parsed.wants o.served sheet (Rattle.mmtel_call_services.specs.Decisions.target_facts config o now.at (initial_target o).uri)) known.sheet
    ∙ ap (λ (k : FactsView). refusal_on_opening o.invite.parsed.wants o.served (option_map (Rattle.mmtel_precedence.specs.Calls.sheet_at now) o.served.origin) k)
    (of_target-known config now o later now.at (initial_target o).uri known)

-- what is appended to what was there
pub added-is : {A : Type 0} (before behind after : List A) → after ≡ before ++ behind → items_added before after ≡ behind
added-is before behind after e = ap (λ l. drop (length before) l) e ∙ drop_at before behind (length before) refl

opens-came : (law : NextStepsAreMoves) (s : TraceStart) (later : ℕ → SnapshotView) → Fits s [] later →
    Comes s.config s.now (opening_in s) later (Unit {0}) [] (initial_state (call_in s later) []) s.output.rows (labels_of s.arrival.key s.output.out) (first_step s) s.now.at
unfolding call_after_opening call_after snapshot_at_diversion
opens-came law s later fits =
    let o = opening_in s in
    subst (λ refusal. Comes s.config s.now o later (Unit {0}) [] (empty_kept (initial_phase refusal (call_in s later))) s.output.rows (labels_of s.arrival.key s.output.out) (first_step s) s.now.at)
    (refusal-known s.config s.now o later (is-known s))
    (begins-came law (opening_refusal s.config s.now.at o) s.config s.now o later (with_status_to_caller s.config (new_call s.config o) 100 (after_draw s.output)) s.output.rows
    (labels_of s.arrival.key s.output.out) (is-known s) refl (λ p. (quiet-provisional s.arrival.key s.arrival.key _ _ _ (after_draw s.output) refl).labels) fits)

-- of a step whose output was empty before
shown-of : (key : TKey) (old new : List Emit) (signs : List Label) → old ≡ [] → labels_of key new ≡ labels_of key old ++ signs → labels_of key (items_added old new) ≡ signs
shown-of key old new signs e f = ap (λ l. labels_of key (drop (length l) new)) e ∙ f ∙ ap (λ l. labels_of key l ++ signs) e

tied-first : (law : NextStepsAreMoves) (s : TraceStart) (later : ℕ → SnapshotView) → Fits s [] later → StateAgrees s [] later
unfolding call_after charging_records_after over_at endings_after emits_while_offered
tied-first law s later fits =
    let (n, filed, same, agrees, (new, reached, shown)) = opens-came law s later fits in
    let kept = moves.moves n (call_in s later) (initial_state (call_in s later) []) in (
      n,
      subst (λ rows. Agrees s.config s.now (opening_in s) later kept (first_step s).call rows s.now.at) (sym (added-is s.output.rows filed (first_step s).output.rows same)) agrees,
      λ own.
          shown-of s.arrival.key s.output.out (first_step s).output.out (labels_of_targets (opening_in s) new ++ label_of_result (moves.result_in kept.phase)) own (shown tt)
          ∙ ap (λ targets. labels_of_targets (opening_in s) targets ++ label_of_result (moves.result_in kept.phase)) (sym reached),
    )

-- ---- and later

-- moves after other moves
pub moves-more : (j m : ℕ) (call : precedence.CallInputs) (kept : CallState) → moves.moves m call (moves.moves j call kept) ≡ moves.moves (j + m) call kept
unfolding moves.moves
moves-more zero m call kept = ap (λ i. moves.moves i call kept) (let e : m ≡ 0 + m = omega arith in e)
moves-more (suc j) m call kept = moves-more j m call _ ∙ ap (λ i. moves.moves i call kept) (let e : suc (j + m) ≡ suc j + m = omega arith in e)

-- the trace continues in this way, if the moves over what ended lead to it
abbrev Next : TraceStart → List TraceStep → (ℕ → SnapshotView) → List EndedAttempt → Call → List Row → (at : ℕ) → (CallState → Type 0) → Type 0
Next s earlier later ends d rows at told =
    (m : ℕ) × Agrees s.config s.now (opening_in s) later (moves.moves m (call_in s later) (initial_state (call_in s later) (endings_after s earlier ++ ends))) d rows at
    × told (moves.moves m (call_in s later) (initial_state (call_in s later) (endings_after s earlier ++ ends)))

next-of : (law : LaterEndingsExtend) (s : TraceStart) (earlier : List TraceStep) (later : ℕ → SnapshotView) (ends : List EndedAttempt) (m n : ℕ) (d : Call) (rows : List Row) (at : ℕ) (told : CallState → Type 0) →
    Agrees s.config s.now (opening_in s) later (moves.moves n (call_in s later) (with_more_endings (moves.moves m (call_in s later) (initial_state (call_in s later) (endings_after s earlier))) ends)) d rows at →
    told (moves.moves n (call_in s later) (with_more_endings (moves.moves m (call_in s later) (initial_state (call_in s later) (endings_after s earlier))) ends)) →
    Next s earlier later ends d rows at told
next-of law s earlier later ends m n d rows at told agrees shown =
    let call = call_in s later in
    let (fewer, least, same) = law.go_on call m (initial_state call (endings_after s earlier)) ends in
    let moved = ap (moves.moves n call) (sym same) ∙ moves-more fewer n call (initial_state call (endings_after s earlier ++ ends)) in
    (fewer + n, subst (λ (k : CallState). Agrees s.config s.now (opening_in s) later k d rows at) moved agrees, subst told moved shown)

-- what was filed before and what is filed now
rows-of : (before : List Row) (filed old new : List Row) → before ≡ [] → new ≡ old ++ filed → before ++ items_added old new ≡ filed
rows-of before filed old new e f = ap (λ l. l ++ items_added old new) e ∙ added-is old filed new f

-- the call has the phase that is claimed
pub in-phase : (c : Call) (phase : Phase) → c.phase ≡ phase → c ≡ record c { phase = phase }
in-phase c phase e = ap (λ p. record c { phase = p }) e

abbrev at_if_over : Phase → ℕ → ℕ → ℕ
at_if_over phase before now = if is_over phase then before else now

-- what was observed before and now
abbrev Then : TraceStart → TraceStep → List TraceStep → Call → CallState → Type 0
Then s x earlier c kept =
    HaveEmptyOutputs s (x ∷ earlier) →
    labels_of s.arrival.key (emits_while_offered s earlier ++ (if is_offered c.phase then items_added x.output.out (next_step s x c).output.out else []))
    ≡ labels_of_targets (opening_in s) kept.targets ++ label_of_result (moves.result_in kept.phase)

targets-more : (o : Opening) (before new : List precedence.OutcomeTarget) → labels_of_targets o (before ++ new) ≡ labels_of_targets o before ++ labels_of_targets o new
targets-more o [] new = refl
targets-more o (target ∷ before) new =
    ap (λ l. label_if target.offer (request_uri_at o target.diversion target.uri) ++ l) (targets-more o before new)
    ∙ sym (append_assoc (label_if target.offer (request_uri_at o target.diversion target.uri)) (labels_of_targets o before) (labels_of_targets o new))

then-ringing : (s : TraceStart) (x : TraceStep) (earlier : List TraceStep) (c : Call) (kept after : CallState) (trial : OfferedAttempt) (reach : ReachedTargetView) (new : List precedence.OutcomeTarget) →
    c.phase ≡ Offered trial → kept.phase ≡ moves.Ringing (Rattle.mmtel_precedence.specs.Moves.account_at reach) → LabelsAgree s earlier kept →
    after.targets ≡ kept.targets ++ new → (HaveEmptyOutputs s earlier → InFlightHasOtherKeys s.arrival.key c.relayed) →
    (HasOtherKey s.arrival.key x.signal × InFlightHasOtherKeys s.arrival.key c.relayed →
    labels_of s.arrival.key (next_step s x c).output.out ≡ labels_of s.arrival.key x.output.out ++ (labels_of_targets (opening_in s) new ++ label_of_result (moves.result_in after.phase))) →
    Then s x earlier c after
then-ringing s x earlier c kept after trial reach new offered rings told targets fly shown own =
    let key = s.arrival.key in
    let o = opening_in s in
    let out = items_added x.output.out (next_step s x c).output.out in
    let rest = labels_of_targets o new ++ label_of_result (moves.result_in after.phase) in
    let before : labels_of key (emits_while_offered s earlier) ≡ labels_of_targets o kept.targets =
    told own.2 ∙ ap (λ phase. labels_of_targets o kept.targets ++ label_of_result (moves.result_in phase)) rings ∙ append-nil (labels_of_targets o kept.targets) in
    ap (λ phase. labels_of key (emits_while_offered s earlier ++ (if is_offered phase then out else []))) offered
    ∙ labels-append key (emits_while_offered s earlier) out
    ∙ ap (λ l. l ++ labels_of key out) before
    ∙ ap (λ l. labels_of_targets o kept.targets ++ l) (shown-of key x.output.out (next_step s x c).output.out rest own.0 (shown (own.1, fly own.2)))
    ∙ sym (append_assoc (labels_of_targets o kept.targets) (labels_of_targets o new) (label_of_result (moves.result_in after.phase)))
    ∙ ap (λ l. l ++ label_of_result (moves.result_in after.phase)) (sym (targets-more o kept.targets new))
    ∙ ap (λ targets. labels_of_targets o targets ++ label_of_result (moves.result_in after.phase)) (sym targets)

-- in a step at which it was not offered nothing counts
then-still : (s : TraceStart) (x : TraceStep) (earlier : List TraceStep) (c : Call) (kept : CallState) → is_offered c.phase ≡ false → LabelsAgree s earlier kept → Then s x earlier c kept
then-still s x earlier c kept offered told own =
    ap (λ b. labels_of s.arrival.key (emits_while_offered s earlier ++ (if b then items_added x.output.out (next_step s x c).output.out else []))) offered
    ∙ ap (labels_of s.arrival.key) (append-nil (emits_while_offered s earlier)) ∙ told own.2

next-ringing : (turn_law : NextStepsAreMoves) (end_law : EndingsAreMoves) (extend : LaterEndingsExtend) (s : TraceStart) (x : TraceStep) (earlier : List TraceStep) (later : ℕ → SnapshotView)
    (c : Call) (filed : List Row) (before m : ℕ) (trial : OfferedAttempt) (reach : ReachedTargetView) →
    let kept = moves.moves m (call_in s later) (initial_state (call_in s later) (endings_after s earlier)) in
    Agrees s.config s.now (opening_in s) later kept c filed before → IsRinging s.config s.now (opening_in s) later kept c filed trial reach →
    ((j : ℕ) → kept.done ≤ j → j < total s.config (opening_in s) - (next_step s x c).call.diversions.remaining → later j ≡ x.now) → LabelsAgree s earlier kept →
    (HaveEmptyOutputs s earlier → InFlightHasOtherKeys s.arrival.key c.relayed) →
    Next s earlier later (ending_by x c) (next_step s x c).call (filed ++ items_added x.output.rows (next_step s x c).output.rows) (at_if_over c.phase before x.now.at) (Then s x earlier c)
next-ringing turn_law end_law extend s x earlier later c filed before m trial reach agrees p stands told fly =
    let o = opening_in s in
    let call = call_in s later in
    let kept = moves.moves m call (initial_state call (endings_after s earlier)) in
    let new = next_step s x c in
    let P = faring.IsOwn c x.signal in
    let fares : faring.AttemptStep P s.config x.now trial c x.output (end_in c.phase c x.signal) new =
    subst (λ (c : Call). faring.AttemptStep (faring.IsOwn c x.signal) s.config x.now trial c x.output (end_in c.phase c x.signal) (next_step s x c)) (sym (in-phase c (Offered trial) p.phase))
    (faring.attempt-step s.config x.now trial x.signal c x.output) in
    let came : Comes s.config s.now o later P kept.targets (with_more_endings kept (ending_by x c)) x.output.rows (labels_of o.key x.output.out) new x.now.at =
    ringing-came turn_law end_law s.config x.now s.now later kept c filed x.output P trial reach (end_in c.phase c x.signal) new o
    (record { known = is-known s; remaining = agrees.remaining; count = agrees.count; rings = p; snapshots = stands }) agrees.made agrees.empty agrees.opening fares in
    let (n, more, same, after, (reached, targets, shown)) = came in
    let moment : x.now.at ≡ at_if_over c.phase before x.now.at = ap (λ phase. at_if_over phase before x.now.at) (sym p.phase) in
    next-of extend s earlier later (ending_by x c) m n new.call (filed ++ items_added x.output.rows new.output.rows) (at_if_over c.phase before x.now.at) (Then s x earlier c)
    (subst (λ at. Agrees s.config s.now o later (moves.moves n call (with_more_endings kept (ending_by x c))) new.call (filed ++ items_added x.output.rows new.output.rows) at) moment
    (subst (λ rows. Agrees s.config s.now o later (moves.moves n call (with_more_endings kept (ending_by x c))) new.call rows x.now.at) (sym (rows-of filed more x.output.rows new.output.rows p.none same)) after))
    (then-ringing s x earlier c kept (moves.moves n call (with_more_endings kept (ending_by x c))) trial reach reached p.phase p.rings told targets fly
    (λ others. shown (subst (λ (q : Opening). HasOtherKey q.key x.signal × InFlightHasOtherKeys q.key c.relayed) (sym agrees.opening) others)))

-- moves of a call that is over
over-still : (n : ℕ) (call : precedence.CallInputs) (kept : CallState) (result : precedence.CallResult) → kept.phase ≡ moves.Over result → moves.moves n call kept ≡ kept
unfolding moves.moves
over-still zero call kept result e = refl
over-still (suc n) call kept result e = ap (λ phase. moves.moves n call (moves.move_in phase call kept)) e ∙ over-still n call kept result e

next-stable : (extend : LaterEndingsExtend) (s : TraceStart) (x : TraceStep) (earlier : List TraceStep) (later : ℕ → SnapshotView) (c : Call) (filed : List Row) (before m : ℕ) (pair : EstablishedLegs)
    (stage : Stage) (answered : ℕ) →
    let kept = moves.moves m (call_in s later) (initial_state (call_in s later) (endings_after s earlier)) in
    Agrees s.config s.now (opening_in s) later kept c filed before → IsEstablished s.config s.now (opening_in s) later kept c filed pair stage answered → LabelsAgree s earlier kept →
    Next s earlier later (ending_by x c) (next_step s x c).call (filed ++ items_added x.output.rows (next_step s x c).output.rows) (at_if_over c.phase before x.now.at) (Then s x earlier c)
next-stable extend s x earlier later c filed before m pair stage answered agrees p told =
    let o = opening_in s in
    let call = call_in s later in
    let kept = moves.moves m call (initial_state call (endings_after s earlier)) in
    let new = next_step s x c in
    let goes : answering.ContinuesOrEnds x.now.at pair c x.output.rows new =
    subst (λ (d : Call). answering.ContinuesOrEnds x.now.at pair c x.output.rows (next_step s x d)) (sym (in-phase c (Established pair stage) p.phase)) (answering.goes s.config x.now pair stage x.signal c x.output) in
    let came : Came s.config s.now o later kept x.output.rows new x.now.at =
    stable-came s.config s.now o later x.now.at kept c filed x.output.rows pair stage answered new p agrees.remaining agrees.count agrees.made agrees.empty agrees.opening goes in
    let (n, more, same, after) = came in
    let moment : x.now.at ≡ at_if_over c.phase before x.now.at = ap (λ phase. at_if_over phase before x.now.at) (sym p.phase) in
    let none : [] ≡ ending_by x c = ap (λ phase. ends_by x.now.at (end_in phase c x.signal)) (sym p.phase) in
    let still : with_more_endings kept [] ≡ kept = ap (λ es. record kept { endings = es }) (append-nil kept.endings) in
    subst (λ ends. Next s earlier later ends new.call (filed ++ items_added x.output.rows new.output.rows) (at_if_over c.phase before x.now.at) (Then s x earlier c)) none
    (next-of extend s earlier later [] m n new.call (filed ++ items_added x.output.rows new.output.rows) (at_if_over c.phase before x.now.at) (Then s x earlier c)
    (subst (λ (k : CallState). Agrees s.config s.now o later (moves.moves n call k) new.call (filed ++ items_added x.output.rows new.output.rows) (at_if_over c.phase before x.now.at)) (sym still)
    (subst (λ at. Agrees s.config s.now o later (moves.moves n call kept) new.call (filed ++ items_added x.output.rows new.output.rows) at) moment
    (subst (λ rows. Agrees s.config s.now o later (moves.moves n call kept) new.call rows x.now.at) (sym (rows-of filed more x.output.rows new.output.rows p.none same)) after)))
    (subst (Then s x earlier c) (sym (over-still n call kept precedence.Answered p.over) ∙ ap (moves.moves n call) (sym still)) (then-still s x earlier c kept (ap is_offered p.phase) told)))

over-same : (config : CallConfigView) (first : SnapshotView) (o : Opening) (later : ℕ → SnapshotView) (kept : CallState) (c : Call) (filed : List Row) (at : ℕ) (cause : Cause) (rows : List Row) (new : StepResult) →
    Agrees config first o later kept c filed at → IsEnded config first o later kept c filed at cause → c.relayed ≡ [] →
    Untouched c rows new → Agrees config first o later kept new.call (filed ++ items_added rows new.output.rows) at
over-same config first o later kept c filed at cause rows new agrees p flown u =
    let no_rows : items_added rows new.output.rows ≡ [] = added-is rows [] new.output.rows (u.none ∙ sym (append-nil rows)) in
    record {
      opening = u.same.opening ∙ agrees.opening;
      remaining = ap (λ (v : DiversionsView). v.remaining + kept.done) u.same.diversions ∙ agrees.remaining;
      count = ap (λ (v : DiversionsView). v.count) u.same.diversions ∙ agrees.count;
      made = agrees.made;
      empty = agrees.empty;
      place = Ends cause (record {
        phase = u.phase ∙ p.phase;
        over = p.over ∙ ap (λ answered. moves.Over (result_if_answered answered (Final cause))) (sym u.same.answered);
        why = λ h. p.why (ap is_some (sym u.same.answered) ∙ h);
        past = u.same.past ∙ p.past;
        rows =
            ap (λ l. filed ++ l) no_rows ∙ append-nil filed ∙ p.rows
            ∙ ap (λ answered. charging_records_of_parts (record { answered = answered; at = at; holds = c.hold.holds; cause = cause }) (call_inputs_of config first o later) o.number kept.targets) (sym u.same.answered)
            ∙ ap (λ (hold : HoldState). charging_records_of_parts (record { answered = new.call.answered; at = at; holds = hold.holds; cause = cause }) (call_inputs_of config first o later) o.number kept.targets)
            (sym (u.hold flown));
      });
    }

next-over : (extend : LaterEndingsExtend) (s : TraceStart) (x : TraceStep) (earlier : List TraceStep) (later : ℕ → SnapshotView) (c : Call) (filed : List Row) (before m : ℕ) (cause : Cause) →
    let kept = moves.moves m (call_in s later) (initial_state (call_in s later) (endings_after s earlier)) in
    Agrees s.config s.now (opening_in s) later kept c filed before → IsEnded s.config s.now (opening_in s) later kept c filed before cause → LabelsAgree s earlier kept → c.relayed ≡ [] →
    Next s earlier later (ending_by x c) (next_step s x c).call (filed ++ items_added x.output.rows (next_step s x c).output.rows) (at_if_over c.phase before x.now.at) (Then s x earlier c)
unfolding moves.moves
next-over extend s x earlier later c filed before m cause agrees p told flown =
    let o = opening_in s in
    let call = call_in s later in
    let kept = moves.moves m call (initial_state call (endings_after s earlier)) in
    let new = next_step s x c in
    let u : Untouched c x.output.rows new =
    subst (λ (d : Call). Untouched d x.output.rows (next_step s x d)) (sym (in-phase c (Over cause) p.phase)) (answering.stays-over s.config x.now cause x.signal c x.output) in
    let moment : before ≡ at_if_over c.phase before x.now.at = ap (λ phase. at_if_over phase before x.now.at) (sym p.phase) in
    let none : [] ≡ ending_by x c = ap (λ phase. ends_by x.now.at (end_in phase c x.signal)) (sym p.phase) in
    let still : with_more_endings kept [] ≡ kept = ap (λ es. record kept { endings = es }) (append-nil kept.endings) in
    subst (λ ends. Next s earlier later ends new.call (filed ++ items_added x.output.rows new.output.rows) (at_if_over c.phase before x.now.at) (Then s x earlier c)) none
    (next-of extend s earlier later [] m 0 new.call (filed ++ items_added x.output.rows new.output.rows) (at_if_over c.phase before x.now.at) (Then s x earlier c)
    (subst (λ (k : CallState). Agrees s.config s.now o later k new.call (filed ++ items_added x.output.rows new.output.rows) (at_if_over c.phase before x.now.at)) (sym still)
    (subst (λ at. Agrees s.config s.now o later kept new.call (filed ++ items_added x.output.rows new.output.rows) at) moment
    (over-same s.config s.now o later kept c filed before cause x.output.rows new agrees p flown u)))
    (subst (Then s x earlier c) (sym still) (then-still s x earlier c kept (ap is_offered p.phase) told)))

-- whatever its phase
next-at : (turn_law : NextStepsAreMoves) (end_law : EndingsAreMoves) (extend : LaterEndingsExtend) (s : TraceStart) (x : TraceStep) (earlier : List TraceStep) (later : ℕ → SnapshotView) (c : Call)
    (filed : List Row) (before m : ℕ) →
    let kept = moves.moves m (call_in s later) (initial_state (call_in s later) (endings_after s earlier)) in
    Agrees s.config s.now (opening_in s) later kept c filed before →
    ((j : ℕ) → kept.done ≤ j → j < total s.config (opening_in s) - (next_step s x c).call.diversions.remaining → later j ≡ x.now) → LabelsAgree s earlier kept →
    (HaveEmptyOutputs s earlier → InFlightHasOtherKeys s.arrival.key c.relayed) → (is_over c.phase ≡ true → c.relayed ≡ []) → Place s.config s.now (opening_in s) later kept c filed before →
    Next s earlier later (ending_by x c) (next_step s x c).call (filed ++ items_added x.output.rows (next_step s x c).output.rows) (at_if_over c.phase before x.now.at) (Then s x earlier c)
next-at turn_law end_law extend s x earlier later c filed before m agrees stands told fly flown (Rings trial reach p) =
    next-ringing turn_law end_law extend s x earlier later c filed before m trial reach agrees p stands told fly
next-at turn_law end_law extend s x earlier later c filed before m agrees stands told fly flown (Talks pair stage answered p) = next-stable extend s x earlier later c filed before m pair stage answered agrees p told
next-at turn_law end_law extend s x earlier later c filed before m agrees stands told fly flown (Ends cause p) = next-over extend s x earlier later c filed before m cause agrees p told (flown (ap is_over p.phase))

-- ---- every trace

lt-true : (made j : ℕ) → j < made → nat_lt j made ≡ true
lt-true made j e = grind (arith, nat_tests)

lt-false : (made j : ℕ) → made ≤ j → nat_lt j made ≡ false
lt-false made j e = grind (arith, nat_tests)

snapshot-before : (made j : ℕ) (then_ now_ : SnapshotView) → j < made → (if nat_lt j made then then_ else now_) ≡ then_
snapshot-before made j then_ now_ e = go (nat_lt j made) (lt-true made j e)
  where
    go : (b : Bool) → b ≡ true → (if b then then_ else now_) ≡ then_
    go true f = refl
    go false f = absurd cc

snapshot-now : (made j : ℕ) (then_ now_ : SnapshotView) → made ≤ j → (if nat_lt j made then then_ else now_) ≡ now_
snapshot-now made j then_ now_ e = go (nat_lt j made) (lt-false made j e)
  where
    go : (b : Bool) → b ≡ false → (if b then then_ else now_) ≡ now_
    go true f = absurd cc
    go false f = refl

-- later states that fit a trace fit the trace without its last signal
pub fits-earlier : (s : TraceStart) (x : TraceStep) (earlier : List TraceStep) (later : ℕ → SnapshotView) → Fits s (x ∷ earlier) later → Fits s earlier later
unfolding call_after snapshot_at_diversion
fits-earlier s x earlier later fits j most =
    let leaves = step-leaves s.config x.now x.signal (call_after s earlier) x.output in
    fits j (omega arith) ∙ snapshot-before (diversions_made_after s earlier) j (snapshot_at_diversion s earlier j) x.now most

pub fits-now : (s : TraceStart) (x : TraceStep) (earlier : List TraceStep) (later : ℕ → SnapshotView) (done : ℕ) → Fits s (x ∷ earlier) later →
    (call_after s earlier).diversions.remaining + done ≡ total s.config (opening_in s) →
    (j : ℕ) → done ≤ j → j < total s.config (opening_in s) - (next_step s x (call_after s earlier)).call.diversions.remaining → later j ≡ x.now
unfolding call_after snapshot_at_diversion
fits-now s x earlier later done fits e j least most = fits j most ∙ snapshot-now (diversions_made_after s earlier) j (snapshot_at_diversion s earlier j) x.now (omega arith)

pub state_agrees : (turn_law : NextStepsAreMoves) (end_law : EndingsAreMoves) (extend : LaterEndingsExtend) (s : TraceStart) (received : List TraceStep) (later : ℕ → SnapshotView) →
    Fits s received later → StateAgrees s received later
unfolding call_after charging_records_after over_at endings_after emits_while_offered
state_agrees turn_law end_law extend s [] later fits = tied-first turn_law s later fits
state_agrees turn_law end_law extend s (x ∷ earlier) later fits =
    let (m, agrees, told) = state_agrees turn_law end_law extend s earlier later (fits-earlier s x earlier later fits) in
    next-at turn_law end_law extend s x earlier later (call_after s earlier) (charging_records_after s earlier) (over_at s earlier) m agrees
    (fits-now s x earlier later (moves.moves m (call_in s later) (initial_state (call_in s later) (endings_after s earlier))).done fits agrees.remaining) told (own_fly s earlier) (last_none s earlier) agrees.place

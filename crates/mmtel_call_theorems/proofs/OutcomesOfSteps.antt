-- One signal: the phase of the call is the one to which the moves of the precedence of services lead, over what ends then.
use Rattle.std.proofs.Common.{◌==◌, ◌≡◌, ℕ, ◌+◌, arith, Bool, true, false, List, [], ◌∷◌, ◌++◌, refl, ap, sym, subst, ◌∙◌}
use Rattle.std.proofs.lemmas.List.{append-nil}
use Rattle.std.specs.Prelude.{Option, Some, None, count_by, if◌then◌else◌, nat_lt, option_to_list}
use Rattle.std.specs.Option.{option_map}
use Rattle.mmtel_compose.specs.ReceivedMessages.{MessageView, status_of as status_in}
use Rattle.mmtel_charging.specs.declared.rows.Row.{Row}
use Rattle.mmtel_output.specs.declared.outputs.StepOutput.{StepOutput}
use Rattle.mmtel_leg.specs.Legs.{Leg}
use Rattle.mmtel_precedence.specs.Calls as precedence
use Rattle.mmtel_precedence.specs.Calls.{Answer, AttemptEndView, Cancel, Deflection, EndedAttempt, Final, NoReply, NotReachable, Other, ReachedTargetView, SnapshotView, Unacknowledged, UserBusy}
use Rattle.mmtel_precedence.specs.Extension.{with_more_endings}
use Rattle.mmtel_precedence.specs.Theorems.{is_diverted_to}
use Rattle.mmtel_precedence.specs.Moves as moves
use Rattle.mmtel_precedence.specs.Moves.{CallState, account_at, with_phase}
use Rattle.mmtel_precedence.specs.Services.{DueDiversionView}
use Rattle.mmtel_precedence.specs.Targets as targets
use Rattle.mmtel_precedence.specs.NextSteps as turns
use Rattle.mmtel_precedence.specs.NextSteps.{EndAnswered, EndDivert, EndRefuse, EndingsAreMoves, NextStepsAreMoves, StepAfterAttemptView, divert_or_refuse, state_after_attempt_step, step_after_attempt}
use Rattle.mmtel_rules.specs.Facts.{FactsView}
use Rattle.mmtel_sheet_values.specs.declared.values.Sheet.{Sheet}
use Rattle.mmtel_types.specs.Causes.{status_of}
use Rattle.mmtel_types.specs.declared.causes.Cause.{Cause}
use Rattle.mmtel_types.specs.declared.causes.Cause.TheVariants as causes
use Rattle.mmtel_call_services.specs.Decisions as decisions
use Rattle.mmtel_call_services.specs.Decisions.{decision_after, is_status, relayed_status, service_sheet}
use Rattle.mmtel_call_services.specs.Diversions.{DiversionsView}
use Rattle.mmtel_call_services.specs.ChargingRecords.{cause_by, charging_records}
use Rattle.mmtel_call_services.specs.CallConfig.{CallConfigView}
use Rattle.mmtel_call_services.specs.declared.openings.Opening.{Opening}
use Rattle.mmtel_call_services.specs.declared.openings.Service.{Service}
use Rattle.mmtel_call_services.specs.declared.charging_records.Ending.{Ending}
use Rattle.mmtel_call.specs.Closing.{StepResult, account_in, call_end, established_call_end, offered_call_end, with_past}
use Rattle.mmtel_call.specs.Diverting.{after_attempt, is_diverted, on_end, relayed_refusal}
use Rattle.mmtel_call.specs.Sending.{with_relay_to_caller, with_status_to_caller}
use Rattle.mmtel_call.specs.declared.calls.Call.{Call}
use Rattle.mmtel_call.specs.declared.calls.EstablishedLegs.{EstablishedLegs}
use Rattle.mmtel_call.specs.declared.calls.Stage.{Stage}
use Rattle.mmtel_call.specs.declared.calls.OfferedAttempt.{OfferedAttempt}
use Rattle.mmtel_call_theorems.specs.Charging.{origin_part, past_parts}
use Rattle.mmtel_call_theorems.specs.Labels.{Accepted, Label, final_label, label_of_result, labels_of}
use Rattle.std.proofs.lemmas.Bool.Decides.{nat_tests}
use Rattle.mmtel_call_theorems.specs.Endings.{ending_at}
use Rattle.mmtel_call_theorems.specs.Outcomes.{call_inputs_of, received_diversions, result_if_answered}
use Rattle.mmtel_call_theorems.proofs.OutcomeAgreement.{Came, Comes, Ends, IsEstablished, IsReady, IsRinging, Rings, Talks, by-answer, total}
use Rattle.mmtel_call_theorems.proofs.Continuation as answering
use Rattle.mmtel_call_theorems.proofs.Targets.{IsDiverting, SnapshotsFrom, came-after, divert-comes, refused-comes, unanswered, relayed-shown, status-labels}
use Rattle.mmtel_call_theorems.proofs.AttemptOutcomes as faring
use Rattle.mmtel_call_theorems.proofs.CallInputs.{IsKnown, of_caller-known}
use Rattle.mmtel_call_theorems.proofs.UnchangedCalls.{SameCall}

-- what has ended by then
abbrev pub ends_by : (at : ℕ) → Option AttemptEndView → List EndedAttempt
ends_by at end = option_to_list (option_map (ending_at at) end)

-- ---- the move on the end of an attempt

-- while it rings, no move is pending
abbrev pub ringing : CallState → ReachedTargetView → CallState
ringing kept reach = record kept { phase = moves.Ringing (account_at reach); endings = [] }

pub is-ringing : (kept : CallState) (reach : ReachedTargetView) → kept.phase ≡ moves.Ringing (account_at reach) → kept.endings ≡ [] → ringing kept reach ≡ kept
is-ringing kept reach e f = ap (λ p. record kept { phase = p; endings = [] }) (sym e) ∙ ap (λ es. record kept { endings = es }) (sym f)

next-step-came : (law : EndingsAreMoves) (config : CallConfigView) (first : SnapshotView) (o : Opening) (later : ℕ → SnapshotView) (kept : CallState) (reach : ReachedTargetView) (at : ℕ)
    (how : AttemptEndView) (rows : List Row) (P : Type 0) (old : List Label) (s : StepResult) (moment : ℕ) →
    kept.phase ≡ moves.Ringing (account_at reach) → kept.endings ≡ [] →
    Comes config first o later P kept.targets (state_after_attempt_step (call_inputs_of config first o later) (account_at reach) at (ringing kept reach)
    (step_after_attempt (targets.caller_facts (call_inputs_of config first o later) kept.done at) (turns.sheet_of reach) how)) rows old s moment →
    Comes config first o later P kept.targets (with_more_endings kept (ending_at at how ∷ [])) rows old s moment
next-step-came law config first o later kept reach at how rows P old s moment e f came =
    subst (λ (k : CallState). Comes config first o later P kept.targets (with_more_endings k (ending_at at how ∷ [])) rows old s moment) (is-ringing kept reach e f)
    (came-after config first o later P kept.targets (with_more_endings (ringing kept reach) (ending_at at how ∷ [])) rows old s moment
    (subst (λ (k : CallState). Comes config first o later P kept.targets k rows old s moment) (sym (law (call_inputs_of config first o later) reach at how (ringing kept reach))) came))

-- ---- after an attempt that failed

due-unanswered : (due : Option DueDiversionView) (cause : Cause) → divert_or_refuse due cause ≡ EndAnswered → ⊥
due-unanswered None cause e = cc
due-unanswered (Some due) cause e = cc

only-answers : (c : FactsView) (sheet : Option Sheet) (how : AttemptEndView) → step_after_attempt c sheet how ≡ EndAnswered → how ≡ Answer
only-answers c sheet Answer e = refl
only-answers c sheet Cancel e = absurd cc
only-answers c sheet Unacknowledged e = absurd cc
only-answers c sheet (UserBusy code) e = absurd (due-unanswered _ _ e)
only-answers c sheet (NotReachable code) e = absurd (due-unanswered _ _ e)
only-answers c sheet NoReply e = absurd (due-unanswered _ _ e)
only-answers c sheet (Deflection target rang) e = absurd (due-unanswered _ _ e)
only-answers c sheet (Other code) e = absurd cc

-- a final response that is relayed has the status of the cause
same-code : (code other : ℕ) → (other == code) ≡ true → other ≡ code
same-code code other e = grind (arith, nat_tests)

handed-status : (cause : Cause) (code : ℕ) → is_status code (relayed_status cause) ≡ true → status_of cause ≡ code
handed-status (causes.Relayed other) code e = same-code code other e
handed-status (causes.Unreachable other) code e = same-code code other e
handed-status cause code e = absurd cc

refused-if : (config : CallConfigView) (first : SnapshotView) (later : ℕ → SnapshotView) (at : ℕ) (caller : Leg) (cause : Cause) (c : Call) (rows : List Row) (P : Type 0) (old : List Label)
    (kept : CallState) (b : Bool) (one two : StepOutput) →
    IsReady config first later caller c kept → one.rows ≡ rows → two.rows ≡ rows →
    (b ≡ true → P → labels_of c.opening.key one.out ≡ old ++ final_label (status_of cause)) → (P → labels_of c.opening.key two.out ≡ old ++ final_label (status_of cause)) →
    Comes config first c.opening later P kept.targets (with_phase kept (moves.Over (Final cause))) rows old (if b then call_end at cause caller.meter None c one else call_end at cause caller.meter None c two) at
refused-if config first later at caller cause c rows P old kept true one two ready e f g h = refused-comes config first later at caller cause c one rows P old kept ready e (g refl)
refused-if config first later at caller cause c rows P old kept false one two ready e f g h = refused-comes config first later at caller cause c two rows P old kept ready f h

refused-by-comes : (config : CallConfigView) (first : SnapshotView) (later : ℕ → SnapshotView) (at : ℕ) (caller : Leg) (service : Option Service) (m : Option MessageView) (cause : Cause) (c : Call)
    (output : StepOutput) (rows : List Row) (P : Type 0) (old : List Label) (kept : CallState) →
    IsReady config first later caller c kept → output.rows ≡ rows → (P → labels_of c.opening.key output.out ≡ old) →
    Comes config first c.opening later P kept.targets (with_phase kept (moves.Over (Final cause))) rows old (relayed_refusal config at caller service m cause c output) at
refused-by-comes config first later at caller service None cause c output rows P old kept ready e shown =
    refused-comes config first later at caller cause c (with_status_to_caller config c (status_of cause) output) rows P old kept ready e
    (λ p. status-labels config c (status_of cause) output ∙ ap (λ l. l ++ final_label (status_of cause)) (shown p))
refused-by-comes config first later at caller service (Some m) cause c output rows P old kept ready e shown =
    refused-if config first later at caller cause c rows P old kept (is_status (status_in m.parsed.start) (relayed_status cause)) (with_relay_to_caller config c service m output)
    (with_status_to_caller config c (status_of cause) output) ready e e
    (λ handed p. relayed-shown config c service m output ∙ ap (λ code. labels_of c.opening.key output.out ++ final_label code) (sym (handed-status cause (status_in m.parsed.start) handed))
    ∙ ap (λ l. l ++ final_label (status_of cause)) (shown p))
    (λ p. status-labels config c (status_of cause) output ∙ ap (λ l. l ++ final_label (status_of cause)) (shown p))

-- by what was decided
after-comes : (law : NextStepsAreMoves) (config : CallConfigView) (now first : SnapshotView) (later : ℕ → SnapshotView) (caller : Leg) (service : Option Service) (reach : ReachedTargetView)
    (m : Option MessageView) (after : StepAfterAttemptView)
    (c : Call) (output : StepOutput) (rows : List Row) (P : Type 0) (old : List Label) (kept : CallState) →
    (after ≡ EndAnswered → ⊥) → IsKnown first c.opening → IsReady config first later caller c kept → IsDiverting config first later c kept service reach → output.rows ≡ rows →
    (P → labels_of c.opening.key output.out ≡ old) →
    SnapshotsFrom config now c.opening later kept (on_end config now caller service m after c output) →
    Comes config first c.opening later P kept.targets (state_after_attempt_step (call_inputs_of config first c.opening later) (account_at reach) now.at kept after) rows old
    (on_end config now caller service m after c output) now.at
after-comes law config now first later caller service reach m EndAnswered c output rows P old kept not_answered known ready diverts same shown stands = absurd (not_answered refl)
after-comes law config now first later caller service reach m (EndDivert due) c output rows P old kept not_answered known ready diverts same shown stands =
    divert-comes law c.diversions.remaining config now first later caller P service reach due c output rows old kept known ready diverts refl same shown stands
after-comes law config now first later caller service reach m (EndRefuse cause) c output rows P old kept not_answered known ready diverts same shown stands =
    refused-by-comes config first later now.at caller service m cause c output rows P old kept ready same shown

-- ---- while it rings

-- what is known at this step of a call that rings, with this opening
pub record AtStep (config : CallConfigView) (now first : SnapshotView) (later : ℕ → SnapshotView) (kept : CallState) (c : Call) (filed : List Row) (x : OfferedAttempt) (reach : ReachedTargetView)
    (s : StepResult) (o : Opening) : Type 0 where
  pub known : IsKnown first o
  pub remaining : c.diversions.remaining + kept.done ≡ total config o
  pub count : c.diversions.count ≡ received_diversions o + kept.done
  pub rings : IsRinging config first o later kept c filed x reach
  pub snapshots : SnapshotsFrom config now o later kept s

abbrev pub counted : CallState → Type 0
counted kept = count_by is_diverted_to kept.targets ≡ kept.done

-- the legs of an attempt that ended without a 2xx, after its meter was added to the past ones
ready-by : (config : CallConfigView) (now first : SnapshotView) (later : ℕ → SnapshotView) (kept : CallState) (c d : Call) (filed : List Row) (x : OfferedAttempt) (reach : ReachedTargetView) (s : StepResult) →
    AtStep config now first later kept c filed x reach s d.opening → counted kept → SameCall c d → IsReady config first later x.caller (with_past x.callee.leg.meter d) (ringing kept reach)
ready-by config now first later kept c d filed x reach s step made same =
    let call = call_inputs_of config first d.opening later in
    let number = d.opening.number in
    let p = step.rings in
    record {
      answered = same.answered ∙ p.answered;
      remaining = ap (λ (v : DiversionsView). v.remaining + kept.done) same.diversions ∙ step.remaining;
      count = ap (λ (v : DiversionsView). v.count) same.diversions ∙ step.count;
      made = made;
      empty = refl;
      origin = p.origin;
      past = ap (λ past. past ++ option_to_list x.callee.leg.meter) (same.past ∙ p.past) ∙ ap (λ last. past_parts call number 0 None kept.targets ++ option_to_list last) p.last;
    }

pub next-step-known :
    (config : CallConfigView) (first : SnapshotView) (o : Opening) (later : ℕ → SnapshotView) (done count at : ℕ) (x : OfferedAttempt) (reach : ReachedTargetView) (how : AttemptEndView) →
    IsKnown first o →
    count ≡ received_diversions o + done → turns.sheet_of reach ≡ service_sheet x.attempt.service →
    step_after_attempt (targets.caller_facts (call_inputs_of config first o later) done at) (turns.sheet_of reach) how ≡ decision_after o at (nat_lt 0 count) x.attempt.service how
next-step-known config first o later done count at x reach how known counted e =
    ap (λ (k : FactsView). step_after_attempt k (turns.sheet_of reach) how) (sym (of_caller-known config first o later done count at known counted))
    ∙ ap (λ sheet. step_after_attempt (decisions.caller_facts o at (nat_lt 0 count)) sheet how) e

-- its attempt failed
went-on : (turn_law : NextStepsAreMoves) (end_law : EndingsAreMoves) (config : CallConfigView) (now first : SnapshotView) (later : ℕ → SnapshotView) (kept : CallState) (c d : Call)
    (filed rows : List Row) (P : Type 0) (old : List Label) (x : OfferedAttempt) (reach : ReachedTargetView) (how : AttemptEndView) (m : Option MessageView) (output : StepOutput) →
    AtStep config now first later kept c filed x reach (after_attempt config now x how m d output) d.opening → counted kept → kept.endings ≡ [] → SameCall c d → (how ≡ Answer → ⊥) →
    output.rows ≡ rows → (P → labels_of d.opening.key output.out ≡ old) →
    Comes config first d.opening later P kept.targets (with_more_endings kept (ending_at now.at how ∷ [])) rows old (after_attempt config now x how m d output) now.at
went-on turn_law end_law config now first later kept c d filed rows P old x reach how m output step made empty same not_answered none shown =
    let o = d.opening in
    let call = call_inputs_of config first o later in
    let s = after_attempt config now x how m d output in
    let p = step.rings in
    let same_turn =
    next-step-known config first o later kept.done d.diversions.count now.at x reach how step.known (ap (λ (v : DiversionsView). v.count) same.diversions ∙ step.count) p.sheet in
    next-step-came end_law config first o later kept reach now.at how rows P old s now.at p.rings empty
    (subst (λ (after : StepAfterAttemptView). Comes config first o later P kept.targets (state_after_attempt_step call (account_at reach) now.at (ringing kept reach) after) rows old s now.at) (sym same_turn)
    (after-comes turn_law config now first later x.caller x.attempt.service reach m (decision_after o now.at (is_diverted d) x.attempt.service how) (with_past x.callee.leg.meter d) output rows P old (ringing kept reach)
    (λ e. not_answered (only-answers (decisions.caller_facts o now.at (is_diverted d)) (service_sheet x.attempt.service) how e)) step.known (ready-by config now first later kept c d filed x reach s step made same)
    (record { sheet = p.sheet; served = p.served; reached = p.reached }) none shown step.snapshots))

-- its caller abandoned it, or did not acknowledge a reliable response
refuses-so : (by_caller : Bool) (c : FactsView) (sheet : Option Sheet) → step_after_attempt c sheet (faring.given_how by_caller) ≡ EndRefuse (faring.given_cause by_caller)
refuses-so true c sheet = refl
refuses-so false c sheet = refl

given-up : (by_caller : Bool) (end_law : EndingsAreMoves) (config : CallConfigView) (now first : SnapshotView) (later : ℕ → SnapshotView) (kept : CallState) (c d : Call) (filed rows : List Row)
    (P : Type 0) (old : List Label) (x y : OfferedAttempt) (reach : ReachedTargetView) (output : StepOutput) →
    let how = faring.given_how by_caller in
    let cause = faring.given_cause by_caller in
    AtStep config now first later kept c filed x reach (offered_call_end now.at cause y d output) d.opening → counted kept → kept.endings ≡ [] → SameCall c d →
    y.caller.meter ≡ x.caller.meter → y.callee.leg.meter ≡ x.callee.leg.meter → output.rows ≡ rows → (P → labels_of d.opening.key output.out ≡ old ++ final_label (status_of cause)) →
    Comes config first d.opening later P kept.targets (with_more_endings kept (ending_at now.at how ∷ [])) rows old (offered_call_end now.at cause y d output) now.at
unfolding moves.moves
given-up by_caller end_law config now first later kept c d filed rows P old x y reach output step made empty same caller callee none shown =
    let o = d.opening in
    let p = step.rings in
    let how = faring.given_how by_caller in
    let cause = faring.given_cause by_caller in
    let call = call_inputs_of config first o later in
    let s = offered_call_end now.at cause y d output in
    let end : Ending = record { answered = d.answered; at = now.at; holds = d.hold.holds; cause = cause_by d.answered cause } in
    next-step-came end_law config first o later kept reach now.at how rows P old s now.at p.rings empty
    (subst (λ (after : StepAfterAttemptView). Comes config first o later P kept.targets (state_after_attempt_step call (account_at reach) now.at (ringing kept reach) after) rows old s now.at)
    (sym (refuses-so by_caller (targets.caller_facts call kept.done now.at) (turns.sheet_of reach))) (
      0,
      charging_records end d.past y.caller.meter y.callee.leg.meter,
      ap (λ l. l ++ charging_records end d.past y.caller.meter y.callee.leg.meter) none,
      record {
        opening = refl;
        remaining = ap (λ (v : DiversionsView). v.remaining + kept.done) same.diversions ∙ step.remaining;
        count = ap (λ (v : DiversionsView). v.count) same.diversions ∙ step.count;
        made = made;
        empty = refl;
        place = Ends (cause_by d.answered cause) (record {
          phase = refl;
          over = ap moves.Over (sym (unanswered d.answered cause (same.answered ∙ p.answered)));
          why = by-answer d.answered cause;
          past = refl;
          rows =
              ap (λ past. charging_records end past y.caller.meter y.callee.leg.meter) (same.past ∙ p.past)
              ∙ ap (λ first_meter. charging_records end (past_parts call o.number 0 None kept.targets) first_meter y.callee.leg.meter) (caller ∙ p.origin)
              ∙ ap (λ last. charging_records end (past_parts call o.number 0 None kept.targets) (origin_part call o.number) last) (callee ∙ p.last);
        });
      },
      ([], sym (append-nil kept.targets), shown),
    ))

-- it continues to ring
still-came : (config : CallConfigView) (now first : SnapshotView) (later : ℕ → SnapshotView) (kept : CallState) (c : Call) (filed : List Row) (before : StepOutput) (P : Type 0) (x y : OfferedAttempt)
    (reach : ReachedTargetView) (s : StepResult) (o : Opening) →
    AtStep config now first later kept c filed x reach s o → counted kept → kept.endings ≡ [] → c.opening ≡ o → faring.StillRings P x c before s y →
    Comes config first o later P kept.targets (with_more_endings kept []) before.rows (labels_of o.key before.out) s now.at
unfolding moves.moves
still-came config now first later kept c filed before P x y reach s o step made empty opening r =
    let p = step.rings in (
      0,
      [],
      r.none ∙ sym (append-nil before.rows),
      record {
        opening = r.same.opening ∙ opening;
        remaining = ap (λ (v : DiversionsView). v.remaining + kept.done) r.same.diversions ∙ step.remaining;
        count = ap (λ (v : DiversionsView). v.count) r.same.diversions ∙ step.count;
        made = made;
        empty = append-nil kept.endings ∙ empty;
        place = Rings y reach (record {
          phase = r.phase;
          rings = p.rings;
          sheet = p.sheet ∙ ap service_sheet (sym r.service);
          record_of = ap service_sheet r.service ∙ p.record_of;
          answered = r.same.answered ∙ p.answered;
          origin = r.caller ∙ p.origin;
          past = r.same.past ∙ p.past;
          last = r.callee ∙ p.last;
          served = p.served ∙ ap (option_map account_in) (sym r.service);
          reached = p.reached;
          none = refl;
        });
      },
      (
        [],
        sym (append-nil kept.targets),
        λ q.
            subst (λ (o : Opening). labels_of o.key s.output.out ≡ labels_of o.key before.out) opening (r.shown q) ∙ sym (append-nil (labels_of o.key before.out))
            ∙ ap (λ phase. labels_of o.key before.out ++ label_of_result (moves.result_in phase)) (sym p.rings),
      ),
    )

-- it was answered
answered-came : (end_law : EndingsAreMoves) (config : CallConfigView) (now first : SnapshotView) (later : ℕ → SnapshotView) (kept : CallState) (c : Call) (filed : List Row) (before : StepOutput)
    (P : Type 0) (x : OfferedAttempt) (reach : ReachedTargetView) (y : EstablishedLegs) (stage : Stage) (s : StepResult) (o : Opening) →
    AtStep config now first later kept c filed x reach s o → counted kept → kept.endings ≡ [] → c.opening ≡ o → faring.WasAnswered P now.at x c before s y stage →
    Comes config first o later P kept.targets (with_more_endings kept (ending_at now.at Answer ∷ [])) before.rows (labels_of o.key before.out) s now.at
unfolding moves.moves
answered-came end_law config now first later kept c filed before P x reach y stage s o step made empty opening r =
    let p = step.rings in
    next-step-came end_law config first o later kept reach now.at Answer before.rows P (labels_of o.key before.out) s now.at p.rings empty (
      0,
      [],
      r.none ∙ sym (append-nil before.rows),
      record {
        opening = r.opening ∙ opening;
        remaining = ap (λ (v : DiversionsView). v.remaining + kept.done) r.diversions ∙ step.remaining;
        count = ap (λ (v : DiversionsView). v.count) r.diversions ∙ step.count;
        made = made;
        empty = refl;
        place = Talks y stage now.at (record {
          phase = r.phase;
          over = refl;
          answered = r.answered;
          origin = r.caller ∙ p.origin;
          past = r.past ∙ p.past;
          last = r.callee ∙ p.last;
          none = refl;
        });
      },
      ([], sym (append-nil kept.targets), λ q. subst (λ (o : Opening). labels_of o.key s.output.out ≡ labels_of o.key before.out ++ Accepted ∷ []) opening (r.shown q)),
    )

-- whatever it does
pub ringing-came : (turn_law : NextStepsAreMoves) (end_law : EndingsAreMoves) (config : CallConfigView) (now first : SnapshotView) (later : ℕ → SnapshotView) (kept : CallState) (c : Call)
    (filed : List Row) (before : StepOutput) (P : Type 0) (x : OfferedAttempt) (reach : ReachedTargetView) (end : Option AttemptEndView) (s : StepResult) (o : Opening) →
    AtStep config now first later kept c filed x reach s o → counted kept → kept.endings ≡ [] → c.opening ≡ o → faring.AttemptStep P config now x c before end s →
    Comes config first o later P kept.targets (with_more_endings kept (ends_by now.at end)) before.rows (labels_of o.key before.out) s now.at
ringing-came turn_law end_law config now first later kept c filed before P x reach end s o step made empty opening (faring.Rings e y r) =
    subst (λ (end : Option AttemptEndView). Comes config first o later P kept.targets (with_more_endings kept (ends_by now.at end)) before.rows (labels_of o.key before.out) s now.at) (sym e)
    (still-came config now first later kept c filed before P x y reach s o step made empty opening r)
ringing-came turn_law end_law config now first later kept c filed before P x reach end s o step made empty opening (faring.Answers e y stage r) =
    subst (λ (end : Option AttemptEndView). Comes config first o later P kept.targets (with_more_endings kept (ends_by now.at end)) before.rows (labels_of o.key before.out) s now.at) (sym e)
    (answered-came end_law config now first later kept c filed before P x reach y stage s o step made empty opening r)
ringing-came turn_law end_law config now first later kept c filed before P x reach end s o step made empty opening (faring.GivesUp by_caller e y d output r) =
    let same_opening : d.opening ≡ o = r.same.opening ∙ opening in
    let how = faring.given_how by_caller in
    let cause = faring.given_cause by_caller in
    let given = offered_call_end now.at cause y d output in
    let here : AtStep config now first later kept c filed x reach given o = subst (λ (s : StepResult). AtStep config now first later kept c filed x reach s o) r.is step in
    subst (λ (end : Option AttemptEndView). Comes config first o later P kept.targets (with_more_endings kept (ends_by now.at end)) before.rows (labels_of o.key before.out) s now.at) (sym e)
    (subst (λ (s : StepResult). Comes config first o later P kept.targets (with_more_endings kept (ending_at now.at how ∷ [])) before.rows (labels_of o.key before.out) s now.at) (sym r.is)
    (subst (λ (o : Opening). Comes config first o later P kept.targets (with_more_endings kept (ending_at now.at how ∷ [])) before.rows (labels_of o.key before.out) given now.at) same_opening
    (given-up by_caller end_law config now first later kept c d filed before.rows P (labels_of d.opening.key before.out) x y reach output
    (subst (AtStep config now first later kept c filed x reach given) (sym same_opening) here) made empty r.same r.caller r.callee r.none
    (λ q. subst (λ (o : Opening). labels_of o.key output.out ≡ labels_of o.key before.out ++ final_label (status_of cause)) (sym r.same.opening) (r.shown q)))))
ringing-came turn_law end_law config now first later kept c filed before P x reach end s o step made empty opening (faring.GoesOn how e m d output r) =
    let same_opening : d.opening ≡ o = r.same.opening ∙ opening in
    let gone = after_attempt config now x how m d output in
    let here : AtStep config now first later kept c filed x reach gone o = subst (λ (s : StepResult). AtStep config now first later kept c filed x reach s o) r.is step in
    subst (λ (end : Option AttemptEndView). Comes config first o later P kept.targets (with_more_endings kept (ends_by now.at end)) before.rows (labels_of o.key before.out) s now.at) (sym e)
    (subst (λ (s : StepResult). Comes config first o later P kept.targets (with_more_endings kept (ending_at now.at how ∷ [])) before.rows (labels_of o.key before.out) s now.at) (sym r.is)
    (subst (λ (o : Opening). Comes config first o later P kept.targets (with_more_endings kept (ending_at now.at how ∷ [])) before.rows (labels_of o.key before.out) gone now.at) same_opening
    (went-on turn_law end_law config now first later kept c d filed before.rows P (labels_of d.opening.key before.out) x reach how m output
    (subst (AtStep config now first later kept c filed x reach gone) (sym same_opening) here) made empty r.same r.unanswered r.none
    (λ q. subst (λ (o : Opening). labels_of o.key output.out ≡ labels_of o.key before.out) (sym r.same.opening) (r.shown q)))))

-- ---- once it was answered

answered-cause : (answered : Option ℕ) (moment : ℕ) → answered ≡ Some moment → result_if_answered answered (Final (cause_by answered causes.Ended)) ≡ precedence.Answered
answered-cause None moment e = absurd cc
answered-cause (Some at) moment e = refl

stable-came-at : (config : CallConfigView) (first : SnapshotView) (later : ℕ → SnapshotView) (at : ℕ) (kept : CallState) (c d : Call) (filed rows : List Row) (x y : EstablishedLegs) (stage : Stage)
    (moment : ℕ) (output : StepOutput) →
    IsEstablished config first d.opening later kept c filed x stage moment → c.diversions.remaining + kept.done ≡ total config d.opening →
    c.diversions.count ≡ received_diversions d.opening + kept.done → counted kept → kept.endings ≡ [] → SameCall c d →
    y.caller.meter ≡ x.caller.meter → y.callee.meter ≡ x.callee.meter → output.rows ≡ rows →
    Came config first d.opening later kept rows (established_call_end at y d output) at
unfolding moves.moves
stable-came-at config first later at kept c d filed rows x y stage moment output p left count made empty same caller callee none =
    let o = d.opening in
    let end : Ending = record { answered = d.answered; at = at; holds = d.hold.holds; cause = cause_by d.answered causes.Ended } in (
      0,
      charging_records end d.past y.caller.meter y.callee.meter,
      ap (λ l. l ++ charging_records end d.past y.caller.meter y.callee.meter) none,
      record {
        opening = refl;
        remaining = ap (λ (v : DiversionsView). v.remaining + kept.done) same.diversions ∙ left;
        count = ap (λ (v : DiversionsView). v.count) same.diversions ∙ count;
        made = made;
        empty = empty;
        place = Ends (cause_by d.answered causes.Ended) (record {
          phase = refl;
          over = p.over ∙ ap moves.Over (sym (answered-cause d.answered moment (same.answered ∙ p.answered)));
          why = by-answer d.answered causes.Ended;
          past = refl;
          rows =
              ap (λ past. charging_records end past y.caller.meter y.callee.meter) (same.past ∙ p.past)
              ∙ ap (λ first_meter. charging_records end (past_parts (call_inputs_of config first o later) o.number 0 None kept.targets) first_meter y.callee.meter) (caller ∙ p.origin)
              ∙ ap (λ last. charging_records end (past_parts (call_inputs_of config first o later) o.number 0 None kept.targets) (origin_part (call_inputs_of config first o later) o.number) last) (callee ∙ p.last);
        });
      },
    )

-- it remains established or both sides leave
pub stable-came : (config : CallConfigView) (first : SnapshotView) (o : Opening) (later : ℕ → SnapshotView) (at : ℕ) (kept : CallState) (c : Call) (filed rows : List Row) (x : EstablishedLegs)
    (stage : Stage) (moment : ℕ) (s : StepResult) →
    IsEstablished config first o later kept c filed x stage moment → c.diversions.remaining + kept.done ≡ total config o → c.diversions.count ≡ received_diversions o + kept.done → counted kept →
    kept.endings ≡ [] → c.opening ≡ o →
    answering.ContinuesOrEnds at x c rows s → Came config first o later kept rows s at
unfolding moves.moves
stable-came config first o later at kept c filed rows x stage moment s p left count made empty opening (answering.Continues y next r) = (
  0,
  [],
  r.none ∙ sym (append-nil rows),
  record {
    opening = r.same.opening ∙ opening;
    remaining = ap (λ (v : DiversionsView). v.remaining + kept.done) r.same.diversions ∙ left;
    count = ap (λ (v : DiversionsView). v.count) r.same.diversions ∙ count;
    made = made;
    empty = empty;
    place = Talks y next moment (record {
      phase = r.phase;
      over = p.over;
      answered = r.same.answered ∙ p.answered;
      origin = r.caller ∙ p.origin;
      past = r.same.past ∙ p.past;
      last = r.callee ∙ p.last;
      none = refl;
    });
  },
)
stable-came config first o later at kept c filed rows x stage moment s p left count made empty opening (answering.Ends y d output r) =
    let same_opening : d.opening ≡ o = r.same.opening ∙ opening in
    let gone = established_call_end at y d output in
    subst (λ (s : StepResult). Came config first o later kept rows s at) (sym r.is)
    (subst (λ (o : Opening). Came config first o later kept rows gone at) same_opening
    (stable-came-at config first later at kept c d filed rows x y stage moment output
    (subst (λ (o : Opening). IsEstablished config first o later kept c filed x stage moment) (sym same_opening) p)
    (subst (λ (o : Opening). c.diversions.remaining + kept.done ≡ total config o) (sym same_opening) left)
    (subst (λ (o : Opening). c.diversions.count ≡ received_diversions o + kept.done) (sym same_opening) count) made empty r.same r.caller r.callee r.none))

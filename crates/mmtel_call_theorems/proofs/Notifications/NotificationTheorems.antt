-- Every trace: the caller is notified of the diversions that were made according to Outcome over its endings.
use Rattle.std.proofs.Common.{◌≡◌, ℕ, suc, ◌+◌, ◌-◌, ◌≤◌, ◌<◌, Bool, true, false, List, [], ◌∷◌, ◌++◌, refl, ap, sym, subst, ◌∙◌, append_assoc, arith}
use Rattle.std.proofs.lemmas.Bool.Decides.{nat_tests}
use Rattle.std.proofs.lemmas.List.{append-nil}
use Rattle.std.specs.Prelude.{Option, Some, None, if◌then◌else◌}
use Rattle.mmtel_compose.specs.ReceivedMessages.{MessageView, status_of as status_in}
use Rattle.mmtel_charging.specs.declared.rows.Row.{Row}
use Rattle.mmtel_output.specs.Outputs.{after_draw}
use Rattle.mmtel_output.specs.declared.outputs.StepOutput.{StepOutput}
use Rattle.mmtel_history.specs.declared.entries.Entry.{Entry}
use Rattle.mmtel_leg.specs.Legs.{Leg}
use Rattle.mmtel_message.specs.Message.{Message}
use Rattle.mmtel_message.specs.declared.messages.Start.{Start as StartLine}
use Rattle.mmtel_precedence.specs.Calls as precedence
use Rattle.mmtel_precedence.specs.Calls.{Answer, AttemptEndView, CallResult, Cancel, Deflection, EndedAttempt, Final, NoReply, NotReachable, Other, ReachedTargetView, SnapshotView, Unacknowledged, UserBusy}
use Rattle.mmtel_precedence.specs.Extension.{LaterEndingsExtend, with_more_endings}
use Rattle.mmtel_precedence.specs.Moves as moves
use Rattle.mmtel_precedence.specs.Moves.{CallState, MovesGiveTheOutcome, account_at, enough_moves, initial_phase, initial_state, move_in, outcome_so_far, with_phase}
use Rattle.mmtel_precedence.specs.Outcome.{outcome}
use Rattle.mmtel_precedence.specs.Targets as targets
use Rattle.mmtel_precedence.specs.NextSteps as turns
use Rattle.mmtel_precedence.specs.NextSteps.{EndAnswered, EndDivert, EndRefuse, EndingsAreMoves, NextStepsAreMoves, StepAfterAttemptView, state_after_attempt_step, step_after_attempt}
use Rattle.mmtel_types.specs.Causes.{status_of}
use Rattle.mmtel_types.specs.declared.causes.Cause.{Cause}
use Rattle.mmtel_types.specs.declared.causes.Cause.TheVariants as causes
use Rattle.mmtel_call_services.specs.Decisions as decisions
use Rattle.mmtel_call_services.specs.Decisions.{decision_after, is_status, relayed_status, service_sheet}
use Rattle.mmtel_call_services.specs.Diversions.{DiversionsView}
use Rattle.mmtel_call_services.specs.Opening.{initial_target, opening_refusal, received_history}
use Rattle.mmtel_call_services.specs.CallConfig.{CallConfigView}
use Rattle.mmtel_call_services.specs.declared.openings.Opening.{Opening}
use Rattle.mmtel_call_services.specs.declared.openings.Service.{Service}
use Rattle.mmtel_call.specs.Closing.{StepResult, call_end, with_past}
use Rattle.mmtel_call.specs.Diverting.{after_attempt, is_diverted, on_end, relayed_refusal}
use Rattle.mmtel_call.specs.Opening.{call_after_opening, caller_of, new_call, unless_refused}
use Rattle.mmtel_call.specs.Sending.{with_relay_to_caller, with_status_to_caller}
use Rattle.mmtel_call.specs.declared.calls.Call.{Call}
use Rattle.mmtel_call.specs.declared.calls.EstablishedLegs.{EstablishedLegs}
use Rattle.mmtel_call.specs.declared.calls.Phase.TheVariants.{Established, Offered, Over}
use Rattle.mmtel_call.specs.declared.calls.OfferedAttempt.{OfferedAttempt}
use Rattle.mmtel_call_theorems.specs.Endings.{end_in, ending_at, ending_by, endings_after}
use Rattle.mmtel_call_theorems.specs.Outcomes.{call_inputs_of, received_diversions, result_if_answered, snapshot_at_diversion}
use Rattle.mmtel_call_theorems.specs.CallTrace.{TraceStart, TraceStep, call_after, charging_records_after, first_step, items_added, next_step, opening_in, over_at}
use Rattle.mmtel_call_theorems.proofs.OutcomeAgreement.{Agrees, Ends, IsRinging, Place, Rings, Talks, total}
use Rattle.mmtel_call_theorems.proofs.Continuation as answering
use Rattle.mmtel_call_theorems.proofs.Targets.{SnapshotsFrom}
use Rattle.mmtel_call_theorems.proofs.OutcomeTheorems as concluding
use Rattle.mmtel_call_theorems.proofs.CallInputs.{IsKnown, first-known}
use Rattle.mmtel_call_theorems.proofs.OutcomesOfTraces.{Fits, added-is, call_in, empty_kept, fits-earlier, fits-now, in-phase, is-known, moves-more, plus-zero, refusal-known, state_agrees}
use Rattle.mmtel_call_theorems.proofs.OutcomesOfSteps.{ends_by, is-ringing, next-step-known, ringing}
use Rattle.mmtel_call_theorems.proofs.UnchangedCalls.{Untouched}
use Rattle.mmtel_call_theorems.specs.Notifications.Theorems.{KeepsItsHistory, NotifiesItsDiversions}
use Rattle.mmtel_call_theorems.specs.Notifications.DueNotifications.{history_after_targets, history_at, is_relayed_notification, notification_due, notifications_after}
use Rattle.mmtel_call_theorems.specs.Notifications.DueNotifications.{notifications_due, notifications_in, own_notifications, without_relayed_notification}
use Rattle.mmtel_call_theorems.proofs.Notifications.AddedNotifications.{Adds, IsUnnotified, adds-then, none-passed, unnotified, unnotified-reply}
use Rattle.mmtel_call_theorems.proofs.Notifications.Diversions.{ComesToNotify, Finished, IsAtRest, IsCounted, Waits, divert-notifies, notified-after, over-notifies, refused-notifies, status-unnotified, target-notifies}
use Rattle.mmtel_call_theorems.proofs.Notifications.ReceivedSignals.{EndsAlone, Goes, Receives, Stays, receives}
use Rattle.mmtel_call_theorems.proofs.Notifications.OwnNotifications.{IsAfter, IsNoNotification, IsRefusal, its-after, its-refusal}
use Rattle.mmtel_call_theorems.proofs.Notifications.Established.{ended-unnotified, established-unnotified}

-- ---- a call that rests

still : (n : ℕ) (call : precedence.CallInputs) (kept : CallState) → IsAtRest kept → moves.moves n call kept ≡ kept
still n call kept (Waits account e f) =
    let g = concluding.at-phase kept (moves.Ringing account) e f in ap (moves.moves n call) g ∙ concluding.ringing-still n call kept account ∙ sym g
still n call kept (Finished result e f) =
    let g = concluding.at-phase kept (moves.Over result) e f in ap (moves.moves n call) g ∙ concluding.over-still n call kept result ∙ sym g

rest-at : (config : CallConfigView) (first : SnapshotView) (o : Opening) (later : ℕ → SnapshotView) (kept : CallState) (c : Call) (filed : List Row) (at : ℕ) → kept.endings ≡ [] →
    Place config first o later kept c filed at → IsAtRest kept
rest-at config first o later kept c filed at empty (Rings x reach p) = Waits (account_at reach) p.rings empty
rest-at config first o later kept c filed at empty (Talks x stage moment p) = Finished precedence.Answered p.over empty
rest-at config first o later kept c filed at empty (Ends cause p) = Finished (result_if_answered c.answered (Final cause)) p.over empty

-- where it rests its targets are those of Outcome
targets-of : (law : MovesGiveTheOutcome) (call : precedence.CallInputs) (endings : List EndedAttempt) (n : ℕ) → IsAtRest (moves.moves n call (initial_state call endings)) →
    (moves.moves n call (initial_state call endings)).targets ≡ (outcome call endings).targets
targets-of law call endings n rests =
    let enough = enough_moves call in
    let kept = moves.moves n call (initial_state call endings) in
    let same : moves.moves (n + enough) call (initial_state call endings) ≡ kept = sym (moves-more n enough call (initial_state call endings)) ∙ still enough call kept rests in
    ap (λ (o : precedence.Outcome). o.targets) (ap outcome_so_far (sym same) ∙ law call endings (n + enough) (omega arith))

-- ---- more targets

due-more : (config : CallConfigView) (o : Opening) (history : List Entry) (xs ys : List precedence.OutcomeTarget) →
    notifications_due config o history (xs ++ ys) ≡ notifications_due config o history xs ++ notifications_due config o (history_after_targets o history xs) ys
due-more config o history [] ys = refl
due-more config o history (x ∷ xs) ys =
    let next = history_at o history x.diversion x.uri in
    ap (λ l. notification_due config o next x.diversion ++ l) (due-more config o next xs ys)
    ∙ sym (append_assoc (notification_due config o next x.diversion) (notifications_due config o next xs) (notifications_due config o (history_after_targets o next xs) ys))

history-more : (o : Opening) (history : List Entry) (xs ys : List precedence.OutcomeTarget) → history_after_targets o history (xs ++ ys) ≡ history_after_targets o (history_after_targets o history xs) ys
history-more o history [] ys = refl
history-more o history (x ∷ xs) ys = history-more o (history_at o history x.diversion x.uri) xs ys

-- ---- after an attempt

-- the move at its end is what is done after it
end-move : (law : EndingsAreMoves) (call : precedence.CallInputs) (kept : CallState) (reach : ReachedTargetView) (at : ℕ) (how : AttemptEndView) (F : CallState → Type 0) →
    ((k : CallState) → F (move_in k.phase call k) → F k) →
    kept.phase ≡ moves.Ringing (account_at reach) → kept.endings ≡ [] →
    F (state_after_attempt_step call (account_at reach) at (ringing kept reach) (step_after_attempt (targets.caller_facts call kept.done at) (turns.sheet_of reach) how)) →
    F (with_more_endings kept (ending_at at how ∷ []))
end-move law call kept reach at how F back e f came =
    subst (λ (k : CallState). F (with_more_endings k (ending_at at how ∷ []))) (is-ringing kept reach e f)
    (back (with_more_endings (ringing kept reach) (ending_at at how ∷ [])) (subst F (sym (law call reach at how (ringing kept reach))) came))

handed-notification : (cause : Cause) (code : ℕ) → is_status code (relayed_status cause) ≡ true → IsNoNotification (status_of cause) → IsNoNotification code
handed-notification (causes.Relayed other) code e f = grind (arith, nat_tests)
handed-notification (causes.Unreachable other) code e f = grind (arith, nat_tests)
handed-notification cause code e f = absurd cc

refused-if : (config : CallConfigView) (call : precedence.CallInputs) (at : ℕ) (caller : Leg) (cause : Cause) (c : Call) (output one two : StepOutput) (kept : CallState) (result : CallResult) (b : Bool) →
    kept.endings ≡ [] →
    (b ≡ true → IsUnnotified c.opening.key output one) → IsUnnotified c.opening.key output two →
    ComesToNotify config call c.opening kept.targets c.diversions.history output (if b then call_end at cause caller.meter None c one else call_end at cause caller.meter None c two) (with_phase kept (moves.Over result))
refused-if config call at caller cause c output one two kept result true empty f g = over-notifies config call at caller cause c output one kept result empty (f refl)
refused-if config call at caller cause c output one two kept result false empty f g = over-notifies config call at caller cause c output two kept result empty g

refused-by-notifies : (config : CallConfigView) (call : precedence.CallInputs) (at : ℕ) (caller : Leg) (service : Option Service) (m : Option MessageView) (cause : Cause) (c : Call)
    (output : StepOutput) (kept : CallState) (result : CallResult) → kept.endings ≡ [] → IsNoNotification (status_of cause) →
    ComesToNotify config call c.opening kept.targets c.diversions.history output (relayed_refusal config at caller service m cause c output) (with_phase kept (moves.Over result))
refused-by-notifies config call at caller service None cause c output kept result empty own = refused-notifies config call at caller cause c output kept result empty own
refused-by-notifies config call at caller service (Some m) cause c output kept result empty own =
    refused-if config call at caller cause c output (with_relay_to_caller config c service m output) (with_status_to_caller config c (status_of cause) output) kept result
    (is_status (status_in m.parsed.start) (relayed_status cause)) empty
    (λ handed. unnotified-reply c.opening.key c.opening.key _ _ _ output (handed-notification cause (status_in m.parsed.start) handed own)) (status-unnotified config c (status_of cause) output own)

-- by what was decided
after-notifies : (law : NextStepsAreMoves) (config : CallConfigView) (now first : SnapshotView) (later : ℕ → SnapshotView) (caller : Leg) (service : Option Service) (reach : ReachedTargetView)
    (m : Option MessageView) (after : StepAfterAttemptView) (c : Call) (output : StepOutput) (kept : CallState) →
    IsAfter after → IsKnown first c.opening → turns.sheet_of reach ≡ service_sheet service → IsCounted config c.opening kept.done c.diversions → kept.endings ≡ [] →
    SnapshotsFrom config now c.opening later kept (on_end config now caller service m after c output) →
    ComesToNotify config (call_inputs_of config first c.opening later) c.opening kept.targets c.diversions.history output (on_end config now caller service m after c output)
    (state_after_attempt_step (call_inputs_of config first c.opening later) (account_at reach) now.at kept after)
after-notifies law config now first later caller service reach m EndAnswered c output kept own known sheet counted empty stands =
    over-notifies config (call_inputs_of config first c.opening later) now.at caller causes.Ended c output output kept precedence.Answered empty (unnotified c.opening.key output)
after-notifies law config now first later caller service reach m (EndDivert due) c output kept own known sheet counted empty stands =
    divert-notifies law c.diversions.remaining config now first later caller service reach due c output kept known sheet counted empty refl stands
after-notifies law config now first later caller service reach m (EndRefuse cause) c output kept own known sheet counted empty stands =
    refused-by-notifies config (call_inputs_of config first c.opening later) now.at caller service m cause c output kept (Final cause) empty own

-- its attempt failed
went-on : (turn_law : NextStepsAreMoves) (end_law : EndingsAreMoves) (config : CallConfigView) (now first : SnapshotView) (later : ℕ → SnapshotView) (kept : CallState) (d : Call) (x : OfferedAttempt)
    (reach : ReachedTargetView) (how : AttemptEndView) (m : Option MessageView) (output : StepOutput) →
    Rattle.mmtel_call_theorems.proofs.Notifications.OwnNotifications.IsFinal how → IsKnown first d.opening → turns.sheet_of reach ≡ service_sheet x.attempt.service → IsCounted config d.opening kept.done d.diversions →
    kept.phase ≡ moves.Ringing (account_at reach) → kept.endings ≡ [] → SnapshotsFrom config now d.opening later kept (after_attempt config now x how m d output) →
    ComesToNotify config (call_inputs_of config first d.opening later) d.opening kept.targets d.diversions.history output (after_attempt config now x how m d output) (with_more_endings kept (ending_at now.at how ∷ []))
went-on turn_law end_law config now first later kept d x reach how m output final known sheet counted rings empty stands =
    let o = d.opening in
    let call = call_inputs_of config first o later in
    let s = after_attempt config now x how m d output in
    end-move end_law call kept reach now.at how (ComesToNotify config call o kept.targets d.diversions.history output s) (notified-after config call o kept.targets d.diversions.history output s) rings empty
    (subst (λ (after : StepAfterAttemptView). ComesToNotify config call o kept.targets d.diversions.history output s (state_after_attempt_step call (account_at reach) now.at (ringing kept reach) after))
    (sym (next-step-known config first o later kept.done d.diversions.count now.at x reach how known counted.count sheet))
    (after-notifies turn_law config now first later x.caller x.attempt.service reach m (decision_after o now.at (is_diverted d) x.attempt.service how) (with_past x.callee.leg.meter d) output (ringing kept reach)
    (its-after (decisions.caller_facts o now.at (is_diverted d)) (service_sheet x.attempt.service) how final) known sheet counted refl stands))

-- ---- a step of a call that rings

-- the notifications in a step, except for what is relayed, are those due for the targets that it reached
pub record StepNotifies (passed : Bool) (config : CallConfigView) (call : precedence.CallInputs) (o : Opening) (before : List precedence.OutcomeTarget) (history : List Entry) (output : StepOutput)
    (s : StepResult) (kept : CallState) (n : ℕ) : Type 0 where
  pub new : List precedence.OutcomeTarget
  pub rests : IsAtRest (moves.moves n call kept)
  pub reached : (moves.moves n call kept).targets ≡ before ++ new
  pub notified : without_relayed_notification passed (notifications_in o.key (items_added output.out s.output.out)) ≡ notifications_due config o history new
  pub entries : s.call.diversions.history ≡ history_after_targets o history new

abbrev InStep : Bool → CallConfigView → precedence.CallInputs → Opening → List precedence.OutcomeTarget → List Entry → StepOutput → StepResult → CallState → Type 0
InStep passed config call o before history output s kept = (n : ℕ) × StepNotifies passed config call o before history output s kept n

seen-added : {notices : List (Message StartLine)} (o : Opening) (before after : StepOutput) → Adds o.key before after notices → notifications_in o.key (items_added before.out after.out) ≡ notices
seen-added o before after a = ap (notifications_in o.key) (added-is before.out a.new after.out a.out) ∙ a.seen

-- what has nothing before it
step-notified : (passed : Bool) (config : CallConfigView) (call : precedence.CallInputs) (o : Opening) (before : List precedence.OutcomeTarget) (history : List Entry) (output between : StepOutput)
    (s : StepResult) (kept : CallState) → passed ≡ false → IsUnnotified o.key output between →
    ComesToNotify config call o before history between s kept → InStep passed config call o before history output s kept
step-notified passed config call o before history output between s kept own none (n, t) = (
  n,
  record {
    new = t.new;
    rests = t.rests;
    reached = t.reached;
    notified =
        ap (λ b. without_relayed_notification b (notifications_in o.key (items_added output.out s.output.out))) own
        ∙ seen-added o output s.output (adds-then o.key output between s.output [] (notifications_due config o history t.new) none t.adds);
    entries = t.entries;
  },
)

-- where the attempt continues, was answered or was abandoned, the call reaches no other target
abbrev RestsAt : precedence.CallInputs → List precedence.OutcomeTarget → CallState → Type 0
RestsAt call before kept = (n : ℕ) × IsAtRest (moves.moves n call kept) × ((moves.moves n call kept).targets ≡ before)

rests-after : (call : precedence.CallInputs) (before : List precedence.OutcomeTarget) (kept : CallState) → RestsAt call before (move_in kept.phase call kept) → RestsAt call before kept
unfolding moves.moves
rests-after call before kept (n, rests, same) = (suc n, rests, same)

rests-alone : (law : EndingsAreMoves) (call : precedence.CallInputs) (kept : CallState) (reach : ReachedTargetView) (at : ℕ) (end : Option AttemptEndView) → EndsAlone end →
    kept.phase ≡ moves.Ringing (account_at reach) → kept.endings ≡ [] →
    RestsAt call kept.targets (with_more_endings kept (ends_by at end))
unfolding moves.moves
rests-alone law call kept reach at None e rings empty = (0, Waits (account_at reach) rings (append-nil kept.endings ∙ empty), refl)
rests-alone law call kept reach at (Some Answer) e rings empty =
    end-move law call kept reach at Answer (RestsAt call kept.targets) (rests-after call kept.targets) rings empty (0, Finished precedence.Answered refl refl, refl)
rests-alone law call kept reach at (Some Cancel) e rings empty =
    end-move law call kept reach at Cancel (RestsAt call kept.targets) (rests-after call kept.targets) rings empty (0, Finished (Final causes.Cancelled) refl refl, refl)
rests-alone law call kept reach at (Some Unacknowledged) e rings empty =
    end-move law call kept reach at Unacknowledged (RestsAt call kept.targets) (rests-after call kept.targets) rings empty (0, Finished (Final causes.Unacknowledged) refl refl, refl)
rests-alone law call kept reach at (Some (UserBusy code)) e rings empty = absurd e
rests-alone law call kept reach at (Some (NotReachable code)) e rings empty = absurd e
rests-alone law call kept reach at (Some NoReply) e rings empty = absurd e
rests-alone law call kept reach at (Some (Deflection target rang)) e rings empty = absurd e
rests-alone law call kept reach at (Some (Other code)) e rings empty = absurd e

-- what is known at this step of a call that rings, with this opening
pub record AtStep (config : CallConfigView) (now first : SnapshotView) (later : ℕ → SnapshotView) (kept : CallState) (c : Call) (x : OfferedAttempt) (reach : ReachedTargetView) (s : StepResult)
    (o : Opening) : Type 0 where
  pub known : IsKnown first o
  pub counted : IsCounted config o kept.done c.diversions
  pub rings : kept.phase ≡ moves.Ringing (account_at reach)
  pub empty : kept.endings ≡ []
  pub sheet : turns.sheet_of reach ≡ service_sheet x.attempt.service
  pub snapshots : SnapshotsFrom config now o later kept s

ringing-notifies : (turn_law : NextStepsAreMoves) (end_law : EndingsAreMoves) (passed : Bool) (config : CallConfigView) (now first : SnapshotView) (later : ℕ → SnapshotView) (kept : CallState)
    (c : Call) (output : StepOutput) (x : OfferedAttempt) (reach : ReachedTargetView) (end : Option AttemptEndView) (s : StepResult) (o : Opening) →
    AtStep config now first later kept c x reach s o → c.opening ≡ o → Receives passed config now x c output end s →
    InStep passed config (call_inputs_of config first o later) o kept.targets c.diversions.history output s (with_more_endings kept (ends_by now.at end))
ringing-notifies turn_law end_law passed config now first later kept c output x reach end s o step opening (Stays a) =
    let (n, rests, same) = rests-alone end_law (call_inputs_of config first o later) kept reach now.at end a.ends step.rings step.empty in (
      n,
      record {
        new = [];
        rests = rests;
        reached = same ∙ sym (append-nil kept.targets);
        notified = ap (without_relayed_notification passed) (seen-added o output s.output (subst (λ (q : Opening). Adds q.key output s.output a.none.notices) opening a.none.adds)) ∙ a.none.none;
        entries = ap (λ (v : DiversionsView). v.history) a.diversions;
      },
    )
ringing-notifies turn_law end_law passed config now first later kept c output x reach end s o step opening (Goes how e m d between r) =
    let same_opening : d.opening ≡ o = r.same.opening ∙ opening in
    let gone = after_attempt config now x how m d between in
    let ends : Option AttemptEndView → CallState = λ end. with_more_endings kept (ends_by now.at end) in
    let here : SnapshotsFrom config now d.opening later kept gone =
    subst (λ (o : Opening). SnapshotsFrom config now o later kept gone) (sym same_opening) (subst (λ (s : StepResult). SnapshotsFrom config now o later kept s) r.is step.snapshots) in
    let counted : IsCounted config d.opening kept.done d.diversions =
    subst (λ (v : DiversionsView). IsCounted config d.opening kept.done v) (sym r.same.diversions) (subst (λ (o : Opening). IsCounted config o kept.done c.diversions) (sym same_opening) step.counted) in
    let told : InStep passed config (call_inputs_of config first d.opening later) d.opening kept.targets d.diversions.history output gone (with_more_endings kept (ending_at now.at how ∷ [])) =
    step-notified passed config (call_inputs_of config first d.opening later) d.opening kept.targets d.diversions.history output between gone (with_more_endings kept (ending_at now.at how ∷ [])) r.own
    (subst (λ (q : Opening). IsUnnotified q.key output between) (sym r.same.opening) r.none)
    (went-on turn_law end_law config now first later kept d x reach how m between r.final (subst (λ (o : Opening). IsKnown first o) (sym same_opening) step.known) step.sheet counted step.rings step.empty here) in
    subst (λ (end : Option AttemptEndView). InStep passed config (call_inputs_of config first o later) o kept.targets c.diversions.history output s (with_more_endings kept (ends_by now.at end))) (sym e)
    (subst (λ (s : StepResult). InStep passed config (call_inputs_of config first o later) o kept.targets c.diversions.history output s (with_more_endings kept (ending_at now.at how ∷ []))) (sym r.is)
    (subst (λ (v : DiversionsView). InStep passed config (call_inputs_of config first o later) o kept.targets v.history output gone (with_more_endings kept (ending_at now.at how ∷ []))) r.same.diversions
    (subst (λ (o : Opening). InStep passed config (call_inputs_of config first o later) o kept.targets d.diversions.history output gone (with_more_endings kept (ending_at now.at how ∷ []))) same_opening told)))

-- ---- as it opens

begins-notifies : (law : NextStepsAreMoves) (refusal : Option Cause) (config : CallConfigView) (now : SnapshotView) (o : Opening) (later : ℕ → SnapshotView) (output : StepOutput) → IsKnown now o → IsRefusal refusal →
    let c = new_call config o in
    let s = unless_refused refusal config now (caller_of now.at c) c output in
    ((j : ℕ) → j < total config o - s.call.diversions.remaining → later j ≡ now) →
    ComesToNotify config (call_inputs_of config now o later) o [] c.diversions.history output s (empty_kept (initial_phase refusal (call_inputs_of config now o later)))
begins-notifies law None config now o later output known own stands =
    let c = new_call config o in
    let (offer, (n, t)) = target-notifies law c.diversions.remaining config now now later (caller_of now.at c)
    (divert-notifies law c.diversions.remaining config now now later (caller_of now.at c)) None (initial_target o) c output (empty_kept (moves.Over precedence.Pending)) known
    (record { remaining = plus-zero (total config o); count = sym (plus-zero (received_diversions o)) }) refl refl (first-known o) refl (λ j least most. stands j most) in (
      n,
      record { new = Rattle.mmtel_call_theorems.proofs.Targets.target_as (initial_target o).uri None offer ∷ t.new; rests = t.rests; reached = t.reached; adds = t.adds; entries = t.entries },
    )
begins-notifies law (Some cause) config now o later output known own stands =
    let c = new_call config o in
    refused-notifies config (call_inputs_of config now o later) now.at (caller_of now.at c) cause c output (empty_kept (moves.Over precedence.Pending)) (Final cause) refl own

-- ---- every trace

abbrev received : TraceStart → List Entry
received s = received_history s.arrival.invite

-- over these endings this is the phase of the call, and its caller got these notifications
abbrev NotifiedBy : TraceStart → (ℕ → SnapshotView) → List EndedAttempt → Call → List (Message StartLine) → Type 0
NotifiedBy s later ends c notices =
    (notices ≡ notifications_due s.config (opening_in s) (received s) (outcome (call_in s later) ends).targets)
    × (c.diversions.history ≡ history_after_targets (opening_in s) (received s) (outcome (call_in s later) ends).targets)

abbrev Notified : TraceStart → List TraceStep → (ℕ → SnapshotView) → Type 0
Notified s incoming later = NotifiedBy s later (endings_after s incoming) (call_after s incoming) (notifications_after s incoming)

notified-more : (s : TraceStart) (later : ℕ → SnapshotView) (ends ends2 : List EndedAttempt) (c d : Call) (notices more : List (Message StartLine)) (old new : List precedence.OutcomeTarget) →
    (outcome (call_in s later) ends).targets ≡ old → (outcome (call_in s later) ends2).targets ≡ old ++ new → NotifiedBy s later ends c notices →
    more ≡ notifications_due s.config (opening_in s) c.diversions.history new → d.diversions.history ≡ history_after_targets (opening_in s) c.diversions.history new → NotifiedBy s later ends2 d (notices ++ more)
notified-more s later ends ends2 c d notices more old new e f told shown entries =
    let o = opening_in s in
    let before : c.diversions.history ≡ history_after_targets o (received s) old = told.1 ∙ ap (history_after_targets o (received s)) e in (
      ap (λ l. l ++ more) (told.0 ∙ ap (notifications_due s.config o (received s)) e)
          ∙ ap (λ l. notifications_due s.config o (received s) old ++ l) (shown ∙ ap (λ h. notifications_due s.config o h new) before)
          ∙ sym (due-more s.config o (received s) old new) ∙ ap (notifications_due s.config o (received s)) (sym f),
      entries ∙ ap (λ h. history_after_targets o h new) before ∙ sym (history-more o (received s) old new) ∙ ap (history_after_targets o (received s)) (sym f),
    )

-- the notifications in the steps so far and in one more
abbrev Next : TraceStart → TraceStep → List TraceStep → (ℕ → SnapshotView) → Call → List (Message StartLine) → Type 0
Next s x earlier later c notices =
    NotifiedBy s later (endings_after s earlier ++ ending_by x c) (next_step s x c).call (notices ++ own_notifications s x (items_added x.output.out (next_step s x c).output.out))

-- in a step at which it was not offered there are none
next-still : (s : TraceStart) (x : TraceStep) (earlier : List TraceStep) (later : ℕ → SnapshotView) (c : Call) (notices : List (Message StartLine)) →
    IsUnnotified (opening_in s).key x.output (next_step s x c).output → ending_by x c ≡ [] → (next_step s x c).call.diversions ≡ c.diversions →
    NotifiedBy s later (endings_after s earlier) c notices → Next s x earlier later c notices
next-still s x earlier later c notices added_none none same told =
    let call = call_in s later in
    let ends = endings_after s earlier in
    let old = (outcome call ends).targets in
    notified-more s later ends (ends ++ ending_by x c) c (next_step s x c).call notices _ old [] refl
    (ap (λ es. (outcome call (ends ++ es)).targets) none ∙ ap (λ es. (outcome call es).targets) (append-nil ends) ∙ sym (append-nil old)) told
    (ap (without_relayed_notification (is_relayed_notification x.signal)) (seen-added (opening_in s) x.output (next_step s x c).output added_none) ∙ none-passed (is_relayed_notification x.signal))
    (ap (λ (v : DiversionsView). v.history) same)

goes-same : (at : ℕ) (x : EstablishedLegs) (c : Call) (rows : List Row) (s : StepResult) → answering.ContinuesOrEnds at x c rows s → s.call.diversions ≡ c.diversions
goes-same at x c rows s (answering.Continues y stage r) = r.same.diversions
goes-same at x c rows s (answering.Ends y d output r) = ap (λ (s : StepResult). s.call.diversions) r.is ∙ r.same.diversions

next-ringing : (turn_law : NextStepsAreMoves) (end_law : EndingsAreMoves) (extend : LaterEndingsExtend) (law : MovesGiveTheOutcome) (s : TraceStart) (x : TraceStep) (earlier : List TraceStep)
    (later : ℕ → SnapshotView) (c : Call) (filed : List Row) (at m : ℕ) (trial : OfferedAttempt) (reach : ReachedTargetView) (notices : List (Message StartLine)) →
    let kept = moves.moves m (call_in s later) (initial_state (call_in s later) (endings_after s earlier)) in
    Agrees s.config s.now (opening_in s) later kept c filed at → IsRinging s.config s.now (opening_in s) later kept c filed trial reach →
    ((j : ℕ) → kept.done ≤ j → j < total s.config (opening_in s) - (next_step s x c).call.diversions.remaining → later j ≡ x.now) →
    NotifiedBy s later (endings_after s earlier) c notices → Next s x earlier later c notices
next-ringing turn_law end_law extend law s x earlier later c filed at m trial reach notices agrees p stands told =
    let o = opening_in s in
    let call = call_in s later in
    let ends = endings_after s earlier in
    let kept = moves.moves m call (initial_state call ends) in
    let new = next_step s x c in
    let incoming : Receives (is_relayed_notification x.signal) s.config x.now trial c x.output (end_in c.phase c x.signal) new =
    subst (λ (c : Call). Receives (is_relayed_notification x.signal) s.config x.now trial c x.output (end_in c.phase c x.signal) (next_step s x c)) (sym (in-phase c (Offered trial) p.phase))
    (receives s.config x.now trial x.signal c x.output) in
    let step : AtStep s.config x.now s.now later kept c trial reach new o =
    record { known = is-known s; counted = record { remaining = agrees.remaining; count = agrees.count }; rings = p.rings; empty = agrees.empty; sheet = p.sheet; snapshots = stands } in
    let (n, t) = ringing-notifies turn_law end_law (is_relayed_notification x.signal) s.config x.now s.now later kept c x.output trial reach (end_in c.phase c x.signal) new o step agrees.opening incoming in
    let (fewer, least, same) = extend.go_on call m (initial_state call ends) (ending_by x c) in
    let moved : moves.moves n call (with_more_endings kept (ending_by x c)) ≡ moves.moves (fewer + n) call (initial_state call (ends ++ ending_by x c)) =
    ap (moves.moves n call) (sym same) ∙ moves-more fewer n call (initial_state call (ends ++ ending_by x c)) in
    notified-more s later ends (ends ++ ending_by x c) c new.call notices _ kept.targets t.new
    (sym (targets-of law call ends m (rest-at s.config s.now o later kept c filed at agrees.empty (Rings trial reach p))))
    (sym (targets-of law call (ends ++ ending_by x c) (fewer + n) (subst IsAtRest moved t.rests)) ∙ ap (λ (k : CallState). k.targets) (sym moved) ∙ t.reached) told
    t.notified t.entries

next-at : (turn_law : NextStepsAreMoves) (end_law : EndingsAreMoves) (extend : LaterEndingsExtend) (law : MovesGiveTheOutcome) (s : TraceStart) (x : TraceStep) (earlier : List TraceStep)
    (later : ℕ → SnapshotView) (c : Call) (filed : List Row) (at m : ℕ) (notices : List (Message StartLine)) →
    let kept = moves.moves m (call_in s later) (initial_state (call_in s later) (endings_after s earlier)) in
    Agrees s.config s.now (opening_in s) later kept c filed at → ((j : ℕ) → kept.done ≤ j → j < total s.config (opening_in s) - (next_step s x c).call.diversions.remaining → later j ≡ x.now) →
    NotifiedBy s later (endings_after s earlier) c notices → Place s.config s.now (opening_in s) later kept c filed at → Next s x earlier later c notices
next-at turn_law end_law extend law s x earlier later c filed at m notices agrees stands told (Rings trial reach p) =
    next-ringing turn_law end_law extend law s x earlier later c filed at m trial reach notices agrees p stands told
next-at turn_law end_law extend law s x earlier later c filed at m notices agrees stands told (Talks pair stage moment p) =
    let none : IsUnnotified (opening_in s).key x.output (next_step s x c).output =
    subst (λ (d : Call). IsUnnotified (opening_in s).key x.output (next_step s x d).output) (sym (in-phase c (Established pair stage) p.phase))
    (established-unnotified (opening_in s).key s.config x.now pair stage x.signal c x.output) in
    next-still s x earlier later c notices none (ap (λ phase. ends_by x.now.at (end_in phase c x.signal)) p.phase)
    (goes-same x.now.at pair c x.output.rows (next_step s x c)
    (subst (λ (d : Call). answering.ContinuesOrEnds x.now.at pair c x.output.rows (next_step s x d)) (sym (in-phase c (Established pair stage) p.phase)) (answering.goes s.config x.now pair stage x.signal c x.output)))
    told
next-at turn_law end_law extend law s x earlier later c filed at m notices agrees stands told (Ends cause p) =
    let u : Untouched c x.output.rows (next_step s x c) =
    subst (λ (d : Call). Untouched d x.output.rows (next_step s x d)) (sym (in-phase c (Over cause) p.phase)) (answering.stays-over s.config x.now cause x.signal c x.output) in
    let none : IsUnnotified (opening_in s).key x.output (next_step s x c).output =
    subst (λ (d : Call). IsUnnotified (opening_in s).key x.output (next_step s x d).output) (sym (in-phase c (Over cause) p.phase)) (ended-unnotified (opening_in s).key s.config x.now cause x.signal c x.output) in
    next-still s x earlier later c notices none (ap (λ phase. ends_by x.now.at (end_in phase c x.signal)) p.phase) u.same.diversions told

-- as it opens
opens-notifies : (law : NextStepsAreMoves) (s : TraceStart) (later : ℕ → SnapshotView) → Fits s [] later →
    InStep false s.config (call_in s later) (opening_in s) [] (received s) s.output (first_step s) (initial_state (call_in s later) [])
unfolding call_after_opening call_after snapshot_at_diversion
opens-notifies law s later fits =
    let o = opening_in s in
    let told = with_status_to_caller s.config (new_call s.config o) 100 (after_draw s.output) in
    step-notified false s.config (call_in s later) o [] (received s) s.output told (first_step s) (initial_state (call_in s later) []) refl
    (let a = status-unnotified s.config (new_call s.config o) 100 (after_draw s.output) refl in record { new = a.new; out = a.out; seen = a.seen })
    (subst (λ refusal. ComesToNotify s.config (call_in s later) o [] (received s) told (first_step s) (empty_kept (initial_phase refusal (call_in s later)))) (refusal-known s.config s.now o later (is-known s))
    (begins-notifies law (opening_refusal s.config s.now.at o) s.config s.now o later told (is-known s)
    (its-refusal o.invite.parsed.wants o.served o.sheet (decisions.target_facts s.config o s.now.at (initial_target o).uri)) fits))

notified-first : (turn_law : NextStepsAreMoves) (law : MovesGiveTheOutcome) (s : TraceStart) (later : ℕ → SnapshotView) → Fits s [] later → Notified s [] later
unfolding call_after endings_after notifications_after
notified-first turn_law law s later fits =
    let (n, t) = opens-notifies turn_law s later fits in
    let o = opening_in s in
    let all : t.new ≡ (outcome (call_in s later) []).targets = sym t.reached ∙ targets-of law (call_in s later) [] n t.rests in
    (t.notified ∙ ap (notifications_due s.config o (received s)) all, t.entries ∙ ap (history_after_targets o (received s)) all)

notifies : NextStepsAreMoves → EndingsAreMoves → LaterEndingsExtend → MovesGiveTheOutcome → (s : TraceStart) (incoming : List TraceStep) (later : ℕ → SnapshotView) → Fits s incoming later → Notified s incoming later
unfolding call_after endings_after notifications_after
notifies turn_law end_law extend law s [] later fits = notified-first turn_law law s later fits
notifies turn_law end_law extend law s (x ∷ earlier) later fits =
    let before = fits-earlier s x earlier later fits in
    let (m, agrees, shown) = state_agrees turn_law end_law extend s earlier later before in
    next-at turn_law end_law extend law s x earlier later (call_after s earlier) (charging_records_after s earlier) (over_at s earlier) m (notifications_after s earlier) agrees
    (fits-now s x earlier later (moves.moves m (call_in s later) (initial_state (call_in s later) (endings_after s earlier))).done fits agrees.remaining)
    (notifies turn_law end_law extend law s earlier later before) agrees.place

pub notifies_its_diversions : NextStepsAreMoves → EndingsAreMoves → LaterEndingsExtend → MovesGiveTheOutcome → NotifiesItsDiversions
notifies_its_diversions turn_law end_law extend law s incoming = (notifies turn_law end_law extend law s incoming (snapshot_at_diversion s incoming) (λ j most. refl)).0

pub keeps_its_history : NextStepsAreMoves → EndingsAreMoves → LaterEndingsExtend → MovesGiveTheOutcome → KeepsItsHistory
keeps_its_history turn_law end_law extend law s incoming = (notifies turn_law end_law extend law s incoming (snapshot_at_diversion s incoming) (λ j most. refl)).1

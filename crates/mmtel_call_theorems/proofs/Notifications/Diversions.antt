-- A call that reaches a target, or that is diverted, notifies its caller of each diversion that the moves of the precedence of services make.
use Rattle.std.proofs.Common.{append_assoc, ◌≡◌, ℕ, zero, suc, ◌+◌, ◌-◌, ◌==◌, ◌≤◌, Bool, true, false, List, [], ◌∷◌, ◌++◌, refl, ap, sym, subst, ◌∙◌, arith}
use Rattle.std.proofs.lemmas.List.{append-nil}
use Rattle.std.specs.Prelude.{Option, Some, None, if◌then◌else◌}
use Rattle.mmtel_compose.specs.Attempts.{invite_of}
use Rattle.mmtel_compose.specs.declared.attempts.Destination.{Destination}
use Rattle.mmtel_output.specs.Outputs.{after_draw, token}
use Rattle.mmtel_output.specs.Sending.{attempt_dialog}
use Rattle.mmtel_output.specs.declared.outputs.StepOutput.{StepOutput}
use Rattle.mmtel_history.specs.declared.entries.Entry.{Entry}
use Rattle.mmtel_leg.specs.Legs.{Leg}
use Rattle.mmtel_lex.specs.declared.values.Uri.{Uri}
use Rattle.mmtel_precedence.specs.Calls as precedence
use Rattle.mmtel_precedence.specs.Calls.{CallResult, Final, NotOffered, OfferState, Offered, ReachedTargetView, SnapshotView, snapshot_after}
use Rattle.mmtel_precedence.specs.Moves as moves
use Rattle.mmtel_precedence.specs.Moves.{CallState, Reaching, account_at, move_in, state_unless_refused, with_phase, with_target}
use Rattle.mmtel_precedence.specs.Services.{ServedAccountView, bars_outgoing, bound_of, DueDiversionView}
use Rattle.mmtel_precedence.specs.Targets.{is_by_number}
use Rattle.mmtel_precedence.specs.NextSteps as turns
use Rattle.mmtel_precedence.specs.NextSteps.{NextStepView, NextStepsAreMoves, StepDivert, StepOffer, StepRefuse, state_after_step}
use Rattle.mmtel_precedence.specs.Verdicts.{refusal_at_bound, refusal_before_diversion, too_many}
use Rattle.mmtel_served_user.specs.declared.targets.Target.{Target}
use Rattle.mmtel_transaction.specs.declared.words.DueWord.TheVariants as due
use Rattle.mmtel_transaction.specs.declared.words.Emit.{Emit}
use Rattle.mmtel_transaction.specs.declared.words.Emit.TheVariants as emit
use Rattle.mmtel_types.specs.Causes.{status_of}
use Rattle.mmtel_types.specs.declared.causes.Cause.{Cause}
use Rattle.mmtel_types.specs.declared.causes.Cause.TheVariants as causes
use Rattle.mmtel_call_services.specs.Decisions as decisions
use Rattle.mmtel_call_services.specs.Decisions.{decision_at, destination_of, diversion_target, peer_for, reached_target, service_at, service_sheet}
use Rattle.mmtel_call_services.specs.Diversions.{DiversionsView}
use Rattle.mmtel_call_services.specs.CopiedHeaders.{attempt_lines}
use Rattle.mmtel_call_services.specs.CallConfig.{CallConfigView}
use Rattle.mmtel_call_services.specs.declared.openings.Opening.{Opening}
use Rattle.mmtel_call_services.specs.declared.openings.Service.{Service}
use Rattle.mmtel_call.specs.Closing.{StepResult, call_end}
use Rattle.mmtel_call.specs.Diverting.{at_target, call_after_diversion, call_refusal, diversion_refusal, diversion_step}
use Rattle.mmtel_call.specs.Diverting.{diversion_unless_refused, divert, is_diverted, on_next_step, with_notification_of, with_unoffered_meter}
use Rattle.mmtel_call.specs.AttemptStarts.{max_attempt_time, next_attempt, with_attempt}
use Rattle.mmtel_call.specs.Sending.{with_diversion_notification, with_status_to_caller}
use Rattle.mmtel_call.specs.declared.calls.Call.{Call}
use Rattle.mmtel_call_theorems.specs.Outcomes.{call_inputs_of, received_diversions}
use Rattle.mmtel_call_theorems.proofs.OutcomeAgreement.{total}
use Rattle.mmtel_call_theorems.proofs.Targets.{SnapshotsFrom, more, move-known, same-number, snapshots-next, snapshots-on, target_as}
use Rattle.mmtel_call_theorems.proofs.DiversionBound.{divert-leaves, target-leaves}
use Rattle.mmtel_call_theorems.proofs.CallInputs.{cause_of, IsKnown, none-left, refusal-known, sheet-known, target_uri}
use Rattle.mmtel_call_theorems.specs.Notifications.DueNotifications.{history_after_targets, history_at, notification, notification_due, notifications_due}
use Rattle.mmtel_call_theorems.proofs.Notifications.AddedNotifications.{Adds, IsUnnotified, adds-reply, adds-then, unnotified, unnotified-reply}
use Rattle.mmtel_call_theorems.proofs.Notifications.OwnNotifications.{IsNoNotification, StepHasNoNotification, its-next-step, too-many-notification}
use Rattle.mmtel_diversion.specs.Bound.{is_within}
use Rattle.mmtel_sheet_values.specs.declared.values.Sheet.{Sheet}
use Rattle.mmtel_rules.specs.Facts.{FactsView}

-- ---- the notifications of these moves

-- nothing moves until another attempt ends
pub data IsAtRest (kept : CallState) : Type 0 where
  Waits : (account : ServedAccountView) → kept.phase ≡ moves.Ringing account → kept.endings ≡ [] → IsAtRest kept
  Finished : (result : CallResult) → kept.phase ≡ moves.Over result → kept.endings ≡ [] → IsAtRest kept

-- after this many moves the call rests, and what was added to the output has the notifications for the targets that it reached since these, with this History-Info before them
pub record Notifies (config : CallConfigView) (call : precedence.CallInputs) (o : Opening) (before : List precedence.OutcomeTarget) (history : List Entry) (output : StepOutput) (s : StepResult)
    (kept : CallState) (n : ℕ) : Type 0 where
  pub new : List precedence.OutcomeTarget
  pub rests : IsAtRest (moves.moves n call kept)
  pub reached : (moves.moves n call kept).targets ≡ before ++ new
  pub adds : Adds o.key output s.output (notifications_due config o history new)
  pub entries : s.call.diversions.history ≡ history_after_targets o history new

abbrev pub ComesToNotify : CallConfigView → precedence.CallInputs → Opening → List precedence.OutcomeTarget → List Entry → StepOutput → StepResult → CallState → Type 0
ComesToNotify config call o before history output s kept = (n : ℕ) × Notifies config call o before history output s kept n

-- whether it is offered to it, and the notifications after that
abbrev pub NotifiesFrom : CallConfigView → precedence.CallInputs → Opening → Uri → Option DueDiversionView → List precedence.OutcomeTarget → List Entry → StepOutput → StepResult → CallState → Type 0
NotifiesFrom config call o uri by before history output s kept = (offer : OfferState) × ComesToNotify config call o (before ++ target_as uri by offer ∷ []) history output s kept

-- one move, and then those
pub notified-after : (config : CallConfigView) (call : precedence.CallInputs) (o : Opening) (before : List precedence.OutcomeTarget) (history : List Entry) (output : StepOutput) (s : StepResult) (kept : CallState) →
    ComesToNotify config call o before history output s (move_in kept.phase call kept) → ComesToNotify config call o before history output s kept
unfolding moves.moves
notified-after config call o before history output s kept (n, t) = (suc n, record { new = t.new; rests = t.rests; reached = t.reached; adds = t.adds; entries = t.entries })

-- ---- a call that is refused

pub over-notifies : (config : CallConfigView) (call : precedence.CallInputs) (at : ℕ) (caller : Leg) (cause : Cause) (c : Call) (output after : StepOutput) (kept : CallState) (result : CallResult) →
    kept.endings ≡ [] → IsUnnotified c.opening.key output after →
    ComesToNotify config call c.opening kept.targets c.diversions.history output (call_end at cause caller.meter None c after) (with_phase kept (moves.Over result))
unfolding moves.moves
over-notifies config call at caller cause c output after kept result empty added = (
  0,
  record {
    new = [];
    rests = Finished result refl empty;
    reached = sym (append-nil kept.targets);
    adds = record { new = added.new; out = added.out; seen = added.seen };
    entries = refl;
  },
)

pub status-unnotified : (config : CallConfigView) (c : Call) (code : ℕ) (output : StepOutput) → IsNoNotification code → IsUnnotified c.opening.key output (with_status_to_caller config c code output)
status-unnotified config c code output e = unnotified-reply c.opening.key c.opening.key _ _ _ output e

pub refused-notifies : (config : CallConfigView) (call : precedence.CallInputs) (at : ℕ) (caller : Leg) (cause : Cause) (c : Call) (output : StepOutput) (kept : CallState) (result : CallResult) →
    kept.endings ≡ [] → IsNoNotification (status_of cause) →
    ComesToNotify config call c.opening kept.targets c.diversions.history output (call_refusal config at caller cause c output) (with_phase kept (moves.Over result))
refused-notifies config call at caller cause c output kept result empty e =
    over-notifies config call at caller cause c output (with_status_to_caller config c (status_of cause) output) kept result empty (status-unnotified config c (status_of cause) output e)

-- ---- the INVITE of an attempt

sent-unnotified : (config : CallConfigView) (at : ℕ) (service : Option Service) (waiting : Bool) (destination : Destination) (c : Call) (output : StepOutput) →
    IsUnnotified c.opening.key output (with_attempt config at service waiting destination c output)
sent-unnotified config at service waiting destination c output =
    let ask : Emit = emit.Ask destination.peer (invite_of (attempt_dialog destination c.opening.invite.parsed c.opening.restricted output) config.sip (token (after_draw (after_draw output)))
    (attempt_lines config c.opening c.diversions service destination.peer) waiting c.opening.invite.parsed) in
    let arm : Emit = emit.Arm c.opening.number (due.Cap (next_attempt c)) (at + max_attempt_time) in
    record { new = ask ∷ arm ∷ []; out = append_assoc output.out (ask ∷ []) (arm ∷ []); seen = refl }

-- ---- at a target

-- this many diversions are left after those that were made, and this many came with the call and were made
pub record IsCounted (config : CallConfigView) (o : Opening) (done : ℕ) (diversions : DiversionsView) : Type 0 where
  pub remaining : diversions.remaining + done ≡ total config o
  pub count : diversions.count ≡ received_diversions o + done

-- the notifications of a diversion that is due where this many are left
abbrev pub DivertNotifies : ℕ → CallConfigView → SnapshotView → SnapshotView → (ℕ → SnapshotView) → Leg → Type 0
DivertNotifies left config now first later caller =
    (service : Option Service) (reach : ReachedTargetView) (due : DueDiversionView) (c : Call) (output : StepOutput) (kept : CallState) →
    IsKnown first c.opening → turns.sheet_of reach ≡ service_sheet service → IsCounted config c.opening kept.done c.diversions → kept.endings ≡ [] → c.diversions.remaining ≡ left →
    SnapshotsFrom config now c.opening later kept (divert left config now caller service due c output) →
    ComesToNotify config (call_inputs_of config first c.opening later) c.opening kept.targets c.diversions.history output (divert left config now caller service due c output)
    (moves.state_after_diversion (call_inputs_of config first c.opening later) kept (account_at reach) now.at due)

-- by what is done there
next-step-notifies : (left : ℕ) (config : CallConfigView) (now first : SnapshotView) (later : ℕ → SnapshotView) (caller : Leg) → DivertNotifies left config now first later caller →
    (reach : ReachedTargetView) (by : Option DueDiversionView) (target : Target) (turn : NextStepView) (c : Call) (output : StepOutput) (kept : CallState) →
    IsKnown first c.opening → turns.sheet_of reach ≡ service_sheet (service_at config now c.opening (cause_of by) target) → IsCounted config c.opening kept.done c.diversions → kept.endings ≡ [] →
    c.diversions.remaining ≡ left →
    StepHasNoNotification turn →
    SnapshotsFrom config now c.opening later kept (on_next_step (divert left config now caller) config now.at caller (service_at config now c.opening (cause_of by) target) (cause_of by) target turn c output) →
    NotifiesFrom config (call_inputs_of config first c.opening later) c.opening target.uri by kept.targets c.diversions.history output
    (on_next_step (divert left config now caller) config now.at caller (service_at config now c.opening (cause_of by) target) (cause_of by) target turn c output)
    (state_after_step (call_inputs_of config first c.opening later) (account_at reach) now.at kept target.uri by turn)
unfolding moves.moves
next-step-notifies left config now first later caller goes reach by target (StepOffer peer waiting) c output kept known sheet counted empty few own stands = (
  Offered waiting,
  (
    0,
    record {
      new = [];
      rests = Waits (account_at reach) refl empty;
      reached = sym (append-nil (kept.targets ++ target_as target.uri by (Offered waiting) ∷ []));
      adds = sent-unnotified config now.at (service_at config now c.opening (cause_of by) target) waiting (destination_of c.opening peer (cause_of by) target) c output;
      entries = refl;
    },
  ),
)
next-step-notifies left config now first later caller goes reach by target (StepDivert due) c output kept known sheet counted empty few own stands =
    let service = service_at config now c.opening (cause_of by) target in
    (NotOffered, goes service reach due (with_unoffered_meter now.at service c) output (with_target kept target.uri by NotOffered) known sheet counted empty few stands)
next-step-notifies left config now first later caller goes reach by target (StepRefuse why) c output kept known sheet counted empty few own stands =
    let call = call_inputs_of config first c.opening later in
    let passed = with_unoffered_meter now.at (service_at config now c.opening (cause_of by) target) c in
    (NotOffered, refused-notifies config call now.at caller why passed output (with_target kept target.uri by NotOffered) (Final why) empty own)

pub target-notifies : (law : NextStepsAreMoves) (left : ℕ) (config : CallConfigView) (now first : SnapshotView) (later : ℕ → SnapshotView) (caller : Leg) → DivertNotifies left config now first later caller →
    (by : Option DueDiversionView) (target : Target) (c : Call) (output : StepOutput) (kept : CallState) →
    IsKnown first c.opening → IsCounted config c.opening kept.done c.diversions → kept.endings ≡ [] → c.diversions.remaining ≡ left →
    target.of_number ≡ is_by_number by → snapshot_after (call_inputs_of config first c.opening later) kept.done ≡ now →
    SnapshotsFrom config now c.opening later kept (at_target (divert left config now caller) config now caller (cause_of by) target c output) →
    NotifiesFrom config (call_inputs_of config first c.opening later) c.opening target.uri by kept.targets c.diversions.history output
    (at_target (divert left config now caller) config now caller (cause_of by) target c output)
    (with_phase kept (Reaching target.uri by))
target-notifies law left config now first later caller goes by target c output kept known counted empty few number stood stands =
    let o = c.opening in
    let call = call_inputs_of config first o later in
    let service = service_at config now o (cause_of by) target in
    let peer = peer_for config o target in
    let reach = reached_target config now o (cause_of by) target service peer in
    let s = at_target (divert left config now caller) config now caller (cause_of by) target c output in
    let (offer, told) = next-step-notifies left config now first later caller goes reach by target (decision_at config now o (is_diverted c) (cause_of by) target service peer) c output
    (with_phase kept (Reaching target.uri by)) known
    (sheet-known config now o (cause_of by) target service peer) counted empty few (its-next-step (decisions.caller_facts o now.at (is_diverted c)) reach) stands in (
      offer,
      notified-after config call o (kept.targets ++ target_as target.uri by offer ∷ []) c.diversions.history output s (with_phase kept (Reaching target.uri by))
          (subst (λ (k : CallState). ComesToNotify config call o (kept.targets ++ target_as target.uri by offer ∷ []) c.diversions.history output s k)
          (sym (move-known law config now first o later by target (with_phase kept (Reaching target.uri by)) c.diversions.count known counted.count number stood)) told),
    )

-- ---- a diversion

-- where a cause refuses it, if one does, there is no 181
abbrev NoNotification : Option Cause → Type 0
NoNotification None = Unit {0}
NoNotification (Some cause) = IsNoNotification (status_of cause)

-- what is checked before a diversion refuses it, or the diversion proceeds
unless-notifies : (config : CallConfigView) (now first : SnapshotView) (later : ℕ → SnapshotView) (caller : Leg) (refusal : Option Cause) (onward : Call → StepOutput → StepResult) (uri : Uri)
    (due : DueDiversionView) (c : Call) (output : StepOutput) (kept : CallState) →
    kept.endings ≡ [] → NoNotification refusal → SnapshotsFrom config now c.opening later kept (diversion_unless_refused refusal onward config now.at caller c output) →
    (refusal ≡ None → SnapshotsFrom config now c.opening later kept (onward c output) →
    ComesToNotify config (call_inputs_of config first c.opening later) c.opening kept.targets c.diversions.history output (onward c output) (state_unless_refused None kept uri due)) →
    ComesToNotify config (call_inputs_of config first c.opening later) c.opening kept.targets c.diversions.history output (diversion_unless_refused refusal onward config now.at caller c output)
    (state_unless_refused refusal kept uri due)
unless-notifies config now first later caller (Some why) onward uri due c output kept empty own stands comes =
    refused-notifies config (call_inputs_of config first c.opening later) now.at caller why c output kept (Final why) empty own
unless-notifies config now first later caller None onward uri due c output kept empty own stands comes = comes refl stands

-- where a cause refuses a diversion there is no 181
bound-unnotified : (within : Bool) (cause : ℕ) → NoNotification (if within then None else Some (too_many cause))
bound-unnotified true cause = tt
bound-unnotified false cause = too-many-notification (cause == 486)

refusal-unnotified : (c : FactsView) (sheet : Option Sheet) (received done bound : ℕ) (due : DueDiversionView) → NoNotification (refusal_before_diversion c sheet received done bound due)
refusal-unnotified c None received done bound due = bound-unnotified (is_within received done (bound_of bound due.bound)) due.cause
refusal-unnotified c (Some sheet) received done bound due = go (bars_outgoing c sheet)
  where
    go : (b : Bool) → NoNotification (if b then Some causes.OutgoingBarred else refusal_at_bound received done (bound_of bound due.bound) due.cause)
    go true = refl
    go false = bound-unnotified (is_within received done (bound_of bound due.bound)) due.cause

-- the caller is notified of it if the forward requires that
notification-adds : (config : CallConfigView) (due : DueDiversionView) (d : Call) (output : StepOutput) (b : Bool) → Adds d.opening.key output (if b then with_diversion_notification config d output else output)
    (if b then notification config d.opening (Rattle.mmtel_call_services.specs.CopiedHeaders.notified_history d.diversions) ∷ [] else [])
notification-adds config due d output true =
    subst (λ to_caller. Adds d.opening.key output (with_diversion_notification config d output)
    (if to_caller then notification config d.opening (Rattle.mmtel_call_services.specs.CopiedHeaders.notified_history d.diversions) ∷ [] else []))
    (both (d.opening.key.0 == d.opening.key.0) (same-number d.opening.key.0))
    (adds-reply d.opening.key d.opening.key _ _ _ output true refl)
  where
    both : (b : Bool) → b ≡ true → (Rattle.std.specs.Prelude.◌&&◌ b true) ≡ true
    both true e = refl
    both false e = absurd cc
notification-adds config due d output false = unnotified d.opening.key output

-- one more target, and those after it
made-notifies : (config : CallConfigView) (call : precedence.CallInputs) (uri : Uri) (due : DueDiversionView) (c : Call) (output told : StepOutput) (s : StepResult) (kept : CallState) →
    Adds c.opening.key output told (notification_due config c.opening (history_at c.opening c.diversions.history (Some due) uri) (Some due)) →
    NotifiesFrom config call c.opening uri (Some due) kept.targets (history_at c.opening c.diversions.history (Some due) uri) told s (with_phase (more kept) (Reaching uri (Some due))) →
    ComesToNotify config call c.opening kept.targets c.diversions.history output s (with_phase (more kept) (Reaching uri (Some due)))
made-notifies config call uri due c output told s kept added (offer, (n, t)) =
    let history = history_at c.opening c.diversions.history (Some due) uri in (
      n,
      record {
        new = target_as uri (Some due) offer ∷ t.new;
        rests = t.rests;
        reached = t.reached ∙ append_assoc kept.targets (target_as uri (Some due) offer ∷ []) t.new;
        adds = adds-then c.opening.key output told s.output (notification_due config c.opening history (Some due)) (notifications_due config c.opening history t.new) added t.adds;
        entries = t.entries;
      },
    )

pub divert-notifies : (law : NextStepsAreMoves) (left : ℕ) (config : CallConfigView) (now first : SnapshotView) (later : ℕ → SnapshotView) (caller : Leg) → DivertNotifies left config now first later caller
unfolding divert
divert-notifies law zero config now first later caller service reach due c output kept known sheet counted empty few stands =
    let call = call_inputs_of config first c.opening later in
    let o = c.opening in
    let onward = call_refusal config now.at caller (too_many due.cause) in
    let s = diversion_unless_refused (diversion_refusal 0 config now.at service due c) onward config now.at caller c output in
    let e = counted.remaining in
    let none : 0 + kept.done ≡ config.bound - received_diversions o = omega arith in
    subst (λ (refusal : Option Cause). ComesToNotify config call o kept.targets c.diversions.history output s (state_unless_refused refusal kept (target_uri config due) due))
    (refusal-known config first o later now.at kept.done 0 c.diversions.count reach service due known sheet none counted.count)
    (unless-notifies config now first later caller (diversion_refusal 0 config now.at service due c) onward (target_uri config due) due c output kept empty
    (refusal-unnotified (decisions.target_facts config o now.at (target_uri config due)) (service_sheet service) c.diversions.count 0 (c.diversions.count + 0) due) stands
    (λ lets after. absurd (none-left (decisions.target_facts config o now.at (target_uri config due)) (service_sheet service) c.diversions.count due lets)))
divert-notifies law (suc left) config now first later caller service reach due c output kept known sheet counted empty few stands =
    let call = call_inputs_of config first c.opening later in
    let o = c.opening in
    let target = diversion_target config due in
    let next = call_after_diversion target now.at left service due c in
    let told = with_notification_of config due next output in
    let inner = at_target (divert left config now caller) config now caller (Some due.cause) target next told in
    let onward = diversion_step (at_target (divert left config now caller) config now caller (Some due.cause) target) config target now.at left service due in
    let s = diversion_unless_refused (diversion_refusal (suc left) config now.at service due c) onward config now.at caller c output in
    let e = counted.remaining in
    let f = counted.count in
    let some : suc left + kept.done ≡ config.bound - received_diversions o = omega arith in
    let leaves : inner.call.diversions.remaining ≤ left = target-leaves left config now caller (divert-leaves left config now caller) (Some due.cause) target next told refl in
    let next_left : left + (kept.done + 1) ≡ total config o = omega arith in
    let next_count : c.diversions.count + 1 ≡ received_diversions o + (kept.done + 1) = omega arith in
    let place : kept.done + 1 ≡ suc kept.done = omega arith in
    subst (λ (refusal : Option Cause). ComesToNotify config call o kept.targets c.diversions.history output s (state_unless_refused refusal kept (target_uri config due) due))
    (refusal-known config first o later now.at kept.done (suc left) c.diversions.count reach service due known sheet some f)
    (unless-notifies config now first later caller (diversion_refusal (suc left) config now.at service due c) onward (target_uri config due) due c output kept empty
    (refusal-unnotified (decisions.target_facts config o now.at (target_uri config due)) (service_sheet service) c.diversions.count 0 (c.diversions.count + suc left) due) stands
    (λ lets after. made-notifies config call (target_uri config due) due c output told inner kept (notification-adds config due next output due.forward.notify_caller)
    (target-notifies law left config now first later caller (divert-notifies law left config now first later caller) (Some due) target next told (more kept) known
    (record { remaining = next_left; count = next_count }) empty refl refl
    (ap (snapshot_after call) place ∙ snapshots-next left config now later c kept inner counted.remaining few leaves after) (snapshots-on config now later c kept inner after))))

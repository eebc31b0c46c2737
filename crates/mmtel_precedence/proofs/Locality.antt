-- Only the targets that a call reaches count.
use Rattle.std.proofs.Common.{◌≡◌, ℕ, zero, suc, ◌+◌, ◌-◌, ◌<◌, Bool, true, false, List, [], ◌∷◌, length, refl, ap, sym, ◌∙◌, arith}
use Rattle.std.specs.Prelude.{Option, Some, None}
use Rattle.std.specs.Option.{option_map_or}
use Rattle.mmtel_types.specs.declared.causes.Cause.{Cause}
use Rattle.mmtel_lex.specs.declared.values.Uri.{Uri}
use Rattle.mmtel_precedence.specs.Services.{ServedAccountView, DueDiversionView, is_reached, ServiceDecision, Nothing, Refuses, Diverts}
use Rattle.mmtel_precedence.specs.Calls.{refused_outcome, AttemptEndView, Answer, Cancel, Unacknowledged, UserBusy, NotReachable, NoReply, Deflection, Other}
use Rattle.mmtel_precedence.specs.Calls.{EndedAttempt, SnapshotView, ReachedTargetView, CallInputs, snapshot_after, OutcomeTarget, Outcome, outcome_after_target}
use Rattle.mmtel_precedence.specs.Opening.{refusal_at_opening}
use Rattle.mmtel_served_user.specs.Targets.{new_target}
use Rattle.mmtel_precedence.specs.Targets.{TargetOutcome, Rests, IsDue, reached_target_in, decision_on_arrival, target_outcome_on, target_outcome_at, target_outcome_after, target_at, offer_by}
use Rattle.mmtel_precedence.specs.Outcome.{outcome_from, outcome}
use Rattle.mmtel_precedence.specs.Theorems.{with_later_snapshots, OnlyReachedTargetsCount}
use Rattle.mmtel_precedence.proofs.TargetOutcomes.{from_next, refused_for, unless_reached, unless_reached-cases, after_due}

-- ---- at one target

next_on-where : (other : ℕ → SnapshotView) (call : CallInputs) (k : ℕ) (served : Option ServedAccountView) (now : ℕ) (how : AttemptEndView) (later : List EndedAttempt) →
    target_outcome_on (with_later_snapshots other call) k served now how later ≡ target_outcome_on call k served now how later
next_on-where other call k served now Answer later = refl
next_on-where other call k served now Cancel later = refl
next_on-where other call k served now Unacknowledged later = refl
next_on-where other call k served now (UserBusy code) later = refl
next_on-where other call k served now (NotReachable code) later = refl
next_on-where other call k served now NoReply later = refl
next_on-where other call k served now (Deflection target rang) later = refl
next_on-where other call k served now (Other code) later = refl

next_at-where : (other : ℕ → SnapshotView) (says : ServiceDecision) (call : CallInputs) (k : ℕ) (reach : ReachedTargetView) (endings : List EndedAttempt) →
    target_outcome_at says (with_later_snapshots other call) k reach endings ≡ target_outcome_at says call k reach endings
next_at-where other Nothing call k reach [] = refl
next_at-where other Nothing call k reach (ended ∷ later) = next_on-where other call k reach.served ended.at ended.how later
next_at-where other (Refuses cause) call k reach endings = refl
next_at-where other (Diverts due) call k reach endings = refl

-- the states are the same when the call reaches the target after k diversions
abbrev SnapshotsAreSame : (ℕ → SnapshotView) → CallInputs → ℕ → Type 0
SnapshotsAreSame other call k = snapshot_after call k ≡ snapshot_after (with_later_snapshots other call) k

-- the outcome at the target, and the facts of the target, by the state
abbrev next_in : CallInputs → (k : ℕ) → Uri → Option DueDiversionView → List EndedAttempt → SnapshotView → TargetOutcome
next_in call k uri by endings standing = target_outcome_at (decision_on_arrival call k (reached_target_in standing call uri by)) call k (reached_target_in standing call uri by) endings

abbrev target_in : CallInputs → (k : ℕ) → Uri → Option DueDiversionView → SnapshotView → OutcomeTarget
target_in call k uri by standing = record { uri = uri; diversion = by; offer = offer_by (decision_on_arrival call k (reached_target_in standing call uri by)) (reached_target_in standing call uri by).served }

next-same : (other : ℕ → SnapshotView) (call : CallInputs) (k : ℕ) (uri : Uri) (by : Option DueDiversionView) (endings : List EndedAttempt) → SnapshotsAreSame other call k →
    target_outcome_after (with_later_snapshots other call) k uri by endings ≡ target_outcome_after call k uri by endings
next-same other call k uri by endings e =
    let reach = reached_target_in (snapshot_after (with_later_snapshots other call) k) call uri by in
    next_at-where other (decision_on_arrival call k reach) call k reach endings
    ∙ ap (next_in call k uri by endings) (sym e)

target-same : (other : ℕ → SnapshotView) (call : CallInputs) (k : ℕ) (uri : Uri) (by : Option DueDiversionView) → SnapshotsAreSame other call k →
    target_at (with_later_snapshots other call) k uri by ≡ target_at call k uri by
target-same other call k uri by e = ap (target_in call k uri by) (sym e)

-- ---- from one target on

-- the states are the same at the targets that the call reaches from here on
abbrev Agrees : (ℕ → SnapshotView) → CallInputs → ℕ → Outcome → Type 0
Agrees other call k outcome = (j : ℕ) → j < length outcome.targets → SnapshotsAreSame other call (k + j)

-- there is one target at least
reaches-from_next : (target : OutcomeTarget) (onward : DueDiversionView → List EndedAttempt → Outcome) →
    ((due : DueDiversionView) (later : List EndedAttempt) → 0 < length (onward due later).targets) → (next : TargetOutcome) → 0 < length (from_next target onward next).targets
reaches-from_next target onward h (Rests result) = omega arith
reaches-from_next target onward h (IsDue due later) = h due later

reaches-one : (call : CallInputs) (left k : ℕ) (uri : Uri) (by : Option DueDiversionView) (endings : List EndedAttempt) → 0 < length (outcome_from call left k uri by endings).targets
unfolding outcome_from
reaches-one call zero k uri by endings = reaches-from_next (target_at call k uri by) _ (λ due later. omega arith) (target_outcome_after call k uri by endings)
reaches-one call (suc left) k uri by endings =
    reaches-from_next (target_at call k uri by) _
    (λ due later. unless_reached-cases (λ outcome. 0 < length outcome.targets) (is_reached due.bound (call.received + k)) (target_at call k uri by) due (after_due call left k due later) (omega arith) (omega arith))
    (target_outcome_after call k uri by endings)

agrees-here : (other : ℕ → SnapshotView) (call : CallInputs) (left k : ℕ) (uri : Uri) (by : Option DueDiversionView) (endings : List EndedAttempt) →
    Agrees other call k (outcome_from call left k uri by endings) → SnapshotsAreSame other call k
agrees-here other call left k uri by endings h =
    let e : k ≡ k + 0 = omega arith in
    ap (snapshot_after call) e ∙ h 0 (reaches-one call left k uri by endings) ∙ ap (snapshot_after (with_later_snapshots other call)) (sym e)

agrees-after : (other : ℕ → SnapshotView) (call : CallInputs) (k : ℕ) (target : OutcomeTarget) (outcome : Outcome) → Agrees other call k (outcome_after_target target outcome) → Agrees other call (k + 1) outcome
agrees-after other call k target outcome h j less =
    let e : k + 1 + j ≡ k + suc j = omega arith in
    ap (snapshot_after call) e ∙ h (suc j) (omega arith) ∙ ap (snapshot_after (with_later_snapshots other call)) (sym e)

unless-same : (other : ℕ → SnapshotView) (call : CallInputs) (k : ℕ) (stops : Bool) (target : OutcomeTarget) (due : DueDiversionView) (outcome outcome2 : Outcome) →
    (Agrees other call (k + 1) outcome → outcome2 ≡ outcome) →
    Agrees other call k (unless_reached stops target due outcome) → unless_reached stops target due outcome2 ≡ unless_reached stops target due outcome
unless-same other call k true target due outcome outcome2 same h = refl
unless-same other call k false target due outcome outcome2 same h = ap (outcome_after_target target) (same (agrees-after other call k target outcome h))

-- the outcome of each diversion is the same where the states at its targets are the same
after-same : (other : ℕ → SnapshotView) (call : CallInputs) (k : ℕ) (stops : DueDiversionView → Bool) (target : OutcomeTarget) (onward onward2 : DueDiversionView → List EndedAttempt → Outcome) →
    ((due : DueDiversionView) (later : List EndedAttempt) → Agrees other call (k + 1) (onward due later) → onward2 due later ≡ onward due later) →
    (next : TargetOutcome) → Agrees other call k (from_next target (λ due later. unless_reached (stops due) target due (onward due later)) next) →
    from_next target (λ due later. unless_reached (stops due) target due (onward2 due later)) next ≡ from_next target (λ due later. unless_reached (stops due) target due (onward due later)) next
after-same other call k stops target onward onward2 same (Rests result) h = refl
after-same other call k stops target onward onward2 same (IsDue due later) h = unless-same other call k (stops due) target due (onward due later) (onward2 due later) (same due later) h

outcome_from-same : (other : ℕ → SnapshotView) (call : CallInputs) (left k : ℕ) (uri : Uri) (by : Option DueDiversionView) (endings : List EndedAttempt) → Agrees other call k (outcome_from call left k uri by endings) →
    outcome_from (with_later_snapshots other call) left k uri by endings ≡ outcome_from call left k uri by endings
unfolding outcome_from
outcome_from-same other call zero k uri by endings h =
    let here = agrees-here other call 0 k uri by endings h in
    ap (λ target. from_next target (λ due later. refused_for target due) (target_outcome_after (with_later_snapshots other call) k uri by endings)) (target-same other call k uri by here)
    ∙ ap (λ next. from_next (target_at call k uri by) (λ due later. refused_for (target_at call k uri by) due) next) (next-same other call k uri by endings here)
outcome_from-same other call (suc left) k uri by endings h =
    let here = agrees-here other call (suc left) k uri by endings h in
    let stops : DueDiversionView → Bool = λ due. is_reached due.bound (call.received + k) in
    let onward2 : DueDiversionView → List EndedAttempt → Outcome = λ due later. after_due (with_later_snapshots other call) left k due later in
    ap (λ target. from_next target (λ due later. unless_reached (stops due) target due (onward2 due later)) (target_outcome_after (with_later_snapshots other call) k uri by endings))
    (target-same other call k uri by here)
    ∙ ap (λ next. from_next (target_at call k uri by) (λ due later. unless_reached (stops due) (target_at call k uri by) due (onward2 due later)) next) (next-same other call k uri by endings here)
    ∙ after-same other call k stops (target_at call k uri by) (λ due later. after_due call left k due later) onward2
    (λ due later. outcome_from-same other call left (k + 1) (new_target call.home due.forward.target) (Some due) later) (target_outcome_after call k uri by endings) h

-- by the refusal at the opening
opened-same : (other : ℕ → SnapshotView) (call : CallInputs) (endings : List EndedAttempt) (refusal : Option Cause) →
    (let from = outcome_from call (call.bound - call.received) 0 call.first_target None endings in
    let from2 = outcome_from (with_later_snapshots other call) (call.bound - call.received) 0 call.first_target None endings in
    Agrees other call 0 (option_map_or refused_outcome refusal from) → option_map_or refused_outcome refusal from2 ≡ option_map_or refused_outcome refusal from)
opened-same other call endings None h = outcome_from-same other call (call.bound - call.received) 0 call.first_target None endings h
opened-same other call endings (Some cause) h = refl

-- at each target that is reached, the first one too
agrees-first : (other : ℕ → SnapshotView) (call : CallInputs) (outcome : Outcome) → ((k : ℕ) → suc k < length outcome.targets → call.later_snapshots k ≡ other k) → (j : ℕ) →
    j < length outcome.targets → SnapshotsAreSame other call j
agrees-first other call outcome h zero less = refl
agrees-first other call outcome h (suc k) less = h k less

pub only_reached_targets_count : OnlyReachedTargetsCount
only_reached_targets_count call endings other h =
    let same = agrees-first other call (outcome call endings) h in
    opened-same other call endings (refusal_at_opening call) (λ j less. let e : 0 + j ≡ j = omega arith in ap (snapshot_after call) e ∙ same j less ∙ ap (snapshot_after (with_later_snapshots other call)) (sym e))

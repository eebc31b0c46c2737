-- The diversion that led to a target has its forward.
use Rattle.std.proofs.Common.{◌≡◌, ℕ, zero, suc, ◌+◌, ◌-◌, Bool, List, refl, ap, sym}
use Rattle.std.specs.Prelude.{Option, Some, None, IsSome, is_some}
use Rattle.std.specs.List.{AllByRecursion}
use Rattle.std.specs.Option.{option_map_or}
use Rattle.mmtel_types.specs.declared.causes.Cause.{Cause}
use Rattle.mmtel_types.specs.declared.causes.Cause.TheVariants as causes
use Rattle.mmtel_lex.specs.declared.values.Uri.{Uri}
use Rattle.mmtel_sheet_values.specs.declared.values.Forward.{Forward}
use Rattle.mmtel_precedence.specs.declared.endings.Ending.{Ending}
use Rattle.mmtel_precedence.specs.declared.endings.Ending.TheVariants as ending
use Rattle.mmtel_rules.specs.declared.values.When.TheVariants as event
use Rattle.mmtel_rules.specs.Facts.{FactsView}
use Rattle.mmtel_precedence.specs.Services.{ServedAccountView, DueDiversionView, is_reached, ServiceDecision, Nothing, Refuses, Diverts, due_on, first_decision, services_on_arrival}
use Rattle.mmtel_precedence.specs.Verdicts.{Forwards, decision_by, forwards_or, verdict_of}
use Rattle.mmtel_precedence.specs.Calls.{refused_outcome, EndedAttempt, CallInputs, OutcomeTarget, Outcome}
use Rattle.mmtel_precedence.specs.Opening.{refusal_at_opening}
use Rattle.mmtel_served_user.specs.Targets.{new_target}
use Rattle.mmtel_precedence.specs.Targets.{TargetOutcome, Rests, IsDue, target_outcome_after, target_at}
use Rattle.mmtel_precedence.specs.Outcome.{outcome_from, outcome}
use Rattle.mmtel_precedence.specs.Theorems.{target_of_diversion, targets_after_first, DiversionsHaveForwards}
use Rattle.mmtel_precedence.proofs.TargetOutcomes.{from_next, refused_for, unless_reached-cases, after_due, go_further}

-- ---- of targets

abbrev AreLed : CallInputs → Outcome → Type 0
AreLed call outcome = AllByRecursion (λ (target : OutcomeTarget). target.uri ≡ target_of_diversion call target.diversion) outcome.targets

led-next : (call : CallInputs) (target : OutcomeTarget) (onward : DueDiversionView → List EndedAttempt → Outcome) → target.uri ≡ target_of_diversion call target.diversion →
    ((due : DueDiversionView) (later : List EndedAttempt) → AreLed call (onward due later)) → (next : TargetOutcome) → AreLed call (from_next target onward next)
led-next call target onward here after (Rests result) = (here, tt)
led-next call target onward here after (IsDue due later) = after due later

led-from : (call : CallInputs) (left k : ℕ) (uri : Uri) (by : Option DueDiversionView) (endings : List EndedAttempt) → uri ≡ target_of_diversion call by → AreLed call (outcome_from call left k uri by endings)
unfolding outcome_from
led-from call zero k uri by endings here =
    led-next call (target_at call k uri by) (λ due later. refused_for (target_at call k uri by) due) here (λ due later. (here, tt)) (target_outcome_after call k uri by endings)
led-from call (suc left) k uri by endings here =
    led-next call (target_at call k uri by) (λ due later. go_further call left k (target_at call k uri by) due later) here
    (λ due later. unless_reached-cases (AreLed call) (is_reached due.bound (call.received + k)) (target_at call k uri by) due (after_due call left k due later) (here, tt)
    (here, led-from call left (k + 1) (new_target call.home due.forward.target) (Some due) later refl)) (target_outcome_after call k uri by endings)

led-opened : (call : CallInputs) (endings : List EndedAttempt) (refusal : Option Cause) →
    AreLed call (option_map_or refused_outcome refusal (outcome_from call (call.bound - call.received) 0 call.first_target None endings))
led-opened call endings None = led-from call (call.bound - call.received) 0 call.first_target None endings refl
led-opened call endings (Some cause) = tt

-- ---- of the targets but the first

abbrev AreDiverted : List OutcomeTarget → Type 0
AreDiverted targets = AllByRecursion (λ (target : OutcomeTarget). IsSome target.diversion) targets

diverted-next : (target : OutcomeTarget) (onward : DueDiversionView → List EndedAttempt → Outcome) → IsSome target.diversion →
    ((due : DueDiversionView) (later : List EndedAttempt) → AreDiverted (onward due later).targets) → (next : TargetOutcome) → AreDiverted (from_next target onward next).targets
diverted-next target onward here after (Rests result) = (here, tt)
diverted-next target onward here after (IsDue due later) = after due later

diverted-from : (call : CallInputs) (left k : ℕ) (uri : Uri) (by : DueDiversionView) (endings : List EndedAttempt) → AreDiverted (outcome_from call left k uri (Some by) endings).targets
unfolding outcome_from
diverted-from call zero k uri by endings =
    diverted-next (target_at call k uri (Some by)) (λ due later. refused_for (target_at call k uri (Some by)) due) refl (λ due later. (refl, tt)) (target_outcome_after call k uri (Some by) endings)
diverted-from call (suc left) k uri by endings =
    diverted-next (target_at call k uri (Some by)) (λ due later. go_further call left k (target_at call k uri (Some by)) due later) refl
    (λ due later. unless_reached-cases (λ outcome. AreDiverted outcome.targets) (is_reached due.bound (call.received + k)) (target_at call k uri (Some by)) due (after_due call left k due later) (refl, tt)
    (refl, diverted-from call left (k + 1) (new_target call.home due.forward.target) due later)) (target_outcome_after call k uri (Some by) endings)

later-next : (target : OutcomeTarget) (onward : DueDiversionView → List EndedAttempt → Outcome) →
    ((due : DueDiversionView) (later : List EndedAttempt) → AreDiverted (targets_after_first (onward due later).targets)) → (next : TargetOutcome) →
    AreDiverted (targets_after_first (from_next target onward next).targets)
later-next target onward after (Rests result) = tt
later-next target onward after (IsDue due later) = after due later

later-from : (call : CallInputs) (left k : ℕ) (uri : Uri) (by : Option DueDiversionView) (endings : List EndedAttempt) → AreDiverted (targets_after_first (outcome_from call left k uri by endings).targets)
unfolding outcome_from
later-from call zero k uri by endings = later-next (target_at call k uri by) (λ due later. refused_for (target_at call k uri by) due) (λ due later. tt) (target_outcome_after call k uri by endings)
later-from call (suc left) k uri by endings =
    later-next (target_at call k uri by) (λ due later. go_further call left k (target_at call k uri by) due later)
    (λ due later. unless_reached-cases (λ outcome. AreDiverted (targets_after_first outcome.targets)) (is_reached due.bound (call.received + k)) (target_at call k uri by) due (after_due call left k due later) tt
    (diverted-from call left (k + 1) (new_target call.home due.forward.target) due later)) (target_outcome_after call k uri by endings)

later-opened : (call : CallInputs) (endings : List EndedAttempt) (refusal : Option Cause) →
    AreDiverted (targets_after_first (option_map_or refused_outcome refusal (outcome_from call (call.bound - call.received) 0 call.first_target None endings)).targets)
later-opened call endings None = later-from call (call.bound - call.received) 0 call.first_target None endings
later-opened call endings (Some cause) = tt

-- ---- of decisions

has-decision : (says : ServiceDecision) (live : ℕ) (forward : Option Forward) (cause : ℕ) → decision_by says live ≡ Forwards forward cause → IsSome forward
has-decision Nothing live forward cause e = absurd cc
has-decision (Refuses why) live forward cause e = absurd cc
has-decision (Diverts due) live forward cause e = let same : Some due.forward ≡ forward = cc in sym (ap is_some same)

has-rules : (due : Option DueDiversionView) (why : Cause) (cause : ℕ) → forwards_or due why ≡ Forwards None cause → ⊥
has-rules None why cause e = cc
has-rules (Some due) why cause e = cc

without : (c : FactsView) (account : ServedAccountView) (how : Ending) (cause : ℕ) → verdict_of c account how ≡ Forwards None cause → (alerted : Bool) × (how ≡ ending.Deflected alerted)
without c account ending.Arrived cause e = absurd (let some = has-decision (first_decision (services_on_arrival c account)) account.live None cause e in cc)
without c account (ending.UserBusy code) cause e = absurd (has-rules (due_on c event.Busy account.sheet) (causes.Relayed code) cause e)
without c account (ending.NotReachable code) cause e = absurd (has-rules (due_on c event.NotReachable account.sheet) (causes.Unreachable code) cause e)
without c account ending.NoReply cause e = absurd (has-rules (due_on c event.NoAnswer account.sheet) causes.NoReply cause e)
without c account (ending.Deflected alerted) cause e = (alerted, refl)
without c account (ending.Other code) cause e = absurd cc

pub diversions_have_forwards : DiversionsHaveForwards
diversions_have_forwards = record {
  targets = λ call endings. led-opened call endings (refusal_at_opening call);
  later = λ call endings. later-opened call endings (refusal_at_opening call);
  on_arrival = λ c account. has-decision (first_decision (services_on_arrival c account)) account.live;
  without = without;
}

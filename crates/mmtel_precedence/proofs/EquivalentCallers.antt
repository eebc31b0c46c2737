-- Equivalent callers: the outcome depends on the truth values of identity parts alone.
use Rattle.std.proofs.Common.{◌≡◌, ℕ, zero, suc, ◌+◌, ◌-◌, Bool, List, [], ◌∷◌, ◌++◌, refl, ap, ◌∙◌}
use Rattle.std.specs.Prelude.{Option, Some, None, not, option_and_then, slice_get, if◌then◌else◌, is_none}
use Rattle.std.specs.Option.{option_map, option_map_or}
use Rattle.mmtel_types.specs.declared.causes.Cause.{Cause}
use Rattle.mmtel_types.specs.declared.causes.Cause.TheVariants as causes
use Rattle.mmtel_lex.specs.declared.values.Uri.{Uri}
use Rattle.mmtel_sheet_values.specs.declared.values.DiversionPart.{DiversionPart}
use Rattle.mmtel_sheet_values.specs.declared.values.Rule.{Rule}
use Rattle.mmtel_sheet_values.specs.declared.values.Sheet.{Sheet}
use Rattle.mmtel_sheet_values.specs.declared.values.Who.{Who}
use Rattle.mmtel_rules.specs.IdentityParts.{MatchEqually, identity_parts}
use Rattle.mmtel_rules.specs.Facts.{FactsView, with_identity_matches}
use Rattle.mmtel_rules.specs.Identities.{identity_holds, has_identity}
use Rattle.mmtel_rules.specs.Rules.{first_that_holds, is_barred}
use Rattle.mmtel_rules.specs.declared.values.When.{When}
use Rattle.mmtel_rules.specs.declared.values.When.TheVariants as event
use Rattle.mmtel_diversion.specs.Diversion.{diversion_among, diversion_by}
use Rattle.mmtel_waiting.specs.Waiting.{is_busy}
use Rattle.mmtel_barring.specs.Barring.{rules_of}
use Rattle.mmtel_precedence.specs.Services.{ServedAccountView, DueDiversionView, ServiceDecision, Nothing, Refuses, Diverts, refuses_if, diverts_by}
use Rattle.mmtel_precedence.specs.Services.{first_decision, own_bound, due_of, is_reached, due_on, rejects_anonymous, bars_incoming, services_on_arrival}
use Rattle.mmtel_precedence.specs.Calls.{refused_outcome, AttemptEndView, Answer, Cancel, Unacknowledged, UserBusy, NotReachable}
use Rattle.mmtel_precedence.specs.Calls.{NoReply, Deflection, Other, EndedAttempt, ReachedTargetView, CallInputs, OutcomeTarget, Outcome}
use Rattle.mmtel_precedence.specs.Opening.{refusal_at_opening}
use Rattle.mmtel_served_user.specs.Targets.{new_target}
use Rattle.mmtel_precedence.specs.Targets.{TargetOutcome, Rests, IsDue, reached_target_after, caller_facts, decision_on_arrival, due_at}
use Rattle.mmtel_precedence.specs.Targets.{outcome_of_diversion_or, target_outcome_on, target_outcome_at, target_outcome_after, target_at, offer_by}
use Rattle.mmtel_precedence.specs.Outcome.{outcome_from, outcome}
use Rattle.mmtel_precedence.specs.Verdicts.{decision_by, forwards_or}
use Rattle.mmtel_precedence.specs.declared.endings.Ending.TheVariants as endings
use Rattle.mmtel_precedence.specs.Theorems.{diversion_rules, MatchRulesEqually, EquivalentCallersSameOutcome, VerdictsDependOnMatches}
use Rattle.mmtel_precedence.proofs.Accounts.{account_decisions}
use Rattle.mmtel_precedence.proofs.TargetOutcomes.{from_next, refused_for, unless_reached, go_further}

-- the theorems of the crates below about equivalent callers
abbrev pub FirstIsSame : Type 0
FirstIsSame = (asks asks2 : Who → Bool) (c : FactsView) (when : When) (rules : List Rule) → MatchEqually asks asks2 (identity_parts rules) →
    first_that_holds (with_identity_matches c asks) when rules ≡ first_that_holds (with_identity_matches c asks2) when rules

abbrev pub BarsSame : Type 0
BarsSame = (asks asks2 : Who → Bool) (c : FactsView) (rules : List Rule) → MatchEqually asks asks2 (identity_parts rules) → is_barred (with_identity_matches c asks) rules ≡ is_barred (with_identity_matches c asks2) rules

-- the call, with these truth values
abbrev call_with_matches : CallInputs → (Who → Bool) → CallInputs
call_with_matches call asks = record call { identity_matches = asks }

diversion-alike : FirstIsSame → (asks asks2 : Who → Bool) (c : FactsView) (when : When) (part : Option DiversionPart) → MatchEqually asks asks2 (identity_parts (diversion_rules part)) →
    option_and_then (λ (p : DiversionPart). diversion_among (with_identity_matches c asks) when p.rules) part ≡ option_and_then (λ (p : DiversionPart). diversion_among (with_identity_matches c asks2) when p.rules) part
diversion-alike first asks asks2 c when None h = refl
diversion-alike first asks asks2 c when (Some part) h =
    ap (λ (found : Option ℕ). option_and_then (λ place. option_and_then (diversion_by place) (slice_get part.rules place)) found) (first asks asks2 c when part.rules h)

due_on-alike : FirstIsSame → (asks asks2 : Who → Bool) (c : FactsView) (when : When) (sheet : Sheet) → MatchRulesEqually sheet asks asks2 →
    due_on (with_identity_matches c asks) when sheet ≡ due_on (with_identity_matches c asks2) when sheet
due_on-alike first asks asks2 c when sheet h = ap (option_map (due_of (own_bound sheet))) (diversion-alike first asks asks2 c when sheet.diversion h.diversion)

-- the services, by what depends on the truth values
services_by : FactsView → ServedAccountView → Bool → Option DueDiversionView → Option DueDiversionView → List ServiceDecision
services_by c account barred on_arrival when_busy =
    refuses_if (rejects_anonymous c account.sheet) causes.AnonymousRejected
    ∷ refuses_if barred causes.IncomingBarred
    ∷ diverts_by on_arrival
    ∷ refuses_if (not account.registered) causes.NotRegistered
    ∷ diverts_by (if is_busy account.live account.sheet then when_busy else None)
    ∷ refuses_if (is_busy account.live account.sheet) causes.NetworkBusy
    ∷ []

services-alike : FirstIsSame → BarsSame → (asks asks2 : Who → Bool) (c : FactsView) (account : ServedAccountView) → MatchRulesEqually account.sheet asks asks2 →
    services_on_arrival (with_identity_matches c asks) account ≡ services_on_arrival (with_identity_matches c asks2) account
unfolding services_by
services-alike first bars asks asks2 c account h =
    ap (λ barred. services_by c account barred (due_on (with_identity_matches c asks) (event.Arrival account.registered) account.sheet) (due_on (with_identity_matches c asks) event.Busy account.sheet))
    (bars asks asks2 c (rules_of account.sheet.incoming) h.incoming)
    ∙ ap (λ due. services_by c account (bars_incoming (with_identity_matches c asks2) account.sheet) due (due_on (with_identity_matches c asks) event.Busy account.sheet))
    (due_on-alike first asks asks2 c (event.Arrival account.registered) account.sheet h)
    ∙ ap (λ due. services_by c account (bars_incoming (with_identity_matches c asks2) account.sheet) (due_on (with_identity_matches c asks2) (event.Arrival account.registered) account.sheet) due)
    (due_on-alike first asks asks2 c event.Busy account.sheet h)

-- the truth values are the same for the account that is served, if one is
abbrev MatchEquallyAt : (asks asks2 : Who → Bool) → Option ServedAccountView → Type 0
MatchEquallyAt asks asks2 None = Unit {0}
MatchEquallyAt asks asks2 (Some account) = MatchRulesEqually account.sheet asks asks2

alike-at : (asks asks2 : Who → Bool) (served : Option ServedAccountView) → ((account : ServedAccountView) → served ≡ Some account → MatchRulesEqually account.sheet asks asks2) → MatchEquallyAt asks asks2 served
alike-at asks asks2 None h = tt
alike-at asks asks2 (Some account) h = h account refl

account_says-alike : FirstIsSame → BarsSame → (asks asks2 : Who → Bool) (c : FactsView) (served : Option ServedAccountView) → MatchEquallyAt asks asks2 served →
    account_decisions (with_identity_matches c asks) served ≡ account_decisions (with_identity_matches c asks2) served
account_says-alike first bars asks asks2 c None h = refl
account_says-alike first bars asks asks2 c (Some account) h = services-alike first bars asks asks2 c account h

said-alike : FirstIsSame → BarsSame → (asks asks2 : Who → Bool) (call : CallInputs) (k : ℕ) (reach : ReachedTargetView) → MatchEquallyAt asks asks2 reach.served →
    decision_on_arrival (call_with_matches call asks) k reach ≡ decision_on_arrival (call_with_matches call asks2) k reach
said-alike first bars asks asks2 call k reach h =
    ap (λ says. first_decision (says ++ refuses_if reach.is_unknown causes.NoAccount ∷ refuses_if (is_none reach.peer) causes.NoRoute ∷ []))
    (account_says-alike first bars asks asks2 (caller_facts call k reach.at) reach.served h)

due_at-alike : FirstIsSame → (asks asks2 : Who → Bool) (c : FactsView) (when : When) (served : Option ServedAccountView) → MatchEquallyAt asks asks2 served →
    due_at (with_identity_matches c asks) when served ≡ due_at (with_identity_matches c asks2) when served
due_at-alike first asks asks2 c when None h = refl
due_at-alike first asks asks2 c when (Some account) h = due_on-alike first asks asks2 c when account.sheet h

next_on-alike : FirstIsSame → (asks asks2 : Who → Bool) (call : CallInputs) (k : ℕ) (served : Option ServedAccountView) (now : ℕ) (how : AttemptEndView) (later : List EndedAttempt) →
    MatchEquallyAt asks asks2 served → target_outcome_on (call_with_matches call asks) k served now how later ≡ target_outcome_on (call_with_matches call asks2) k served now how later
next_on-alike first asks asks2 call k served now Answer later h = refl
next_on-alike first asks asks2 call k served now Cancel later h = refl
next_on-alike first asks asks2 call k served now Unacknowledged later h = refl
next_on-alike first asks asks2 call k served now (UserBusy code) later h =
    ap (λ due. outcome_of_diversion_or call served now due (causes.Relayed code) later) (due_at-alike first asks asks2 (caller_facts call k now) event.Busy served h)
next_on-alike first asks asks2 call k served now (NotReachable code) later h =
    ap (λ due. outcome_of_diversion_or call served now due (causes.Unreachable code) later) (due_at-alike first asks asks2 (caller_facts call k now) event.NotReachable served h)
next_on-alike first asks asks2 call k served now NoReply later h =
    ap (λ due. outcome_of_diversion_or call served now due causes.NoReply later) (due_at-alike first asks asks2 (caller_facts call k now) event.NoAnswer served h)
next_on-alike first asks asks2 call k served now (Deflection target rang) later h = ap (λ due. outcome_of_diversion_or call served now due (causes.Relayed 480) later) refl
next_on-alike first asks asks2 call k served now (Other code) later h = refl

-- the outcome at a target, by the decision
next_at-alike : FirstIsSame → (asks asks2 : Who → Bool) (says : ServiceDecision) (call : CallInputs) (k : ℕ) (reach : ReachedTargetView) (endings : List EndedAttempt) →
    MatchEquallyAt asks asks2 reach.served → target_outcome_at says (call_with_matches call asks) k reach endings ≡ target_outcome_at says (call_with_matches call asks2) k reach endings
next_at-alike first asks asks2 Nothing call k reach [] h = refl
next_at-alike first asks asks2 Nothing call k reach (ended ∷ later) h = next_on-alike first asks asks2 call k reach.served ended.at ended.how later h
next_at-alike first asks asks2 (Refuses cause) call k reach endings h = refl
next_at-alike first asks asks2 (Diverts due) call k reach endings h = refl

next-alike : FirstIsSame → BarsSame → (asks asks2 : Who → Bool) (call : CallInputs) (k : ℕ) (uri : Uri) (by : Option DueDiversionView) (endings : List EndedAttempt) →
    MatchEquallyAt asks asks2 (reached_target_after call k uri by).served →
    target_outcome_after (call_with_matches call asks) k uri by endings ≡ target_outcome_after (call_with_matches call asks2) k uri by endings
next-alike first bars asks asks2 call k uri by endings h =
    ap (λ says. target_outcome_at says (call_with_matches call asks) k (reached_target_after call k uri by) endings) (said-alike first bars asks asks2 call k (reached_target_after call k uri by) h)
    ∙ next_at-alike first asks asks2 (decision_on_arrival (call_with_matches call asks2) k (reached_target_after call k uri by)) call k (reached_target_after call k uri by) endings h

target-alike : FirstIsSame → BarsSame → (asks asks2 : Who → Bool) (call : CallInputs) (k : ℕ) (uri : Uri) (by : Option DueDiversionView) →
    MatchEquallyAt asks asks2 (reached_target_after call k uri by).served → target_at (call_with_matches call asks) k uri by ≡ target_at (call_with_matches call asks2) k uri by
target-alike first bars asks asks2 call k uri by h =
    ap (λ said. record { uri = uri; diversion = by; offer = offer_by said (reached_target_after call k uri by).served }) (said-alike first bars asks asks2 call k (reached_target_after call k uri by) h)

-- at a target, where the outcome of each diversion is the same
from_next-same : (target : OutcomeTarget) (onward onward2 : DueDiversionView → List EndedAttempt → Outcome) →
    ((due : DueDiversionView) (later : List EndedAttempt) → onward due later ≡ onward2 due later) → (next : TargetOutcome) → from_next target onward next ≡ from_next target onward2 next
from_next-same target onward onward2 same (Rests result) = refl
from_next-same target onward onward2 same (IsDue due later) = same due later

outcome_from-alike : FirstIsSame → BarsSame → (asks asks2 : Who → Bool) (call : CallInputs) → ((k : ℕ) (uri : Uri) (by : Option DueDiversionView) → MatchEquallyAt asks asks2 (reached_target_after call k uri by).served) →
    (left k : ℕ) (uri : Uri) (by : Option DueDiversionView) (endings : List EndedAttempt) →
    outcome_from (call_with_matches call asks) left k uri by endings ≡ outcome_from (call_with_matches call asks2) left k uri by endings
unfolding outcome_from
outcome_from-alike first bars asks asks2 call h zero k uri by endings =
    ap (λ target. from_next target (λ due later. refused_for target due) (target_outcome_after (call_with_matches call asks) k uri by endings)) (target-alike first bars asks asks2 call k uri by (h k uri by))
    ∙ ap (λ next. from_next (target_at (call_with_matches call asks2) k uri by) (λ due later. refused_for (target_at (call_with_matches call asks2) k uri by) due) next)
    (next-alike first bars asks asks2 call k uri by endings (h k uri by))
outcome_from-alike first bars asks asks2 call h (suc left) k uri by endings =
    ap (λ target. from_next target (λ due later. go_further (call_with_matches call asks) left k target due later) (target_outcome_after (call_with_matches call asks) k uri by endings))
    (target-alike first bars asks asks2 call k uri by (h k uri by))
    ∙ ap (λ next. from_next (target_at (call_with_matches call asks2) k uri by) (λ due later. go_further (call_with_matches call asks) left k (target_at (call_with_matches call asks2) k uri by) due later) next)
    (next-alike first bars asks asks2 call k uri by endings (h k uri by))
    ∙ from_next-same (target_at (call_with_matches call asks2) k uri by) _ _
    (λ due later. ap (unless_reached (is_reached due.bound (call.received + k)) (target_at (call_with_matches call asks2) k uri by) due)
    (outcome_from-alike first bars asks asks2 call h left (k + 1) (new_target call.home due.forward.target) (Some due) later)) (target_outcome_after (call_with_matches call asks2) k uri by endings)

-- by the refusal at the opening
opened-alike : FirstIsSame → BarsSame → (asks asks2 : Who → Bool) (call : CallInputs) → ((k : ℕ) (uri : Uri) (by : Option DueDiversionView) → MatchEquallyAt asks asks2 (reached_target_after call k uri by).served) →
    (refusal : Option Cause) (endings : List EndedAttempt) →
    option_map_or refused_outcome refusal (outcome_from (call_with_matches call asks) (call.bound - call.received) 0 call.first_target None endings)
    ≡ option_map_or refused_outcome refusal (outcome_from (call_with_matches call asks2) (call.bound - call.received) 0 call.first_target None endings)
opened-alike first bars asks asks2 call h refusal endings =
    ap (λ onward. option_map_or refused_outcome refusal onward) (outcome_from-alike first bars asks asks2 call h (call.bound - call.received) 0 call.first_target None endings)

pub equivalent_callers : FirstIsSame → BarsSame → EquivalentCallersSameOutcome
equivalent_callers first bars one other call endings known h =
    ap (λ (b : Bool). outcome (record call { identity_matches = identity_holds one; has_identity = b }) endings) known
    ∙ opened-alike first bars (identity_holds one) (identity_holds other) (record call { has_identity = has_identity other })
    (λ k uri by. alike-at (identity_holds one) (identity_holds other) (reached_target_after call k uri by).served (h k uri by)) (refusal_at_opening call) endings

pub verdicts-alike : FirstIsSame → BarsSame → VerdictsDependOnMatches
verdicts-alike first bars asks asks2 c account endings.Arrived h = ap (λ (says : List ServiceDecision). decision_by (first_decision says) account.live) (services-alike first bars asks asks2 c account h)
verdicts-alike first bars asks asks2 c account (endings.UserBusy code) h = ap (λ (due : Option DueDiversionView). forwards_or due (causes.Relayed code)) (due_on-alike first asks asks2 c event.Busy account.sheet h)
verdicts-alike first bars asks asks2 c account (endings.NotReachable code) h =
    ap (λ (due : Option DueDiversionView). forwards_or due (causes.Unreachable code)) (due_on-alike first asks asks2 c event.NotReachable account.sheet h)
verdicts-alike first bars asks asks2 c account endings.NoReply h = ap (λ (due : Option DueDiversionView). forwards_or due causes.NoReply) (due_on-alike first asks asks2 c event.NoAnswer account.sheet h)
verdicts-alike first bars asks asks2 c account (endings.Deflected alerted) h = refl
verdicts-alike first bars asks asks2 c account (endings.Other code) h = refl

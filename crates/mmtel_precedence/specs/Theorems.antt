-- The theorems about precedence, in the terms of the standards.
use Rattle.std.specs.Prelude.{◌≡◌, ◌↔◌, ◌≤◌, ◌<◌, ℕ, zero, suc, ◌+◌, ◌==◌, max, Bool, true, false, List, [], ◌∷◌, length, Option, Some, None, is_some, IsSome}
use Rattle.std.specs.Prelude.{count_by, option_and_then}
use Rattle.std.specs.List.{AllByRecursion}
use Rattle.mmtel_types.specs.declared.causes.Cause.TheVariants as causes
use Rattle.mmtel_lex.specs.declared.values.Uri.{Uri}
use Rattle.mmtel_sheet_values.specs.declared.values.DiversionPart.{DiversionPart}
use Rattle.mmtel_sheet_values.specs.declared.values.Forward.{Forward}
use Rattle.mmtel_sheet_values.specs.declared.values.Rule.{Rule}
use Rattle.mmtel_sheet_values.specs.declared.values.Sheet.{Sheet}
use Rattle.mmtel_sheet_values.specs.declared.values.Who.{Who}
use Rattle.mmtel_rules.specs.IdentityParts.{MatchEqually, identity_parts}
use Rattle.mmtel_rules.specs.Facts.{FactsView, with_identity_matches}
use Rattle.mmtel_rules.specs.Identities.{identity_holds, has_identity}
use Rattle.mmtel_rules.specs.declared.values.Identities2.{Identities2}
use Rattle.mmtel_barring.specs.Barring.{rules_of}
use Rattle.mmtel_precedence.specs.declared.endings.Ending.{Ending}
use Rattle.mmtel_precedence.specs.declared.endings.Ending.TheVariants as ending
use Rattle.mmtel_precedence.specs.Services.{ServedAccountView, DueDiversionView, bound_of, rejects_anonymous, bars_incoming}
use Rattle.mmtel_precedence.specs.Verdicts.{Ends, Forwards, verdict_of}
use Rattle.mmtel_precedence.specs.Calls.{SnapshotView, CallInputs, EndedAttempt, OutcomeTarget, NotOffered, Final, Outcome, outcome_at_last_target}
use Rattle.mmtel_precedence.specs.Opening.{refusal_at_opening}
use Rattle.mmtel_served_user.specs.Targets.{new_target}
use Rattle.mmtel_precedence.specs.Targets.{TargetOutcome, Rests, IsDue, target_outcome_after, caller_facts, reached_target_after}
use Rattle.mmtel_precedence.specs.Outcome.{outcome_from, outcome}

-- ---- barring comes before diversion, and anonymous communication rejection before both: whatever the other rules of the account, its registration and its live calls are

pub record BarringComesFirst : Type 0 where
  -- of the decision
  pub anonymous : (c : FactsView) (account : ServedAccountView) → rejects_anonymous c account.sheet ≡ true → verdict_of c account ending.Arrived ≡ Ends causes.AnonymousRejected
  pub barred : (c : FactsView) (account : ServedAccountView) → rejects_anonymous c account.sheet ≡ false → bars_incoming c account.sheet ≡ true →
      verdict_of c account ending.Arrived ≡ Ends causes.IncomingBarred
  -- and of the outcome at each target: it is the last one, and the call is not offered to it
  pub anonymous_at : (call : CallInputs) (left k : ℕ) (uri : Uri) (by : Option DueDiversionView) (endings : List EndedAttempt) (account : ServedAccountView) →
      (reached_target_after call k uri by).served ≡ Some account → rejects_anonymous (caller_facts call k (reached_target_after call k uri by).at) account.sheet ≡ true →
      outcome_from call left k uri by endings ≡ outcome_at_last_target (record { uri = uri; diversion = by; offer = NotOffered }) (Final causes.AnonymousRejected)
  pub barred_at : (call : CallInputs) (left k : ℕ) (uri : Uri) (by : Option DueDiversionView) (endings : List EndedAttempt) (account : ServedAccountView) →
      (reached_target_after call k uri by).served ≡ Some account → rejects_anonymous (caller_facts call k (reached_target_after call k uri by).at) account.sheet ≡ false →
      bars_incoming (caller_facts call k (reached_target_after call k uri by).at) account.sheet ≡ true →
      outcome_from call left k uri by endings ≡ outcome_at_last_target (record { uri = uri; diversion = by; offer = NotOffered }) (Final causes.IncomingBarred)

-- ---- the bound

-- the target was reached by a diversion
abbrev pub is_diverted_to : OutcomeTarget → Bool
is_diverted_to target = is_some target.diversion

-- the diversions that were made
abbrev pub diversions_made : Outcome → ℕ
diversions_made o = count_by is_diverted_to o.targets

-- the diversions that the call came with and those that were made are together at most the bound, or the number that the call came with where that is greater
abbrev pub StaysWithinBound : Type 0
StaysWithinBound = (call : CallInputs) (endings : List EndedAttempt) → call.received + diversions_made (outcome call endings) ≤ max call.bound call.received

-- a diversion that is due and that outgoing barring does not refuse, and the endings that come after it
pub record UnbarredDiversion : Type 0 where
  pub due : DueDiversionView
  pub remaining : List EndedAttempt

abbrev pub unbarred_diversion_by : TargetOutcome → Option UnbarredDiversion
unbarred_diversion_by (Rests result) = None
unbarred_diversion_by (IsDue due later) = Some (record { due = due; remaining = later })

-- the diversion that is due after j more, beginning at the target that is reached after k, if there were no bound
unfoldable pub unbarred_diversion_from : CallInputs → (j : ℕ) → (k : ℕ) → Uri → Option DueDiversionView → List EndedAttempt → Option UnbarredDiversion
unbarred_diversion_from call zero k uri by endings = unbarred_diversion_by (target_outcome_after call k uri by endings)
unbarred_diversion_from call (suc j) k uri by endings =
    option_and_then (λ passed. unbarred_diversion_from call j (k + 1) (new_target call.home passed.due.forward.target) (Some passed.due) passed.remaining)
    (unbarred_diversion_by (target_outcome_after call k uri by endings))

-- the diversion that is due after so many
abbrev pub unbarred_diversion_after : CallInputs → ℕ → List EndedAttempt → Option UnbarredDiversion
unbarred_diversion_after call j endings = unbarred_diversion_from call j 0 call.first_target None endings

-- a call that is not refused at its opening
abbrev pub IsOpened : CallInputs → Type 0
IsOpened call = refusal_at_opening call ≡ None

-- the call came with so many, and so many were made, and this diversion's bound allows one more
abbrev pub IsBelowBound : CallInputs → (k : ℕ) → UnbarredDiversion → Type 0
IsBelowBound call k passed = call.received + k < bound_of call.bound passed.due.bound

-- a diversion that is due, and that outgoing barring does not refuse, is made exactly below its bound; exactly at its bound the call is refused for too many, as busy exactly where
-- that diversion is for a busy user. The diversion that is due after so many is defined for as many as were made
pub record IsBoundExact : Type 0 where
  pub made : (call : CallInputs) (endings : List EndedAttempt) (k : ℕ) → IsOpened call → k ≤ diversions_made (outcome call endings) →
      (k < diversions_made (outcome call endings)) ↔ ((passed : UnbarredDiversion) × (unbarred_diversion_after call k endings ≡ Some passed) × IsBelowBound call k passed)
  pub refused : (call : CallInputs) (endings : List EndedAttempt) (busy : Bool) → IsOpened call →
      ((outcome call endings).result ≡ Final (causes.TooManyDiversions busy))
      ↔ ((passed : UnbarredDiversion) × (unbarred_diversion_after call (diversions_made (outcome call endings)) endings ≡ Some passed)
      × (IsBelowBound call (diversions_made (outcome call endings)) passed → ⊥) × (busy ≡ (passed.due.cause == 486)))

-- ---- equivalent callers

-- the rules of a diversion part; none where diversion is not active
abbrev pub diversion_rules : Option DiversionPart → List Rule
diversion_rules None = []
diversion_rules (Some part) = part.rules

-- each identity part of the rules that the account evaluates for its callers has the same truth value for both callers
pub record MatchRulesEqually (sheet : Sheet) (asks asks2 : Who → Bool) : Type 0 where
  pub diversion : MatchEqually asks asks2 (identity_parts (diversion_rules sheet.diversion))
  pub incoming : MatchEqually asks asks2 (identity_parts (rules_of sheet.incoming))

-- the same call, from this caller
abbrev pub with_caller : Identities2 → CallInputs → CallInputs
with_caller caller call = record call { identity_matches = identity_holds caller; has_identity = has_identity caller }

-- the outcome is the same for two callers for which the identity parts of the rules of each served account have the same truth values, and of whom both or neither have an identity
abbrev pub EquivalentCallersSameOutcome : Type 0
EquivalentCallersSameOutcome = (one other : Identities2) (call : CallInputs) (endings : List EndedAttempt) →
    has_identity one ≡ has_identity other →
    ((k : ℕ) (uri : Uri) (by : Option DueDiversionView) (account : ServedAccountView) →
    (reached_target_after call k uri by).served ≡ Some account → MatchRulesEqually account.sheet (identity_holds one) (identity_holds other)) →
    outcome (with_caller one call) endings ≡ outcome (with_caller other call) endings

-- of a caller a verdict depends on whether it has an identity, whether it hides it, and the truth values of the identity parts of the rules that the account evaluates for its
-- callers; and on nothing else
abbrev pub VerdictsDependOnMatches : Type 0
VerdictsDependOnMatches = (asks asks2 : Who → Bool) (c : FactsView) (account : ServedAccountView) (how : Ending) →
    MatchRulesEqually account.sheet asks asks2 →
    verdict_of (with_identity_matches c asks) account how ≡ verdict_of (with_identity_matches c asks2) account how

-- ---- only targets that are reached count

-- the same call, with these states at the targets of its diversions
abbrev pub with_later_snapshots : (ℕ → SnapshotView) → CallInputs → CallInputs
with_later_snapshots other call = record call { later_snapshots = other }

-- the outcome is the same where the states at the targets that the call reaches are the same: it does not depend on the states at targets that the call does not reach
abbrev pub OnlyReachedTargetsCount : Type 0
OnlyReachedTargetsCount = (call : CallInputs) (endings : List EndedAttempt) (other : ℕ → SnapshotView) →
    ((k : ℕ) → suc k < length (outcome call endings).targets → call.later_snapshots k ≡ other k) →
    outcome (with_later_snapshots other call) endings ≡ outcome call endings

-- ---- the diversion that led to a target

-- the target of the diversion; without one, the first target of the call
abbrev pub target_of_diversion : CallInputs → Option DueDiversionView → Uri
target_of_diversion call None = call.first_target
target_of_diversion call (Some due) = new_target call.home due.forward.target

-- the targets but the first
abbrev pub targets_after_first : List OutcomeTarget → List OutcomeTarget
targets_after_first [] = []
targets_after_first (target ∷ later) = later

pub record DiversionsHaveForwards : Type 0 where
  -- each target is the one to which the forward of its diversion leads
  pub targets : (call : CallInputs) (endings : List EndedAttempt) →
      AllByRecursion (λ (target : OutcomeTarget). target.uri ≡ target_of_diversion call target.diversion) (outcome call endings).targets
  -- only the first target is reached without one
  pub later : (call : CallInputs) (endings : List EndedAttempt) →
      AllByRecursion (λ (target : OutcomeTarget). IsSome target.diversion) (targets_after_first (outcome call endings).targets)
  -- the decision to divert a call that arrives has its forward, and only that on a deflection has none
  pub on_arrival : (c : FactsView) (account : ServedAccountView) (forward : Option Forward) (cause : ℕ) → verdict_of c account ending.Arrived ≡ Forwards forward cause →
      IsSome forward
  pub without : (c : FactsView) (account : ServedAccountView) (how : Ending) (cause : ℕ) → verdict_of c account how ≡ Forwards None cause →
      (alerted : Bool) × (how ≡ ending.Deflected alerted)

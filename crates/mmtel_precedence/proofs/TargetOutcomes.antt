-- An outcome by the outcome at a target.
use Rattle.std.proofs.Common.{ℕ, ◌+◌, ◌==◌, Bool, true, false, List}
use Rattle.std.specs.Prelude.{Some, if◌then◌else◌}
use Rattle.mmtel_types.specs.declared.causes.Cause.TheVariants as causes
use Rattle.mmtel_precedence.specs.Services.{DueDiversionView, is_reached}
use Rattle.mmtel_precedence.specs.Calls.{CallInputs, EndedAttempt, OutcomeTarget, Final, Outcome, outcome_at_last_target, outcome_after_target}
use Rattle.mmtel_served_user.specs.Targets.{new_target}
use Rattle.mmtel_precedence.specs.Targets.{TargetOutcome, Rests, IsDue}
use Rattle.mmtel_precedence.specs.Outcome.{outcome_from}

-- the target is the last, or this is the outcome of the diversion that is due
abbrev pub from_next : OutcomeTarget → (onward : DueDiversionView → List EndedAttempt → Outcome) → TargetOutcome → Outcome
from_next target onward (Rests result) = outcome_at_last_target target result
from_next target onward (IsDue due later) = onward due later

-- the diversion that is due refuses the call
abbrev pub refused_for : OutcomeTarget → DueDiversionView → Outcome
refused_for target due = outcome_at_last_target target (Final (causes.TooManyDiversions (due.cause == 486)))

-- it does where the bound is reached, else this follows the target
abbrev pub unless_reached : Bool → OutcomeTarget → DueDiversionView → Outcome → Outcome
unless_reached stops target due outcome = if stops then refused_for target due else outcome_after_target target outcome

pub unless_reached-cases : (P : Outcome → Type 0) (stops : Bool) (target : OutcomeTarget) (due : DueDiversionView) (outcome : Outcome) →
    P (refused_for target due) → P (outcome_after_target target outcome) → P (unless_reached stops target due outcome)
unless_reached-cases P true target due outcome refused behind = refused
unless_reached-cases P false target due outcome refused behind = behind

-- the outcome of a diversion that is due after k others, where it and so many after it are left below the configured bound
abbrev pub after_due : CallInputs → (left k : ℕ) → DueDiversionView → List EndedAttempt → Outcome
after_due call left k due later = outcome_from call left (k + 1) (new_target call.home due.forward.target) (Some due) later

abbrev pub go_further : CallInputs → (left k : ℕ) → OutcomeTarget → DueDiversionView → List EndedAttempt → Outcome
go_further call left k target due later = unless_reached (is_reached due.bound (call.received + k)) target due (after_due call left k due later)

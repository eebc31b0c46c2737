-- The decisions on a call do not depend on the caller's identity, beyond the results of the rules on it.
use Rattle.std.proofs.Common.{◌≡◌, ℕ, Bool, true, false, refl, ap, sym, ◌∙◌, List, Option, Some, None}
use Rattle.std.specs.Option.{option_map}
use Rattle.mmtel_diversion.specs.Diversion.{ChosenDiversion, diversion_of}
use Rattle.mmtel_precedence.specs.Calls.{Answer, AttemptEndView, Cancel, Deflection, NoReply, NotReachable, Other, ReachedTargetView, Unacknowledged, UserBusy}
use Rattle.mmtel_precedence.specs.Theorems.{VerdictsDependOnMatches}
use Rattle.mmtel_precedence.specs.Moves.{account_at}
use Rattle.mmtel_precedence.specs.Services.{ServedAccountView, due_of, own_bound}
use Rattle.mmtel_precedence.specs.NextSteps.{EndAnswered, EndDivert, EndRefuse, StepAfterAttemptView, divert_or_refuse, next_step_at, next_step_by, step_after_attempt}
use Rattle.mmtel_precedence.specs.Verdicts.{Decision, Ends, Forwards, Offers, forwards_or, verdict_of}
use Rattle.mmtel_precedence.specs.declared.endings.Ending.{Ending}
use Rattle.mmtel_precedence.specs.declared.endings.Ending.TheVariants as ending
use Rattle.mmtel_rules.specs.Facts.{FactsView}
use Rattle.mmtel_rules.specs.Identities.{has_identity, identity_holds}
use Rattle.mmtel_rules.specs.declared.values.Identities2.{Identities2}
use Rattle.mmtel_rules.specs.declared.values.When.TheVariants as event
use Rattle.mmtel_sheet_values.specs.declared.values.Sheet.{Sheet}
use Rattle.mmtel_types.specs.declared.causes.Cause.{Cause}
use Rattle.mmtel_types.specs.declared.causes.Cause.TheVariants as causes
use Rattle.mmtel_call_services.specs.Decisions.{call_facts}
use Rattle.mmtel_call_services.specs.declared.openings.Opening.{Opening}
use Rattle.mmtel_call_theorems.specs.Noninterference.Premises.{AreDecidedEqually, IsAmong}

module _ (law : VerdictsDependOnMatches) (records : List Sheet) (one other : Identities2) (alike : AreDecidedEqually records one other) (o : Opening) (at : ℕ) (diverted : Bool) where
  -- with the identity of the other caller, or none
  abbrev half : FactsView
  half = record (call_facts one o at diverted false) { has_identity = has_identity other }

  half_same : call_facts one o at diverted false ≡ half
  half_same = ap (λ (b : Bool). record (call_facts one o at diverted false) { has_identity = b }) alike.somebody

  verdict_same : (account : ServedAccountView) (how : Ending) → IsAmong records account.sheet → verdict_of (call_facts one o at diverted false) account how ≡ verdict_of (call_facts other o at diverted false) account how
  verdict_same account how is =
      ap (λ (c : FactsView). verdict_of c account how) half_same
      ∙ law (identity_holds one) (identity_holds other) half account how (alike.matches account.sheet is)

  pub next_step_same : (reach : ReachedTargetView) → IsAmong records (account_at reach).sheet → next_step_at (call_facts one o at diverted false) reach ≡ next_step_at (call_facts other o at diverted false) reach
  next_step_same reach is = ap (λ (d : Decision). next_step_by d (own_bound (account_at reach).sheet) reach.is_unknown reach.peer) (verdict_same (account_at reach) ending.Arrived is)

  -- what follows from a decision after an attempt, under a record with this bound
  abbrev after_of : (bound : Option ℕ) → Decision → StepAfterAttemptView
  after_of bound (Offers waiting) = EndAnswered
  after_of bound (Forwards None cause) = EndAnswered
  after_of bound (Forwards (Some forward) cause) = EndDivert (record { forward = forward; cause = cause; bound = bound })
  after_of bound (Ends cause) = EndRefuse cause

  after_forwards : (bound : Option ℕ) (chosen : Option ChosenDiversion) (cause : Cause) →
      after_of bound (forwards_or (option_map (due_of bound) chosen) cause) ≡ divert_or_refuse (option_map (due_of bound) chosen) cause
  after_forwards bound None cause = refl
  after_forwards bound (Some chosen) cause = refl

  abbrev account_of : Sheet → ServedAccountView
  account_of sheet = record { sheet = sheet; registered = true; live = 0 }

  pub next_step_on_same : (sheet : Option Sheet) (how : AttemptEndView) → ((s : Sheet) → sheet ≡ Some s → IsAmong records s) →
      step_after_attempt (call_facts one o at diverted false) sheet how ≡ step_after_attempt (call_facts other o at diverted false) sheet how
  next_step_on_same sheet Answer is = refl
  next_step_on_same sheet Cancel is = refl
  next_step_on_same sheet Unacknowledged is = refl
  next_step_on_same None (UserBusy code) is = refl
  next_step_on_same (Some s) (UserBusy code) is =
      sym (after_forwards (own_bound s) (diversion_of (call_facts one o at diverted false) event.Busy s) (causes.Relayed code))
      ∙ (ap (after_of (own_bound s)) (verdict_same (account_of s) (ending.UserBusy code) (is s refl))
      ∙ after_forwards (own_bound s) (diversion_of (call_facts other o at diverted false) event.Busy s) (causes.Relayed code))
  next_step_on_same None (NotReachable code) is = refl
  next_step_on_same (Some s) (NotReachable code) is =
      sym (after_forwards (own_bound s) (diversion_of (call_facts one o at diverted false) event.NotReachable s) (causes.Unreachable code))
      ∙ (ap (after_of (own_bound s)) (verdict_same (account_of s) (ending.NotReachable code) (is s refl))
      ∙ after_forwards (own_bound s) (diversion_of (call_facts other o at diverted false) event.NotReachable s) (causes.Unreachable code))
  next_step_on_same None NoReply is = refl
  next_step_on_same (Some s) NoReply is =
      sym (after_forwards (own_bound s) (diversion_of (call_facts one o at diverted false) event.NoAnswer s) causes.NoReply)
      ∙ (ap (after_of (own_bound s)) (verdict_same (account_of s) ending.NoReply (is s refl))
      ∙ after_forwards (own_bound s) (diversion_of (call_facts other o at diverted false) event.NoAnswer s) causes.NoReply)
  next_step_on_same sheet (Deflection target rang) is = refl
  next_step_on_same sheet (Other code) is = refl

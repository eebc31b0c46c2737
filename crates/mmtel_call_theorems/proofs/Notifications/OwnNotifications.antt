-- A call that is refused does not get a 181 as its final response.
use Rattle.std.proofs.Common.{◌≡◌, ℕ, ◌==◌, Bool, true, false, [], ◌∷◌, refl, arith}
use Rattle.std.proofs.lemmas.Bool.Decides.{nat_tests}
use Rattle.std.specs.Prelude.{nat_lt, not, ◌&&◌, Option, Some, None, if◌then◌else◌}
use Rattle.mmtel_lex.specs.declared.values.Uri.{Uri}
use Rattle.mmtel_precedence.specs.Attempts.{end_by_final, end_by_redirection, is_redirection, is_success, is_unreachable, is_user_busy}
use Rattle.mmtel_precedence.specs.Calls.{Answer, AttemptEndView, Cancel, Deflection, NoReply, NotReachable, Other, ReachedTargetView, Unacknowledged, UserBusy}
use Rattle.mmtel_precedence.specs.Moves.{account_at}
use Rattle.mmtel_precedence.specs.Opening.{refusal_on_opening}
use Rattle.mmtel_precedence.specs.Services.{DueDiversionView, diverts_by, first_decision, refuses_if}
use Rattle.mmtel_precedence.specs.NextSteps.{EndAnswered, EndDivert, EndRefuse, NextStepView, StepAfterAttemptView, StepDivert, StepOffer}
use Rattle.mmtel_precedence.specs.NextSteps.{StepRefuse, divert_or_refuse, next_step_at, next_step_by, offer_step, step_after_attempt}
use Rattle.mmtel_precedence.specs.Verdicts.{decision_by}
use Rattle.mmtel_rules.specs.Facts.{FactsView}
use Rattle.mmtel_sheet_values.specs.declared.values.Sheet.{Sheet}
use Rattle.mmtel_served_user.specs.declared.served_user.Served.{Served}
use Rattle.mmtel_types.specs.Causes.{status_of}
use Rattle.mmtel_types.specs.declared.causes.Cause.{Cause}
use Rattle.mmtel_types.specs.declared.causes.Cause.TheVariants as causes
use Rattle.mmtel_types.specs.declared.privacy.PrivacySet.{PrivacySet}
use Rattle.mmtel_types.specs.declared.numbers.Peer.{Peer}

abbrev pub IsNoNotification : ℕ → Type 0
IsNoNotification code = (code == 181) ≡ false

-- ---- at a target

abbrev pub StepHasNoNotification : NextStepView → Type 0
StepHasNoNotification (StepOffer peer waiting) = Unit {0}
StepHasNoNotification (StepDivert due) = Unit {0}
StepHasNoNotification (StepRefuse cause) = IsNoNotification (status_of cause)

offered-next-step : (unknown : Bool) (peer : Option Peer) (waiting : Bool) → StepHasNoNotification (offer_step unknown peer waiting)
offered-next-step true peer waiting = refl
offered-next-step false None waiting = refl
offered-next-step false (Some peer) waiting = tt

-- by the decision of each service
decision-step : (anonymous barred unregistered busy : Bool) (always when_busy : Option DueDiversionView) (live : ℕ) (bound : Option ℕ) (unknown : Bool) (peer : Option Peer) →
    StepHasNoNotification (next_step_by (decision_by (first_decision (
    refuses_if anonymous causes.AnonymousRejected ∷ refuses_if barred causes.IncomingBarred ∷ diverts_by always ∷ refuses_if unregistered causes.NotRegistered
    ∷ diverts_by when_busy ∷ refuses_if busy causes.NetworkBusy ∷ [])) live) bound unknown peer)
decision-step true barred unregistered busy always when_busy live bound unknown peer = refl
decision-step false true unregistered busy always when_busy live bound unknown peer = refl
decision-step false false unregistered busy (Some due) when_busy live bound unknown peer = tt
decision-step false false true busy None when_busy live bound unknown peer = refl
decision-step false false false busy None (Some due) live bound unknown peer = tt
decision-step false false false true None None live bound unknown peer = refl
decision-step false false false false None None live bound unknown peer = offered-next-step unknown peer (nat_lt 0 live)

pub its-next-step : (c : FactsView) (reach : ReachedTargetView) → StepHasNoNotification (next_step_at c reach)
its-next-step c reach = decision-step _ _ _ _ _ _ (account_at reach).live _ reach.is_unknown reach.peer

-- ---- after an attempt

abbrev pub IsAfter : StepAfterAttemptView → Type 0
IsAfter EndAnswered = Unit {0}
IsAfter (EndDivert due) = Unit {0}
IsAfter (EndRefuse cause) = IsNoNotification (status_of cause)

-- its final response is no 181
abbrev pub IsFinal : AttemptEndView → Type 0
IsFinal Answer = Unit {0}
IsFinal Cancel = Unit {0}
IsFinal Unacknowledged = Unit {0}
IsFinal (UserBusy code) = IsNoNotification code
IsFinal (NotReachable code) = IsNoNotification code
IsFinal NoReply = Unit {0}
IsFinal (Deflection target rang) = Unit {0}
IsFinal (Other code) = IsNoNotification code

diverted-or : (due : Option DueDiversionView) (cause : Cause) → IsNoNotification (status_of cause) → IsAfter (divert_or_refuse due cause)
diverted-or None cause e = e
diverted-or (Some due) cause e = tt

pub its-after : (c : FactsView) (sheet : Option Sheet) (how : AttemptEndView) → IsFinal how → IsAfter (step_after_attempt c sheet how)
its-after c sheet Answer e = tt
its-after c sheet Cancel e = refl
its-after c sheet Unacknowledged e = refl
its-after c sheet (UserBusy code) e = diverted-or _ (causes.Relayed code) e
its-after c sheet (NotReachable code) e = diverted-or _ (causes.Unreachable code) e
its-after c sheet NoReply e = diverted-or _ causes.NoReply refl
its-after c sheet (Deflection target rang) e = diverted-or _ (causes.Relayed 480) refl
its-after c sheet (Other code) e = e

redirection-final : (code : ℕ) (target : Option Uri) (rang : Bool) → IsFinal (end_by_redirection code target rang)
redirection-final code None rang = refl
redirection-final code (Some target) rang = go (code == 302)
  where
    go : (b : Bool) → IsFinal (if b then Deflection target rang else Other 480)
    go true = tt
    go false = refl

final-by : (success busy unreachable redirection : Bool) (code : ℕ) (target : Option Uri) (rang : Bool) → IsNoNotification code →
    IsFinal (if success then Answer else if busy then UserBusy code else if unreachable then NotReachable code else if redirection then end_by_redirection code target rang else Other code)
final-by true busy unreachable redirection code target rang e = tt
final-by false true unreachable redirection code target rang e = e
final-by false false true redirection code target rang e = e
final-by false false false true code target rang e = redirection-final code target rang
final-by false false false false code target rang e = e

pub its-final : (code : ℕ) (target : Option Uri) (rang : Bool) → IsNoNotification code → IsFinal (end_by_final code target rang)
its-final code target rang e = final-by (is_success code) (is_user_busy code) (is_unreachable code && not rang) (is_redirection code) code target rang e

pub time-final : (rang : Bool) → IsFinal (Rattle.mmtel_precedence.specs.Attempts.end_by_time rang)
time-final true = tt
time-final false = refl

-- a status from 300
pub high-notification : (code : ℕ) → nat_lt code 300 ≡ false → IsNoNotification code
high-notification code e = grind (arith, nat_tests)

-- ---- as it opens

abbrev pub IsRefusal : Option Cause → Type 0
IsRefusal None = Unit {0}
IsRefusal (Some cause) = IsNoNotification (status_of cause)

refusal-of : (critical nobody barred : Bool) → IsRefusal (if critical then Some causes.Critical else if nobody then Some causes.NoAccount else if barred then Some causes.OutgoingBarred else None)
refusal-of true nobody barred = refl
refusal-of false true barred = refl
refusal-of false false true = refl
refusal-of false false false = tt

pub its-refusal : (words : PrivacySet) (served : Served) (sheet : Option Sheet) (c : FactsView) → IsRefusal (refusal_on_opening words served sheet c)
its-refusal words served sheet c = refusal-of _ _ _

pub too-many-notification : (busy : Bool) → IsNoNotification (status_of (causes.TooManyDiversions busy))
too-many-notification true = refl
too-many-notification false = refl

-- a final response is no 181
pub final-notification : (code : ℕ) → nat_lt code 200 ≡ false → IsNoNotification code
final-notification code e = grind (arith, nat_tests)

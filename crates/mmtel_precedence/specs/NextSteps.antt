-- The next step of a call: at a target that it reached, and after an attempt that ended (TS 24.604 §4.5.2.6, TS 24.611 §4.5.2, TS 24.615 §4.5.5). A diversion that is due is made
-- unless outgoing barring or the bound refuses it.
--
-- Each next step is the move of Outcome, so a call that takes these steps one by one has its Outcome.
use Rattle.std.specs.Prelude.{◌≡◌, ◌≤◌, ℕ, zero, suc, Bool, if◌then◌else◌, List, [], ◌∷◌, Option, Some, None, option_and_then}
use Rattle.std.specs.Option.{option_map}
use Rattle.mmtel_types.specs.declared.causes.Cause.{Cause}
use Rattle.mmtel_types.specs.declared.causes.Cause.TheVariants as causes
use Rattle.mmtel_types.specs.declared.numbers.Peer.{Peer}
use Rattle.mmtel_lex.specs.declared.values.Uri.{Uri}
use Rattle.mmtel_sheet_values.specs.declared.values.Sheet.{Sheet}
use Rattle.mmtel_rules.specs.Facts.{FactsView}
use Rattle.mmtel_rules.specs.declared.values.When.TheVariants as event
use Rattle.mmtel_diversion.specs.Diversion.{deflection_of}
use Rattle.mmtel_precedence.specs.declared.endings.Ending.TheVariants as ending
use Rattle.mmtel_precedence.specs.Services.{DueDiversionView, ServedAccountView, due_on, own_bound}
use Rattle.mmtel_precedence.specs.Verdicts.{Decision, Offers, Forwards, Ends, verdict_of}
use Rattle.mmtel_precedence.specs.Calls.{AttemptEndView, Answer, Cancel, Unacknowledged, UserBusy, NotReachable, NoReply, Deflection}
use Rattle.mmtel_precedence.specs.Calls.{Other, EndedAttempt, ReachedTargetView, CallInputs, NotOffered, Offered, Answered, Final}
use Rattle.mmtel_precedence.specs.Targets.{caller_facts, deflection_to, reached_target_after}
use Rattle.mmtel_precedence.specs.Outcome.{outcome}
use Rattle.mmtel_precedence.specs.Moves.{CallState, TargetPhase, Reaching, Ringing, Over, account_at, with_phase, with_target}
use Rattle.mmtel_precedence.specs.Moves.{state_after_diversion, state_on_reaching, state_on_end, enough_moves, initial_state}
use Rattle.mmtel_precedence.specs.Moves.{outcome_so_far}

-- ---- at a target

pub data NextStepView : Type 0 where
  -- the call is offered to it through this peer, as waiting or not
  StepOffer : (peer : Peer) → (waiting : Bool) → NextStepView
  -- a diversion is due
  StepDivert : (due : DueDiversionView) → NextStepView
  -- the call is refused
  StepRefuse : (cause : Cause) → NextStepView

-- where no service of an account decided: a target that is of no account, or to which no peer is the route, is refused, whoever is served
abbrev pub offer_step_by : Option Peer → (waiting : Bool) → NextStepView
offer_step_by None waiting = StepRefuse causes.NoRoute
offer_step_by (Some peer) waiting = StepOffer peer waiting

abbrev pub offer_step : (unknown : Bool) → Option Peer → (waiting : Bool) → NextStepView
offer_step unknown peer waiting = if unknown then StepRefuse causes.NoAccount else offer_step_by peer waiting

-- by the decision of the services of the account; a diversion without a forward is that of a device, and no device has responded yet
abbrev pub next_step_by : Decision → (bound : Option ℕ) → (unknown : Bool) → Option Peer → NextStepView
next_step_by (Offers waiting) bound unknown peer = offer_step unknown peer waiting
next_step_by (Forwards None cause) bound unknown peer = StepRefuse (causes.Relayed 480)
next_step_by (Forwards (Some forward) cause) bound unknown peer = StepDivert (record { forward = forward; cause = cause; bound = bound })
next_step_by (Ends cause) bound unknown peer = StepRefuse cause

abbrev pub next_step_at : FactsView → ReachedTargetView → NextStepView
next_step_at c reach = next_step_by (verdict_of c (account_at reach) ending.Arrived) (own_bound (account_at reach).sheet) reach.is_unknown reach.peer

-- ---- after an attempt

pub data StepAfterAttemptView : Type 0 where
  -- the call is answered
  EndAnswered : StepAfterAttemptView
  EndDivert : (due : DueDiversionView) → StepAfterAttemptView
  EndRefuse : (cause : Cause) → StepAfterAttemptView

-- a diversion where one is due, else the refusal
abbrev pub divert_or_refuse : Option DueDiversionView → Cause → StepAfterAttemptView
divert_or_refuse None cause = EndRefuse cause
divert_or_refuse (Some due) cause = EndDivert due

-- the deflection to this target, where the record allows it
abbrev pub deflection_by : Uri → (rang : Bool) → Sheet → Option DueDiversionView
deflection_by target rang sheet = option_map (deflection_to target (own_bound sheet)) (deflection_of sheet rang)

-- by the record under which it was offered; an attempt at a target of no account has no record, and no rules
abbrev pub step_after_attempt : FactsView → Option Sheet → AttemptEndView → StepAfterAttemptView
step_after_attempt c sheet Answer = EndAnswered
step_after_attempt c sheet Cancel = EndRefuse causes.Cancelled
step_after_attempt c sheet Unacknowledged = EndRefuse causes.Unacknowledged
step_after_attempt c sheet (UserBusy code) = divert_or_refuse (option_and_then (due_on c event.Busy) sheet) (causes.Relayed code)
step_after_attempt c sheet (NotReachable code) = divert_or_refuse (option_and_then (due_on c event.NotReachable) sheet) (causes.Unreachable code)
step_after_attempt c sheet NoReply = divert_or_refuse (option_and_then (due_on c event.NoAnswer) sheet) causes.NoReply
step_after_attempt c sheet (Deflection target rang) = divert_or_refuse (option_and_then (deflection_by target rang) sheet) (causes.Relayed 480)
step_after_attempt c sheet (Other code) = EndRefuse (causes.Relayed code)

-- ---- next steps are moves

-- the state of the call after the next step at a target
abbrev pub state_after_step : CallInputs → ServedAccountView → (now : ℕ) → CallState → Uri → Option DueDiversionView → NextStepView → CallState
state_after_step call account now state uri by (StepOffer peer waiting) = with_phase (with_target state uri by (Offered waiting)) (Ringing account)
state_after_step call account now state uri by (StepDivert due) = state_after_diversion call (with_target state uri by NotOffered) account now due
state_after_step call account now state uri by (StepRefuse cause) = with_phase (with_target state uri by NotOffered) (Over (Final cause))

-- and after the next step at the end of an attempt
abbrev pub state_after_attempt_step : CallInputs → ServedAccountView → (now : ℕ) → CallState → StepAfterAttemptView → CallState
state_after_attempt_step call account now state EndAnswered = with_phase state (Over Answered)
state_after_attempt_step call account now state (EndDivert due) = state_after_diversion call state account now due
state_after_attempt_step call account now state (EndRefuse cause) = with_phase state (Over (Final cause))

-- the record of the account that is served at a target, if one is
abbrev pub sheet_of : ReachedTargetView → Option Sheet
sheet_of reach = option_map (λ (account : ServedAccountView). account.sheet) reach.served

-- the move at a target is the next step there
abbrev pub NextStepsAreMoves : Type 0
NextStepsAreMoves = (call : CallInputs) (reach : ReachedTargetView) (state : CallState) (uri : Uri) (by : Option DueDiversionView) →
    state_on_reaching call reach uri by state ≡ state_after_step call (account_at reach) reach.at state uri by (next_step_at (caller_facts call state.done reach.at) reach)

-- the move on the end of an attempt at a target is the next step after it
abbrev pub EndingsAreMoves : Type 0
EndingsAreMoves = (call : CallInputs) (reach : ReachedTargetView) (now : ℕ) (how : AttemptEndView) (state : CallState) →
    state_on_end call (account_at reach) now how state ≡ state_after_attempt_step call (account_at reach) now state
    (step_after_attempt (caller_facts call state.done now) (sheet_of reach) how)

-- ---- a whole call, step by step

-- while it rings the call waits for the next end of its attempt
abbrev pub steps_on_endings : CallInputs → ServedAccountView → List EndedAttempt → CallState → CallState
steps_on_endings call account [] state = state
steps_on_endings call account (ended ∷ later) state =
    state_after_attempt_step call account ended.at (record state { endings = later }) (step_after_attempt (caller_facts call state.done ended.at) (Some account.sheet) ended.how)

-- at the target, in the state when the call reaches it
abbrev pub step_at_target : CallInputs → ReachedTargetView → CallState → Uri → Option DueDiversionView → CallState
step_at_target call reach state uri by = state_after_step call (account_at reach) reach.at state uri by (next_step_at (caller_facts call state.done reach.at) reach)

-- one step, by the state
abbrev pub next_step_in : TargetPhase → CallInputs → CallState → CallState
next_step_in (Reaching uri by) call state = step_at_target call (reached_target_after call state.done uri by) state uri by
next_step_in (Ringing account) call state = steps_on_endings call account state.endings state
next_step_in (Over result) call state = state

-- that many steps
unfoldable pub next_steps : ℕ → CallInputs → CallState → CallState
next_steps zero call state = state
next_steps (suc n) call state = next_steps n call (next_step_in state.phase call state)

-- the steps give the outcome, and nothing changes afterwards
abbrev pub NextStepsGiveTheOutcome : Type 0
NextStepsGiveTheOutcome = (call : CallInputs) (endings : List EndedAttempt) (n : ℕ) → enough_moves call ≤ n →
    outcome_so_far (next_steps n call (initial_state call endings)) ≡ outcome call endings

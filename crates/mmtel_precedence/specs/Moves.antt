-- A call as the server decides it, one move at a time, from its state: never from the list of endings past and future.
use Rattle.std.specs.Prelude.{◌≡◌, ℕ, zero, suc, ◌+◌, ◌*◌, ◌-◌, ◌≤◌, Bool, true, if◌then◌else◌, List, [], ◌∷◌, ◌++◌, Option, Some, None, is_none, unwrap_or}
use Rattle.std.specs.Option.{option_map}
use Rattle.mmtel_types.specs.declared.causes.Cause.{Cause}
use Rattle.mmtel_types.specs.declared.causes.Cause.TheVariants as causes
use Rattle.mmtel_lex.specs.declared.values.Uri.{Uri}
use Rattle.mmtel_sheet_values.specs.declared.values.Forward.{Forward}
use Rattle.mmtel_sheet_values.specs.Sheets.{empty_sheet}
use Rattle.mmtel_precedence.specs.declared.endings.Ending.TheVariants as ending
use Rattle.mmtel_precedence.specs.Services.{DueDiversionView, ServedAccountView, own_bound}
use Rattle.mmtel_precedence.specs.Verdicts.{Decision, Offers, Forwards, Ends, refusal_before_diversion, verdict_of}
use Rattle.mmtel_precedence.specs.Calls.{AttemptEndView, Answer, Cancel, Unacknowledged, UserBusy, NotReachable, NoReply, Deflection, Other}
use Rattle.mmtel_precedence.specs.Calls.{EndedAttempt, ReachedTargetView, CallInputs, OfferState, NotOffered, Offered, OutcomeTarget}
use Rattle.mmtel_precedence.specs.Calls.{CallResult, Pending, Answered, Final, Outcome}
use Rattle.mmtel_precedence.specs.Opening.{refusal_at_opening}
use Rattle.mmtel_served_user.specs.Targets.{new_target}
use Rattle.mmtel_precedence.specs.Targets.{caller_facts, target_facts, deflection_to, reached_target_after}
use Rattle.mmtel_precedence.specs.Outcome.{outcome}

-- the phase of the call
pub data TargetPhase : Type 0 where
  -- at a target, to which it is not offered yet
  Reaching : (uri : Uri) → (by : Option DueDiversionView) → TargetPhase
  -- offered to its target, under the record of the account that was read then
  Ringing : (account : ServedAccountView) → TargetPhase
  Over : (result : CallResult) → TargetPhase

-- the state of the call, and the endings that are pending
pub record CallState : Type 0 where
  pub done : ℕ
  pub targets : List OutcomeTarget
  pub phase : TargetPhase
  pub endings : List EndedAttempt

-- the account whose services are evaluated: where there is none, that of an empty record, registered and in no call
abbrev pub account_at : ReachedTargetView → ServedAccountView
account_at reach = unwrap_or reach.served (record { sheet = empty_sheet; registered = true; live = 0 })

-- one more target is recorded
abbrev pub with_target : CallState → Uri → Option DueDiversionView → OfferState → CallState
with_target state uri by offer = record state { targets = state.targets ++ record { uri = uri; diversion = by; offer = offer } ∷ [] }

abbrev pub with_phase : CallState → TargetPhase → CallState
with_phase state phase = record state { phase = phase }

-- one more diversion was made, to this target
abbrev pub state_at_next_target : CallState → Uri → DueDiversionView → CallState
state_at_next_target state target due = record state { done = state.done + 1; phase = Reaching target (Some due) }

abbrev pub state_unless_refused : Option Cause → CallState → Uri → DueDiversionView → CallState
state_unless_refused None state target due = state_at_next_target state target due
state_unless_refused (Some refusal) state target due = with_phase state (Over (Final refusal))

-- a diversion that is due, by this account, at this moment
abbrev pub state_after_diversion : CallInputs → CallState → ServedAccountView → (now : ℕ) → DueDiversionView → CallState
state_after_diversion call state account now due =
    state_unless_refused (refusal_before_diversion (target_facts call now (new_target call.home due.forward.target)) (Some account.sheet) call.received state.done call.bound due)
    state (new_target call.home due.forward.target) due

-- the diversion of a decision: by the rule's forward, or else to the target of the device's deflection
abbrev pub due_by : (bound : Option ℕ) → Option Forward → Option Uri → (cause : ℕ) → Option DueDiversionView
due_by bound None deflected cause = option_map (λ target. deflection_to target bound cause) deflected
due_by bound (Some forward) deflected cause = Some (record { forward = forward; cause = cause; bound = bound })

abbrev pub state_after_due : CallInputs → CallState → ServedAccountView → (now : ℕ) → Option DueDiversionView → CallState
state_after_due call state account now None = state
state_after_due call state account now (Some due) = state_after_diversion call state account now due

-- a target that no service refused: it may still be of no account, or without a route
abbrev pub offer_unless : (unknown no_peer : Bool) → ServedAccountView → (waiting : Bool) → CallState → Uri → Option DueDiversionView → CallState
offer_unless unknown no_peer account waiting state uri by =
    if unknown then with_phase (with_target state uri by NotOffered) (Over (Final causes.NoAccount))
    else if no_peer then with_phase (with_target state uri by NotOffered) (Over (Final causes.NoRoute))
    else with_phase (with_target state uri by (Offered waiting)) (Ringing account)

-- the verdict at a target that the call reached
abbrev pub state_by_decision : CallInputs → ReachedTargetView → ServedAccountView → Decision → CallState → Uri → Option DueDiversionView → CallState
state_by_decision call reach account (Offers waiting) state uri by = offer_unless reach.is_unknown (is_none reach.peer) account waiting state uri by
state_by_decision call reach account (Forwards forward why) state uri by =
    state_after_due call (with_target state uri by NotOffered) account reach.at (due_by (own_bound account.sheet) forward None why)
state_by_decision call reach account (Ends why) state uri by = with_phase (with_target state uri by NotOffered) (Over (Final why))

-- the verdict after an attempt that ended
abbrev pub state_by_verdict : CallInputs → ServedAccountView → (now : ℕ) → Option Uri → Decision → CallState → CallState
state_by_verdict call account now deflected (Offers waiting) state = state
state_by_verdict call account now deflected (Forwards forward why) state = state_after_due call state account now (due_by (own_bound account.sheet) forward deflected why)
state_by_verdict call account now deflected (Ends why) state = with_phase state (Over (Final why))

-- an attempt ended: a 2xx, and a caller that abandons the call or does not acknowledge a reliable response, end the call; for all else the verdict decides
abbrev pub state_on_end : CallInputs → ServedAccountView → (now : ℕ) → AttemptEndView → CallState → CallState
state_on_end call account now Answer state = with_phase state (Over Answered)
state_on_end call account now Cancel state = with_phase state (Over (Final causes.Cancelled))
state_on_end call account now Unacknowledged state = with_phase state (Over (Final causes.Unacknowledged))
state_on_end call account now (UserBusy code) state =
    state_by_verdict call account now None (verdict_of (caller_facts call state.done now) account (ending.UserBusy code)) state
state_on_end call account now (NotReachable code) state =
    state_by_verdict call account now None (verdict_of (caller_facts call state.done now) account (ending.NotReachable code)) state
state_on_end call account now NoReply state = state_by_verdict call account now None (verdict_of (caller_facts call state.done now) account ending.NoReply) state
state_on_end call account now (Deflection target rang) state =
    state_by_verdict call account now (Some target) (verdict_of (caller_facts call state.done now) account (ending.Deflected rang)) state
state_on_end call account now (Other code) state =
    state_by_verdict call account now None (verdict_of (caller_facts call state.done now) account (ending.Other code)) state

-- while it rings the call waits for the next ending
abbrev pub state_on_endings : CallInputs → ServedAccountView → List EndedAttempt → CallState → CallState
state_on_endings call account [] state = state
state_on_endings call account (ended ∷ later) state = state_on_end call account ended.at ended.how (record state { endings = later })

-- a target is reached: the verdict decides
abbrev pub state_on_reaching : CallInputs → ReachedTargetView → Uri → Option DueDiversionView → CallState → CallState
state_on_reaching call reach uri by state =
    state_by_decision call reach (account_at reach) (verdict_of (caller_facts call state.done reach.at) (account_at reach) ending.Arrived) state uri by

-- one move, by the state
abbrev pub move_in : TargetPhase → CallInputs → CallState → CallState
move_in (Reaching uri by) call state = state_on_reaching call (reached_target_after call state.done uri by) uri by state
move_in (Ringing account) call state = state_on_endings call account state.endings state
move_in (Over result) call state = state

-- that many moves
unfoldable pub moves : ℕ → CallInputs → CallState → CallState
moves zero call state = state
moves (suc n) call state = moves n call (move_in state.phase call state)

-- at first the call reaches its first target, unless it is refused at its opening
abbrev pub initial_phase : Option Cause → CallInputs → TargetPhase
initial_phase None call = Reaching call.first_target None
initial_phase (Some cause) call = Over (Final cause)

abbrev pub initial_state : CallInputs → List EndedAttempt → CallState
initial_state call endings = record { done = 0; targets = []; phase = initial_phase (refusal_at_opening call) call; endings = endings }

-- the outcome of the call so far
abbrev pub result_in : TargetPhase → CallResult
result_in (Reaching uri by) = Pending
result_in (Ringing account) = Pending
result_in (Over result) = result

abbrev pub outcome_so_far : CallState → Outcome
outcome_so_far state = record { targets = state.targets; result = result_in state.phase }

-- two moves for each target that can be reached: it is reached, and its attempt ends
abbrev pub enough_moves : CallInputs → ℕ
enough_moves call = 2 * (call.bound - call.received + 1)

-- the moves give the outcome, and nothing changes afterwards
abbrev pub MovesGiveTheOutcome : Type 0
MovesGiveTheOutcome = (call : CallInputs) (endings : List EndedAttempt) (n : ℕ) → enough_moves call ≤ n →
    outcome_so_far (moves n call (initial_state call endings)) ≡ outcome call endings

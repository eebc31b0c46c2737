-- Next steps are moves.
use Rattle.std.proofs.Common.{◌≡◌, ℕ, zero, suc, Bool, true, false, List, [], ◌∷◌, refl, ap, sym, ◌∙◌}
use Rattle.std.specs.Prelude.{Option, Some, None, is_none, option_and_then, unwrap_or}
use Rattle.std.specs.Option.{option_map}
use Rattle.mmtel_types.specs.declared.causes.Cause.{Cause}
use Rattle.mmtel_types.specs.declared.causes.Cause.TheVariants as causes
use Rattle.mmtel_types.specs.declared.numbers.Peer.{Peer}
use Rattle.mmtel_lex.specs.declared.values.Uri.{Uri}
use Rattle.mmtel_rules.specs.Facts.{FactsView}
use Rattle.mmtel_rules.specs.declared.values.When.{When}
use Rattle.mmtel_rules.specs.declared.values.When.TheVariants as event
use Rattle.mmtel_diversion.specs.Diversion.{ChosenDiversion, deflection_of, diversion_of}
use Rattle.mmtel_precedence.specs.Services.{ServedAccountView, DueDiversionView, ServiceDecision, Nothing, Refuses, Diverts, own_bound, due_of, due_on, first_decision, services_on_arrival}
use Rattle.mmtel_precedence.specs.Verdicts.{decision_by, deflects_or, forwards_or}
use Rattle.mmtel_precedence.specs.Calls.{Answer, Cancel, Unacknowledged, UserBusy, NotReachable, NoReply, Deflection, Other, EndedAttempt, ReachedTargetView, CallInputs}
use Rattle.mmtel_precedence.specs.Targets.{caller_facts, deflection_to, reached_target_after}
use Rattle.mmtel_precedence.specs.Moves.{CallState, TargetPhase, Reaching, Ringing, Over, account_at, state_by_verdict, offer_unless, state_by_decision, state_on_endings, move_in, moves, initial_state, outcome_so_far}
use Rattle.mmtel_precedence.specs.NextSteps.{next_step_at, NextStepsAreMoves, EndingsAreMoves, NextStepsGiveTheOutcome, steps_on_endings, next_step_in}
use Rattle.mmtel_precedence.specs.NextSteps.{next_steps, offer_step, next_step_by, state_after_step, divert_or_refuse, deflection_by, state_after_attempt_step}
use Rattle.mmtel_precedence.proofs.Accounts.{nobody}
use Rattle.mmtel_precedence.proofs.MovesToTheOutcome.{moves_give_outcome}

-- ---- at a target

offered : (call : CallInputs) (account : ServedAccountView) (now : ℕ) (kept : CallState) (uri : Uri) (by : Option DueDiversionView) (unknown : Bool) (peer : Option Peer) (waiting : Bool) →
    offer_unless unknown (is_none peer) account waiting kept uri by ≡ state_after_step call account now kept uri by (offer_step unknown peer waiting)
offered call account now kept uri by true peer waiting = refl
offered call account now kept uri by false None waiting = refl
offered call account now kept uri by false (Some peer) waiting = refl

step_by_decision : (call : CallInputs) (reach : ReachedTargetView) (account : ServedAccountView) (kept : CallState) (uri : Uri) (by : Option DueDiversionView) (says : ServiceDecision) (live : ℕ) →
    state_by_decision call reach account (decision_by says live) kept uri by
    ≡ state_after_step call account reach.at kept uri by (next_step_by (decision_by says live) (own_bound account.sheet) reach.is_unknown reach.peer)
step_by_decision call reach account kept uri by Nothing live = offered call account reach.at kept uri by reach.is_unknown reach.peer _
step_by_decision call reach account kept uri by (Refuses cause) live = refl
step_by_decision call reach account kept uri by (Diverts due) live = refl

pub next_steps_are_moves : NextStepsAreMoves
next_steps_are_moves call reach kept uri by =
    step_by_decision call reach (account_at reach) kept uri by (first_decision (services_on_arrival (caller_facts call kept.done reach.at) (account_at reach))) (account_at reach).live

-- of an account that is served
pub turn_of_account : (c : FactsView) (reach : ReachedTargetView) (account : ServedAccountView) → reach.served ≡ Some account →
    next_step_by (decision_by (first_decision (services_on_arrival c account)) account.live) (own_bound account.sheet) reach.is_unknown reach.peer ≡ next_step_at c reach
turn_of_account c reach account served =
    ap (λ (one : Option ServedAccountView). let of = unwrap_or one nobody in next_step_by (decision_by (first_decision (services_on_arrival c of)) of.live) (own_bound of.sheet) reach.is_unknown reach.peer) (sym served)

-- ---- after an attempt

ruled : (call : CallInputs) (account : ServedAccountView) (now : ℕ) (kept : CallState) (chosen : Option ChosenDiversion) (cause : Cause) →
    (let due = option_map (due_of (own_bound account.sheet)) chosen in state_by_verdict call account now None (forwards_or due cause) kept ≡ state_after_attempt_step call account now kept (divert_or_refuse due cause))
ruled call account now kept None cause = refl
ruled call account now kept (Some chosen) cause = refl

deflected : (call : CallInputs) (account : ServedAccountView) (now : ℕ) (kept : CallState) (target : Uri) (cause : Option ℕ) →
    state_by_verdict call account now (Some target) (deflects_or cause) kept
    ≡ state_after_attempt_step call account now kept (divert_or_refuse (option_map (deflection_to target (own_bound account.sheet)) cause) (causes.Relayed 480))
deflected call account now kept target None = refl
deflected call account now kept target (Some cause) = refl

-- the rules of the account that is served, if one is
by_rules : (call : CallInputs) (served : Option ServedAccountView) (now : ℕ) (kept : CallState) (when : When) (cause : Cause) →
    state_by_verdict call (unwrap_or served nobody) now None (forwards_or (due_on (caller_facts call kept.done now) when (unwrap_or served nobody).sheet) cause) kept
    ≡ state_after_attempt_step call (unwrap_or served nobody) now kept
    (divert_or_refuse (option_and_then (due_on (caller_facts call kept.done now) when) (option_map (λ (account : ServedAccountView). account.sheet) served)) cause)
by_rules call None now kept when cause = refl
by_rules call (Some account) now kept when cause = ruled call account now kept (diversion_of (caller_facts call kept.done now) when account.sheet) cause

by_device : (call : CallInputs) (served : Option ServedAccountView) (now : ℕ) (kept : CallState) (target : Uri) (rang : Bool) →
    state_by_verdict call (unwrap_or served nobody) now (Some target) (deflects_or (deflection_of (unwrap_or served nobody).sheet rang)) kept
    ≡ state_after_attempt_step call (unwrap_or served nobody) now kept
    (divert_or_refuse (option_and_then (deflection_by target rang) (option_map (λ (account : ServedAccountView). account.sheet) served)) (causes.Relayed 480))
by_device call None now kept target rang = refl
by_device call (Some account) now kept target rang = deflected call account now kept target (deflection_of account.sheet rang)

pub endings_are_moves : EndingsAreMoves
endings_are_moves call reach now Answer kept = refl
endings_are_moves call reach now Cancel kept = refl
endings_are_moves call reach now Unacknowledged kept = refl
endings_are_moves call reach now (UserBusy code) kept = by_rules call reach.served now kept event.Busy (causes.Relayed code)
endings_are_moves call reach now (NotReachable code) kept = by_rules call reach.served now kept event.NotReachable (causes.Unreachable code)
endings_are_moves call reach now NoReply kept = by_rules call reach.served now kept event.NoAnswer causes.NoReply
endings_are_moves call reach now (Deflection target rang) kept = by_device call reach.served now kept target rang
endings_are_moves call reach now (Other code) kept = refl

-- ---- a whole call

-- the rules of an account that is served: a target of it, so that the theorem about ends applies to it
abbrev served_by : ServedAccountView → ReachedTargetView
served_by account = record { at = 0; served = Some account; is_unknown = false; peer = None }

endings_turn : (call : CallInputs) (account : ServedAccountView) (endings : List EndedAttempt) (kept : CallState) → steps_on_endings call account endings kept ≡ state_on_endings call account endings kept
endings_turn call account [] kept = refl
endings_turn call account (ended ∷ later) kept = sym (endings_are_moves call (served_by account) ended.at ended.how (record kept { endings = later }))

one_turn : (phase : TargetPhase) (call : CallInputs) (kept : CallState) → next_step_in phase call kept ≡ move_in phase call kept
one_turn (Reaching uri by) call kept = sym (next_steps_are_moves call (reached_target_after call kept.done uri by) kept uri by)
one_turn (Ringing account) call kept = endings_turn call account kept.endings kept
one_turn (Over result) call kept = refl

all_turns : (n : ℕ) (call : CallInputs) (kept : CallState) → next_steps n call kept ≡ moves n call kept
unfolding next_steps moves
all_turns zero call kept = refl
all_turns (suc n) call kept = all_turns n call (next_step_in kept.phase call kept) ∙ ap (moves n call) (one_turn kept.phase call kept)

pub next_steps_give_the_outcome : NextStepsGiveTheOutcome
next_steps_give_the_outcome call endings n enough = ap outcome_so_far (all_turns n call (initial_state call endings)) ∙ moves_give_outcome call endings n enough

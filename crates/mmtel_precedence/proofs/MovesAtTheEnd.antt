-- Moves of a call that goes no further.
use Rattle.std.proofs.Common.{◌≡◌, ℕ, zero, suc, List, [], refl}
use Rattle.mmtel_precedence.specs.Services.{ServedAccountView}
use Rattle.mmtel_precedence.specs.Calls.{EndedAttempt, CallInputs, OutcomeTarget, CallResult}
use Rattle.mmtel_precedence.specs.Moves.{CallState, TargetPhase, Ringing, Over, moves, move_in}

abbrev pub state_at : ℕ → List OutcomeTarget → TargetPhase → List EndedAttempt → CallState
state_at done targets phase endings = record { done = done; targets = targets; phase = phase; endings = endings }

-- a call that ended does not change
pub moves-over : (n : ℕ) (call : CallInputs) (done : ℕ) (targets : List OutcomeTarget) (result : CallResult) (endings : List EndedAttempt) →
    moves n call (state_at done targets (Over result) endings) ≡ state_at done targets (Over result) endings
unfolding moves
moves-over zero call done targets result endings = refl
moves-over (suc n) call done targets result endings = moves-over n call done targets result endings

-- a call that rings continues to ring while no attempt ends
pub moves-ringing : (n : ℕ) (call : CallInputs) (done : ℕ) (targets : List OutcomeTarget) (account : ServedAccountView) →
    moves n call (state_at done targets (Ringing account) []) ≡ state_at done targets (Ringing account) []
unfolding moves
moves-ringing zero call done targets account = refl
moves-ringing (suc n) call done targets account = moves-ringing n call done targets account

pub moves-suc : (n : ℕ) (call : CallInputs) (kept : CallState) → moves (suc n) call kept ≡ moves n call (move_in kept.phase call kept)
unfolding moves
moves-suc n call kept = refl

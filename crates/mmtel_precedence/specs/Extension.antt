-- Later endings: a call continues from where it was ringing, and its targets so far remain (TS 24.604 §4.5.2.6).
use Rattle.std.specs.Prelude.{◌≡◌, ◌≤◌, ℕ, Bool, true, false, List, [], ◌∷◌, ◌++◌}
use Rattle.mmtel_precedence.specs.Calls.{EndedAttempt, CallInputs, OutcomeTarget, CallResult, Pending, Answered, Final, Outcome}
use Rattle.mmtel_precedence.specs.Outcome.{outcome}
use Rattle.mmtel_precedence.specs.Moves.{CallState, moves, initial_state, enough_moves, outcome_so_far}

-- the call goes no further
abbrev pub is_settled : CallResult → Bool
is_settled Pending = false
is_settled Answered = true
is_settled (Final cause) = true

-- an outcome begins with another: its list of targets does; and it equals that other one where that is settled
pub record BeginsWith (longer shorter : Outcome) : Type 0 where
  pub targets : (more : List OutcomeTarget) × (longer.targets ≡ shorter.targets ++ more)
  pub settled : is_settled shorter.result ≡ true → longer ≡ shorter

-- these endings are pending too, after those that already are
abbrev pub with_more_endings : CallState → List EndedAttempt → CallState
with_more_endings state later = record state { endings = state.endings ++ later }

-- the endings come one after the other, and that many moves are made after each
unfoldable pub one_by_one : ℕ → CallInputs → List EndedAttempt → CallState → CallState
one_by_one n call [] state = state
one_by_one n call (ended ∷ later) state = one_by_one n call later (moves n call (with_more_endings state (ended ∷ [])))

pub record LaterEndingsExtend : Type 0 where
  -- the outcome of more endings begins with that of fewer
  pub outcomes : (call : CallInputs) (sooner later : List EndedAttempt) → BeginsWith (outcome call (sooner ++ later)) (outcome call sooner)
  -- moves continue from the state that they reached: with later endings, too, the call reaches it, by as many moves or fewer, since while it rings and no attempt ends no move
  -- changes anything
  pub go_on : (call : CallInputs) (n : ℕ) (state : CallState) (later : List EndedAttempt) →
      (fewer : ℕ) × (fewer ≤ n) × (moves fewer call (with_more_endings state later) ≡ with_more_endings (moves n call state) later)
  -- the moves over the first endings, however many, and then enough of them over the later ones give the outcome of all
  pub whole : (call : CallInputs) (sooner later : List EndedAttempt) (n m : ℕ) → enough_moves call ≤ m →
      outcome_so_far (moves m call (with_more_endings (moves n call (initial_state call sooner)) later)) ≡ outcome call (sooner ++ later)
  -- so do the moves that are made after each ending as it comes, as a server makes them
  pub one_at_a_time : (call : CallInputs) (endings : List EndedAttempt) (n : ℕ) → enough_moves call ≤ n →
      outcome_so_far (one_by_one n call endings (moves n call (initial_state call []))) ≡ outcome call endings

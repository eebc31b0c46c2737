-- A run: events in order, and before each of them the timers that are due by then, of transactions and of calls, each a step of its own (RFC 3261 §17); and the outputs of it.
use Rattle.std.specs.Prelude.{◌≡◌, ℕ, zero, suc, max, List, [], ◌∷◌, Option, Some, None, ⊤}
use Rattle.mmtel_directory.specs.declared.directories.Directory.{Directory}
use Rattle.mmtel_environment.specs.declared.events.Offer.{Offer}
use Rattle.mmtel_transaction.specs.Results.{next_due}
use Rattle.mmtel_transaction.specs.Operations.{live}
use Rattle.mmtel_records_in_force.specs.Texts.{Texts}
use Rattle.mmtel_run_definitions.specs.Deadlines.{Deadline, first_deadline, first_due_timer}
use Rattle.mmtel_run_definitions.specs.Events.{EventRecord, TimedEvent, timed_events}
use Rattle.mmtel_run_definitions.specs.Transitions.{RunState, initial_state, after_deadline, after_event}

-- ---- timers

-- the first of the timers that are due: by moment, then by the step that armed them, and of one step those of transactions before those of a call
abbrev pub first_due_deadline : ℕ → RunState → Option Deadline
first_due_deadline now state = first_deadline (next_due now (live state.actions)) (first_due_timer now state.pending_timers)

abbrev pub after_deadline_if : Directory → (token : List ℕ) → ℕ → Option Deadline → RunState → RunState
after_deadline_if directory token now None state = state
after_deadline_if directory token now (Some deadline) state = after_deadline directory token now deadline state

abbrev pub after_one_deadline : Directory → (token : List ℕ) → ℕ → RunState → RunState
after_one_deadline directory token now state = after_deadline_if directory token now (first_due_deadline now state) state

-- the timers that are due at a moment fire, at most so many times
abbrev pub after_due_deadlines : Directory → (token : List ℕ) → (fuel : ℕ) → ℕ → RunState → RunState
after_due_deadlines directory token zero now state = state
after_due_deadlines directory token (suc fuel) now state = after_due_deadlines directory token fuel now (after_one_deadline directory token now state)

-- so many firings are enough: no timer that is due is left
abbrev pub IsSettled : Directory → (token : List ℕ) → (fuel : ℕ) → ℕ → RunState → Type 0
IsSettled directory token fuel now state = first_due_deadline now (after_due_deadlines directory token fuel now state) ≡ None

-- ---- events

-- the clock is the greatest moment so far
abbrev pub clock_at : RunState → ℕ → ℕ
clock_at state moment = max state.clock moment

-- one more event, after the timers that are due by then
abbrev pub after_event_in_order : Directory → (token : List ℕ) → (fuel : ℕ) → TimedEvent → RunState → RunState
after_event_in_order directory token fuel notice state =
    after_event directory token (clock_at state notice.at) notice.parsed notice.accepted (after_due_deadlines directory token fuel (clock_at state notice.at) state)

abbrev pub after_events : Directory → (token : List ℕ) → (fuel : ℕ) → List TimedEvent → RunState → RunState
after_events directory token fuel [] state = state
after_events directory token fuel (notice ∷ others) state = after_events directory token fuel others (after_event_in_order directory token fuel notice state)

-- so many firings before each event are enough
abbrev pub IsEnoughAfter : Directory → (token : List ℕ) → (fuel : ℕ) → List TimedEvent → RunState → Type 0
IsEnoughAfter directory token fuel [] state = ⊤
IsEnoughAfter directory token fuel (notice ∷ others) state =
    IsSettled directory token fuel (clock_at state notice.at) state × IsEnoughAfter directory token fuel others (after_event_in_order directory token fuel notice state)

abbrev pub IsEnough : Directory → (token : List ℕ) → (loaded : Texts) → (fuel : ℕ) → List EventRecord → Type 0
IsEnough directory token loaded fuel recorded = IsEnoughAfter directory token fuel (timed_events directory recorded) (initial_state loaded)

-- the state of the run after these events
abbrev pub state_after : Directory → (token : List ℕ) → (loaded : Texts) → (fuel : ℕ) → List EventRecord → RunState
state_after directory token loaded fuel recorded = after_events directory token fuel (timed_events directory recorded) (initial_state loaded)

-- ---- the outputs

-- what the server outputs in a run, in order
abbrev pub offers_of_run : Directory → (token : List ℕ) → (loaded : Texts) → (fuel : ℕ) → List EventRecord → List Offer
offers_of_run directory token loaded fuel recorded = (state_after directory token loaded fuel recorded).offers

-- The outputs of a step of a run are appended to those before, and nothing depends on these.
use Rattle.std.specs.Prelude.{◌≡◌, ℕ, List, [], ◌++◌}
use Rattle.mmtel_directory.specs.declared.directories.Directory.{Directory}
use Rattle.mmtel_records_in_force.specs.Texts.{Texts}
use Rattle.mmtel_environment.specs.declared.events.Offer.{Offer}
use Rattle.mmtel_run_definitions.specs.Events.{EventRecord, TimedEvent, timed_events}
use Rattle.mmtel_run_definitions.specs.Run.{after_due_deadlines, after_event_in_order, after_events, offers_of_run, state_after}
use Rattle.mmtel_run_definitions.specs.Transitions.{RunState}

-- the same state, with these outputs before all of its own
abbrev pub with_earlier_offers : List Offer → RunState → RunState
with_earlier_offers before state = record state { offers = before ++ state.offers }

-- the same state, with no output yet
abbrev pub without_offers : RunState → RunState
without_offers state = record state { offers = [] }

-- an event, with the timers that are due by it, does the same whatever was output before, and appends its outputs
abbrev pub EventsAdd : Type 0
EventsAdd = (directory : Directory) (token : List ℕ) (fuel : ℕ) (notice : TimedEvent) (before : List Offer) (state : RunState) →
    after_event_in_order directory token fuel notice (with_earlier_offers before state) ≡ with_earlier_offers before (after_event_in_order directory token fuel notice state)

-- so do the timers alone
abbrev pub DeadlinesAdd : Type 0
DeadlinesAdd = (directory : Directory) (token : List ℕ) (fuel now : ℕ) (before : List Offer) (state : RunState) →
    after_due_deadlines directory token fuel now (with_earlier_offers before state) ≡ with_earlier_offers before (after_due_deadlines directory token fuel now state)

-- the outputs of a run with further events are those without them, and then those of the further events from the state that it had reached
abbrev pub RunsAdd : Type 0
RunsAdd = (directory : Directory) (token : List ℕ) (loaded : Texts) (fuel : ℕ) (earlier recorded : List EventRecord) →
    offers_of_run directory token loaded fuel (earlier ++ recorded)
    ≡ offers_of_run directory token loaded fuel earlier
    ++ (after_events directory token fuel (timed_events directory recorded) (without_offers (state_after directory token loaded fuel earlier))).offers

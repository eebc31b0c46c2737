-- The CDRs of a run: those of the calls that ended and of the participants that left, in the order in which they were closed (TS 32.260 §5).
use Rattle.std.specs.Prelude.{◌≡◌, ℕ, zero, suc, Bool, true, if◌then◌else◌, List, [], ◌∷◌, ◌++◌, drop, length, map}
use Rattle.mmtel_b2bua.specs.Operations.{Drops, Finishes, Receives, Releases, Restores, TableOp, step_on_finish, step_on_receive, table_after}
use Rattle.mmtel_b2bua.specs.Tables.{Table}
use Rattle.mmtel_call_services.specs.CallConfig.{CallConfigView}
use Rattle.mmtel_charging.specs.declared.rows.Row.{Row}
use Rattle.mmtel_directory.specs.declared.directories.Directory.{Directory}
use Rattle.mmtel_focus.specs.Operations as rooms
use Rattle.mmtel_focus.specs.ConferenceConfig as focus
use Rattle.mmtel_records_in_force.specs.Texts.{Texts}
use Rattle.mmtel_run_definitions.specs.Calls.{call_config}
use Rattle.mmtel_run_definitions.specs.Events.{EventRecord, ParsedEvent, TimedEvent, timed_events}
use Rattle.mmtel_run_definitions.specs.Ownership.{conference_config}
use Rattle.mmtel_run_definitions.specs.Run.{after_event_in_order, after_one_deadline, clock_at, state_after}
use Rattle.mmtel_run_definitions.specs.Transitions.{RunState, after_event, initial_state}

-- ---- those of the calls

-- the CDRs that one more operation closes, in this state of the calls
abbrev pub rows_closed_by : CallConfigView → TableOp → Table → List Row
rows_closed_by config (Receives received) table = (step_on_receive config received table).output.rows
rows_closed_by config (Releases number side) table = []
rows_closed_by config (Restores number away) table = []
rows_closed_by config (Finishes number at tokens) table = (step_on_finish config number at tokens table).output.rows
rows_closed_by config (Drops count) table = []

-- the CDRs that all operations on the calls closed, in order
abbrev pub rows_closed : CallConfigView → List TableOp → List Row
rows_closed config [] = []
rows_closed config (op ∷ ops) = rows_closed config ops ++ rows_closed_by config op (table_after config ops)

-- ---- those of the conferences

-- the CDRs of participants that left, closed by all operations on the conferences, in order
abbrev pub rows_of_departed : focus.ConferenceConfigView → List rooms.TableOp → List Row
rows_of_departed config [] = []
rows_of_departed config (op ∷ ops) = rows_of_departed config ops ++ (rooms.effects_after config ops op).output.rows

-- ---- those of a run

-- a CDR, and whether it is of the calls, or else of the conferences
pub record ClosedRow : Type 0 where
  pub of_calls : Bool
  pub row : Row

abbrev pub rows_in : List ClosedRow → List Row
rows_in closed = map (λ one. one.row) closed

abbrev pub rows_of_calls : List ClosedRow → List Row
rows_of_calls [] = []
rows_of_calls (one ∷ others) = if one.of_calls then one.row ∷ rows_of_calls others else rows_of_calls others

abbrev pub rows_of_conferences : List ClosedRow → List Row
rows_of_conferences [] = []
rows_of_conferences (one ∷ others) = if one.of_calls then rows_of_conferences others else one.row ∷ rows_of_conferences others

-- the CDRs that the keeper accepted and those that wait are the CDRs that were closed: those of the calls in their order and those of the conferences in theirs; none is lost
-- and none comes twice
pub record AreFiled (directory : Directory) (state : RunState) : Type 0 where
  pub closed : List ClosedRow
  pub all : rows_in closed ≡ state.filed ++ state.waiting
  pub calls : rows_of_calls closed ≡ rows_closed (call_config directory) state.call_ops
  pub participants : rows_of_conferences closed ≡ rows_of_departed (conference_config directory) state.conference_ops

abbrev pub RowsAreFiled : Type 0
RowsAreFiled = (directory : Directory) (token : List ℕ) (loaded : Texts) (fuel : ℕ) (recorded : List EventRecord) →
    AreFiled directory (state_after directory token loaded fuel recorded)

-- ---- in one order: that of the steps, each of which is a timer that fires, or an event

-- the states after each of the timers that are due at a moment, one after another
abbrev pub states_of_deadlines : Directory → (token : List ℕ) → (fuel : ℕ) → ℕ → RunState → List RunState
states_of_deadlines directory token zero now state = []
states_of_deadlines directory token (suc fuel) now state = after_one_deadline directory token now state ∷
    states_of_deadlines directory token fuel now (after_one_deadline directory token now state)

-- the states after each step of a run: before each event the timers that are due by then, and then the event
abbrev pub states_of_steps : Directory → (token : List ℕ) → (fuel : ℕ) → List TimedEvent → RunState → List RunState
states_of_steps directory token fuel [] state = []
states_of_steps directory token fuel (notice ∷ others) state =
    states_of_deadlines directory token fuel (clock_at state notice.at) state
    ++ after_event_in_order directory token fuel notice state ∷ states_of_steps directory token fuel others (after_event_in_order directory token fuel notice state)

-- the CDRs that a step closes: of the participants that left in it, and then of the calls that ended in it
abbrev pub rows_of_step : Directory → (before after : RunState) → List Row
rows_of_step directory before after =
    drop (length (rows_of_departed (conference_config directory) before.conference_ops)) (rows_of_departed (conference_config directory) after.conference_ops)
    ++ drop (length (rows_closed (call_config directory) before.call_ops)) (rows_closed (call_config directory) after.call_ops)

abbrev pub rows_of_steps : Directory → (before : RunState) → (steps : List RunState) → List Row
rows_of_steps directory before [] = []
rows_of_steps directory before (state ∷ later) = rows_of_step directory before state ++ rows_of_steps directory state later

-- the CDRs that the keeper accepted, and then those that wait, are those of the first step, then those of the second, and so on
abbrev pub AreInOrder : Directory → (token : List ℕ) → (loaded : Texts) → (fuel : ℕ) → List EventRecord → Type 0
AreInOrder directory token loaded fuel recorded =
    (state_after directory token loaded fuel recorded).filed ++ (state_after directory token loaded fuel recorded).waiting
    ≡ rows_of_steps directory (initial_state loaded) (states_of_steps directory token fuel (timed_events directory recorded) (initial_state loaded))

abbrev pub RowsAreInOrder : Type 0
RowsAreInOrder = (directory : Directory) (token : List ℕ) (loaded : Texts) (fuel : ℕ) (recorded : List EventRecord) → AreInOrder directory token loaded fuel recorded

-- none waits after an event in which the keeper accepted what was handed to it
abbrev pub NoneWaits : Type 0
NoneWaits = (directory : Directory) (token : List ℕ) (at : ℕ) (parsed_input : ParsedEvent) (state : RunState) →
    (after_event directory token at parsed_input true state).waiting ≡ []

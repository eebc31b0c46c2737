-- The state of a run when a call received something of it: which records and registrations were in force, and which accounts were busy (3GPP TS 24.623 §5, TS 24.604
-- §4.5.2.6, TS 24.615 §4.5.5).
use Rattle.std.specs.Prelude.{◌≡◌, ◌≤◌, ◌⊎◌, ℕ, true, false, nat_lt, List, [], ◌∷◌, ◌++◌, Option, None, Some, option_to_list}
use Rattle.std.specs.Option.{option_map}
use Rattle.mmtel_b2bua.specs.Entries.{busy_beside}
use Rattle.mmtel_b2bua.specs.Operations.{ReceivedSignal, Receives, TableOp, table_after}
use Rattle.mmtel_b2bua_theorems.specs.TracesOfTables.{call_of, is_number, trace_of}
use Rattle.mmtel_b2bua_theorems.specs.TracesWithTransfers as transfers
use Rattle.mmtel_b2bua_theorems.specs.TracesWithTransfers.{CallEvent, CallTraceWithTransfers, call_after}
use Rattle.mmtel_call_services.specs.CallConfig.{calls_among}
use Rattle.mmtel_call_theorems.specs.Outcomes.{diversions_made_in}
use Rattle.mmtel_call_theorems.specs.CallTrace as traces
use Rattle.mmtel_call_theorems.specs.CallTrace.{TraceStart}
use Rattle.mmtel_directory.specs.declared.directories.Directory.{Directory}
use Rattle.mmtel_records_in_force.specs.Texts.{Texts, registration_end_at}
use Rattle.mmtel_precedence.specs.Calls.{SnapshotView}
use Rattle.mmtel_run_definitions.specs.Calls.{call_config, calls_after}
use Rattle.mmtel_run_definitions.specs.Events.{EventRecord, moment_of}
use Rattle.mmtel_run_definitions.specs.InForce.{last_of, uploads_of}
use Rattle.mmtel_run_definitions.specs.Run.{clock_at, state_after}
use Rattle.mmtel_run_definitions.specs.Transitions.{RunState}
use Rattle.mmtel_sheet_grammar.specs.Texts.{stored_sheet}
use Rattle.mmtel_types.specs.declared.numbers.Account.{Account}

-- the inputs of a run beside its events: its configuration, its token, and the texts that were loaded
pub record RunInputs : Type 0 where
  pub directory : Directory
  pub token : List ℕ
  pub loaded : Texts

abbrev pub inputs_of : Directory → (token : List ℕ) → (loaded : Texts) → RunInputs
inputs_of directory token loaded = record { directory = directory; token = token; loaded = loaded }

-- the state after these events of a run, and the operations on the calls until then
abbrev pub state_in : RunInputs → (fuel : ℕ) → List EventRecord → RunState
state_in run fuel recorded = state_after run.directory run.token run.loaded fuel recorded

abbrev pub operations_after : RunInputs → (fuel : ℕ) → List EventRecord → List TableOp
operations_after run fuel recorded = (state_in run fuel recorded).call_ops

-- this was the state for the call of this number when it received a signal in the run, by which its trace became this one; where that signal opened the call, the call itself kept
-- this account busy
pub record SnapshotIn (run : RunInputs) (fuel : ℕ) (recorded : List EventRecord) (number : ℕ) (came : CallTraceWithTransfers)
    (own : Option Account) (now : SnapshotView) : Type 0 where
  -- the event in which it received the signal, and those before and after it
  pub earlier : List EventRecord
  pub event : EventRecord
  pub later : List EventRecord
  pub in_order : recorded ≡ earlier ++ event ∷ later
  -- the signal, and the operations on the calls in that event before it and after it
  pub received : ReceivedSignal
  pub before : List TableOp
  pub after : List TableOp
  pub operations : operations_after run fuel (earlier ++ event ∷ []) ≡ after ++ Receives received ∷ (before ++ operations_after run fuel earlier)
  -- this operation is of this call, and by it the trace of the call became this one
  pub mine : is_number number (call_of (call_config run.directory) (Receives received)
      (table_after (call_config run.directory) (before ++ operations_after run fuel earlier))) ≡ true
  pub comes : trace_of (call_config run.directory) number (Receives received ∷ (before ++ operations_after run fuel earlier)) ≡ Some came
  -- the moment is that at which the signal was received, which is not later than the greatest moment of an event so far
  pub moment : now.at ≡ received.at
  pub by_then : now.at ≤ clock_at (state_in run fuel earlier) (moment_of event.event)
  -- the record of an account was the last one of those that were loaded and those that were stored before that event
  pub records : (account : Account) → now.sheets account.0 ≡ option_map stored_sheet (last_of (run.loaded ++ uploads_of run.directory.names earlier) account)
  -- and the account was registered until its last registration before that event ends
  pub registrations : (account : Account) → now.registration_ends account.0 ≡ registration_end_at (state_in run fuel earlier).registrations account
  -- the live calls of an account were those that the calls had right before
  pub live : now.live ≡ calls_among (option_to_list own ++ busy_beside number (calls_after run.directory (before ++ operations_after run fuel earlier)).entries)

-- ---- when a diversion was made

-- the diversions that were made by then
abbrev pub diversions_made_by : TraceStart → List CallEvent → ℕ
diversions_made_by s events = diversions_made_in s (call_after s events)

-- a signal that the call of this trace received after it had opened, and the state then, which is the state in the run
pub record ReceivedIn (run : RunInputs) (fuel : ℕ) (recorded : List EventRecord) (number : ℕ) (trace : CallTraceWithTransfers) (now : SnapshotView) : Type 0 where
  -- the signal, and what happened to the call before it and after it, the last first
  pub received : traces.TraceStep
  pub earlier : List CallEvent
  pub later : List CallEvent
  pub in_order : trace.events ≡ later ++ transfers.Receives received ∷ earlier
  pub so : now ≡ received.now
  pub snapshot : SnapshotIn run fuel recorded number (record { start = trace.start; events = transfers.Receives received ∷ earlier }) None received.now

-- the step in which the call of this trace made its next diversion after k others, and so reached the target of it: that in which it opened, or the one after which it had made
-- more than k, and before which no more than k; and the state in that step
pub data ReachedIn (run : RunInputs) (fuel : ℕ) (recorded : List EventRecord) (number : ℕ) (trace : CallTraceWithTransfers) (k : ℕ) (now : SnapshotView) : Type 0 where
  Opening : nat_lt k (diversions_made_by trace.start []) ≡ true → now ≡ trace.start.now → ReachedIn run fuel recorded number trace k now
  Later : (step : ReceivedIn run fuel recorded number trace now) → nat_lt k (diversions_made_by trace.start step.earlier) ≡ false →
      nat_lt k (diversions_made_by trace.start (transfers.Receives step.received ∷ step.earlier)) ≡ true → ReachedIn run fuel recorded number trace k now
  -- the call has not made it, and the state is that of some step of it
  NotYet : nat_lt k (diversions_made_by trace.start trace.events) ≡ false →
      ReceivedIn run fuel recorded number trace now ⊎ (now ≡ trace.start.now) → ReachedIn run fuel recorded number trace k now

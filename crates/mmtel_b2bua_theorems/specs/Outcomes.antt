-- The Outcome of a trace by the precedence of services: how its attempts ended, the state at its targets, and its Outcome (TS 24.604 §4.5.2.6).
-- A leg is only detached from a stable call, so all this is determined by signals alone.
use Rattle.std.specs.Prelude.{◌≡◌, true, ℕ, nat_lt, if◌then◌else◌, List, [], ◌∷◌, ◌++◌}
use Rattle.mmtel_charging.specs.Meters.{MeterView}
use Rattle.mmtel_charging.specs.declared.rows.Row.{Row}
use Rattle.mmtel_precedence.specs.Calls as precedence
use Rattle.mmtel_precedence.specs.Calls.{EndedAttempt, SnapshotView}
use Rattle.mmtel_precedence.specs.Outcome.{outcome}
use Rattle.mmtel_types.specs.declared.causes.Cause.{Cause}
use Rattle.mmtel_call_services.specs.declared.charging_records.Ending.{Ending}
use Rattle.mmtel_call.specs.Detaching.{fits_in}
use Rattle.mmtel_call.specs.declared.calls.Call.{Call}
use Rattle.mmtel_transaction.specs.declared.words.TKey.{TKey}
use Rattle.mmtel_call_theorems.specs.Charging.{charging_records_of_parts, parts_of}
use Rattle.mmtel_call_theorems.specs.Endings.{ending_by}
use Rattle.mmtel_call_theorems.specs.Outcomes.{call_inputs_of, diversions_made_in}
use Rattle.mmtel_call_theorems.specs.Labels.{HasOtherKey}
use Rattle.mmtel_call_theorems.specs.CallTrace.{TraceStart, opening_in}
use Rattle.mmtel_b2bua_theorems.specs.TracesWithTransfers.{CallEvent, Finishes, Receives, Releases, Restores, call_after, over_at}

-- ---- how its attempts ended

abbrev pub endings_by : CallEvent → Call → List EndedAttempt
endings_by (Receives x) c = ending_by x c
endings_by (Releases side) c = []
endings_by (Restores away) c = []
endings_by (Finishes at output) c = []

unfoldable pub endings_after : TraceStart → List CallEvent → List EndedAttempt
endings_after s [] = []
endings_after s (x ∷ earlier) = endings_after s earlier ++ endings_by x (call_after s earlier)

-- ---- the state when it reached the target of its next diversion after k others

-- the last known state, if there is no later one yet
abbrev pub snapshot_by : CallEvent → (before : SnapshotView) → SnapshotView
snapshot_by (Receives x) before = x.now
snapshot_by (Releases side) before = before
snapshot_by (Restores away) before = before
snapshot_by (Finishes at output) before = before

unfoldable pub snapshot_at_diversion : TraceStart → List CallEvent → (k : ℕ) → SnapshotView
snapshot_at_diversion s [] k = s.now
snapshot_at_diversion s (x ∷ earlier) k = if nat_lt k (diversions_made_in s (call_after s earlier)) then snapshot_at_diversion s earlier k
    else snapshot_by x (snapshot_at_diversion s earlier k)

-- ---- its Outcome

abbrev pub call_inputs_after : TraceStart → List CallEvent → precedence.CallInputs
call_inputs_after s events = call_inputs_of s.config s.now (opening_in s) (snapshot_at_diversion s events)

abbrev pub outcome_after : TraceStart → List CallEvent → precedence.Outcome
outcome_after s events = outcome (call_inputs_after s events) (endings_after s events)

-- ---- charging

-- the parts that began, in that order
abbrev pub parts_after : TraceStart → List CallEvent → List MeterView
parts_after s events = parts_of (call_inputs_after s events) s.arrival.number (outcome_after s events).targets

-- how it ended with this cause
abbrev pub ending_by_cause : TraceStart → List CallEvent → Cause → Ending
ending_by_cause s events cause = record { answered = (call_after s events).answered; at = over_at s events; holds = (call_after s events).hold.holds; cause = cause }

-- their CDRs
abbrev pub charges_due_after : TraceStart → List CallEvent → Cause → List Row
charges_due_after s events cause = charging_records_of_parts (ending_by_cause s events cause) (call_inputs_after s events) s.arrival.number (outcome_after s events).targets

-- ---- server transactions, and outputs

-- a request that is received later has another server transaction than the INVITE that opened the call
abbrev pub EventHasOtherKey : (key : TKey) → CallEvent → Type 0
EventHasOtherKey key (Receives x) = HasOtherKey key x.signal
EventHasOtherKey key (Releases side) = Unit {0}
EventHasOtherKey key (Restores away) = Unit {0}
EventHasOtherKey key (Finishes at output) = Unit {0}

abbrev pub EventsHaveOtherKeys : (key : TKey) → List CallEvent → Type 0
EventsHaveOtherKeys key [] = Unit {0}
EventsHaveOtherKeys key (x ∷ earlier) = EventHasOtherKey key x × EventsHaveOtherKeys key earlier

-- each step has an empty output before it
abbrev pub HasEmptyOutput : CallEvent → Type 0
HasEmptyOutput (Receives x) = x.output.out ≡ []
HasEmptyOutput (Releases side) = Unit {0}
HasEmptyOutput (Restores away) = Unit {0}
HasEmptyOutput (Finishes at output) = Unit {0}

abbrev pub HaveEmptyOutputs : TraceStart → List CallEvent → Type 0
HaveEmptyOutputs s [] = s.output.out ≡ []
HaveEmptyOutputs s (x ∷ earlier) = HasEmptyOutput x × HaveEmptyOutputs s earlier

-- ---- legs that are put back

-- each is of the side that is detached
abbrev pub IsFitting : CallEvent → Call → Type 0
IsFitting (Receives x) c = Unit {0}
IsFitting (Releases side) c = Unit {0}
IsFitting (Restores away) c = fits_in c.phase away ≡ true
IsFitting (Finishes at output) c = Unit {0}

abbrev pub AreFitting : TraceStart → List CallEvent → Type 0
AreFitting s [] = Unit {0}
AreFitting s (x ∷ earlier) = IsFitting x (call_after s earlier) × AreFitting s earlier

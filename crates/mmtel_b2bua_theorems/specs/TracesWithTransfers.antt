-- The trace of one call of a table: how it opened, and what happened to it after that.
-- It is a trace as in `mmtel_call_theorems` in which a leg of the call may also be detached, put back, or the call ended without it (RFC 4579 §5.6, RFC 3891 §3).
use Rattle.std.specs.Prelude.{ℕ, if◌then◌else◌, List, [], ◌∷◌, ◌++◌}
use Rattle.mmtel_charging.specs.declared.rows.Row.{Row}
use Rattle.mmtel_output.specs.declared.outputs.StepOutput.{StepOutput}
use Rattle.mmtel_leg.specs.declared.legs.Released.{Released}
use Rattle.mmtel_transaction.specs.declared.words.Emit.{Emit}
use Rattle.mmtel_types.specs.declared.sides.Side.{Side}
use Rattle.mmtel_call_services.specs.CallConfig.{CallConfigView}
use Rattle.mmtel_call.specs.Detaching.{call_finish, detached_in, with_leg_restored}
use Rattle.mmtel_call.specs.Table.{step}
use Rattle.mmtel_call.specs.declared.calls.Call.{Call}
use Rattle.mmtel_call_theorems.specs.Labels.{is_offered}
use Rattle.mmtel_call_theorems.specs.CallTrace.{TraceStart, TraceStep, first_step, is_over, items_added}

-- an event of a call
pub data CallEvent : Type 0 where
  -- it received a signal: the state then, the signal, and the output before
  Receives : (received : TraceStep) → CallEvent
  -- its leg of this side was detached, or put back
  Releases : (side : Side) → CallEvent
  Restores : (away : Released) → CallEvent
  -- it was ended without the leg, at this moment, with this output before
  Finishes : (at : ℕ) → (output : StepOutput) → CallEvent

-- how it opened, and its events after that, the last first
pub record CallTraceWithTransfers : Type 0 where
  pub start : TraceStart
  pub events : List CallEvent

-- ---- what follows from it

abbrev pub call_by : CallConfigView → CallEvent → Call → Call
call_by config (Receives x) c = (step config x.now x.signal c x.output).call
call_by config (Releases side) c = detached_in c.phase side c
call_by config (Restores away) c = with_leg_restored c.phase away c
call_by config (Finishes at output) c = (call_finish config at c output).call

-- the call after all that
unfoldable pub call_after : TraceStart → List CallEvent → Call
call_after s [] = (first_step s).call
call_after s (x ∷ earlier) = call_by s.config x (call_after s earlier)

-- what is sent in it, in order: what is in the output after what was there before
abbrev pub emits_by : CallConfigView → CallEvent → Call → List Emit
emits_by config (Receives x) c = items_added x.output.out (step config x.now x.signal c x.output).output.out
emits_by config (Releases side) c = []
emits_by config (Restores away) c = []
emits_by config (Finishes at output) c = items_added output.out (call_finish config at c output).output.out

unfoldable pub emits_after : TraceStart → List CallEvent → List Emit
emits_after s [] = items_added s.output.out (first_step s).output.out
emits_after s (x ∷ earlier) = emits_after s earlier ++ emits_by s.config x (call_after s earlier)

-- the CDRs that are filed in it, in order
abbrev pub charging_records_by : CallConfigView → CallEvent → Call → List Row
charging_records_by config (Receives x) c = items_added x.output.rows (step config x.now x.signal c x.output).output.rows
charging_records_by config (Releases side) c = []
charging_records_by config (Restores away) c = []
charging_records_by config (Finishes at output) c = items_added output.rows (call_finish config at c output).output.rows

unfoldable pub charging_records_after : TraceStart → List CallEvent → List Row
charging_records_after s [] = items_added s.output.rows (first_step s).output.rows
charging_records_after s (x ∷ earlier) = charging_records_after s earlier ++ charging_records_by s.config x (call_after s earlier)

-- what was sent as it opened, and while it was offered
unfoldable pub emits_while_offered : TraceStart → List CallEvent → List Emit
emits_while_offered s [] = items_added s.output.out (first_step s).output.out
emits_while_offered s (x ∷ earlier) =
    emits_while_offered s earlier ++ (if is_offered (call_after s earlier).phase then emits_by s.config x (call_after s earlier) else [])

-- the moment at which it was over, or, if it is not, that of the last step
abbrev pub moment_by : CallEvent → (before : ℕ) → ℕ
moment_by (Receives x) before = x.now.at
moment_by (Releases side) before = before
moment_by (Restores away) before = before
moment_by (Finishes at output) before = at

unfoldable pub over_at : TraceStart → List CallEvent → ℕ
over_at s [] = s.now.at
over_at s (x ∷ earlier) = if is_over (call_after s earlier).phase then over_at s earlier else moment_by x (over_at s earlier)

-- A trace of one call: how it opened, and what it received after that, each with the state then and the output before. So what is claimed of every trace holds however the call is
-- interleaved with other calls, and whatever tokens are drawn.
use Rattle.std.specs.Prelude.{ℕ, Bool, true, false, if◌then◌else◌, List, [], ◌∷◌, ◌++◌, drop, length}
use Rattle.mmtel_charging.specs.declared.rows.Row.{Row}
use Rattle.mmtel_output.specs.Outputs.{token}
use Rattle.mmtel_output.specs.declared.outputs.StepOutput.{StepOutput}
use Rattle.mmtel_precedence.specs.Calls.{SnapshotView}
use Rattle.mmtel_call_services.specs.Opening.{opening_of}
use Rattle.mmtel_call_services.specs.CallConfig.{CallConfigView}
use Rattle.mmtel_call_services.specs.declared.openings.Arrival.{Arrival}
use Rattle.mmtel_call_services.specs.declared.openings.Opening.{Opening}
use Rattle.mmtel_call.specs.Closing.{StepResult}
use Rattle.mmtel_call.specs.Opening.{call_after_opening}
use Rattle.mmtel_call.specs.Table.{step}
use Rattle.mmtel_call.specs.declared.calls.Call.{Call}
use Rattle.mmtel_call.specs.declared.calls.Phase.{Phase}
use Rattle.mmtel_call.specs.declared.calls.Phase.TheVariants.{Detached, Established, Offered, Over}
use Rattle.mmtel_call.specs.declared.signals.Signal.{Signal}

-- ---- what happens

-- how a call opens: the configuration, the state, the INVITE, and the output before
pub record TraceStart : Type 0 where
  pub config : CallConfigView
  pub now : SnapshotView
  pub arrival : Arrival
  pub output : StepOutput

-- what it receives later: the state then, what it receives, and the output before
pub record TraceStep : Type 0 where
  pub now : SnapshotView
  pub signal : Signal
  pub output : StepOutput

-- ---- what follows from it; of what was received the last is first in the list

abbrev pub first_step : TraceStart → StepResult
first_step s = call_after_opening s.config s.now s.arrival s.output

abbrev pub next_step : TraceStart → TraceStep → Call → StepResult
next_step s x c = step s.config x.now x.signal c x.output

-- the call after all that
unfoldable pub call_after : TraceStart → List TraceStep → Call
call_after s [] = (first_step s).call
call_after s (x ∷ earlier) = (next_step s x (call_after s earlier)).call

-- what a step added to the output is after what was there
abbrev pub items_added : {A : Type 0} → (before after : List A) → List A
items_added before after = drop (length before) after

-- the CDRs that were filed in it, in order
unfoldable pub charging_records_after : TraceStart → List TraceStep → List Row
charging_records_after s [] = items_added s.output.rows (first_step s).output.rows
charging_records_after s (x ∷ earlier) = charging_records_after s earlier ++ items_added x.output.rows (next_step s x (call_after s earlier)).output.rows

-- ---- what is known of it

abbrev pub opening_in : TraceStart → Opening
opening_in s = opening_of s.config s.now (token s.output) s.arrival

abbrev pub is_over : Phase → Bool
is_over (Offered x) = false
is_over (Established x stage) = false
is_over (Detached detached) = false
is_over (Over cause) = true

-- the moment at which it was over, or, if it is not, that of the last step
unfoldable pub over_at : TraceStart → List TraceStep → ℕ
over_at s [] = s.now.at
over_at s (x ∷ earlier) = if is_over (call_after s earlier).phase then over_at s earlier else x.now.at

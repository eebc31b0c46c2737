-- What a call waits for after a 2xx was relayed to a side: its ACK (RFC 3261 §13.3.1.4), and the expiry of the session (RFC 4028 §10). These 2xx are numbered within the call.
use Rattle.std.specs.Prelude.{ℕ, ◌+◌, Bool, if◌then◌else◌, Option, Some, None, List, [], ◌∷◌, ◌++◌}
use Rattle.mmtel_compose.specs.ReceivedMessages.{MessageView}
use Rattle.mmtel_output.specs.Outputs.{with_emit}
use Rattle.mmtel_output.specs.declared.outputs.StepOutput.{StepOutput}
use Rattle.mmtel_base.specs.Numbers.{next_number}
use Rattle.mmtel_session.specs.Intervals.{expiry_interval_of}
pub use Rattle.mmtel_sip_rules.specs.Requests.{ack_time}
use Rattle.mmtel_transaction.specs.declared.words.DueWord.TheVariants as due
use Rattle.mmtel_transaction.specs.declared.words.Emit.{Emit}
use Rattle.mmtel_transaction.specs.declared.words.Emit.TheVariants as emit
use Rattle.mmtel_types.specs.declared.numbers.CallNo.{CallNo}
use Rattle.mmtel_call_services.specs.CallConfig.{CallConfigView}
use Rattle.mmtel_call.specs.Calls.{Call}

abbrev pub next_success : Call → ℕ
next_success c = next_number c.successes

abbrev pub with_ack_timer : (at : ℕ) → Call → StepOutput → StepOutput
with_ack_timer at c output = with_emit (emit.Arm c.opening.number (due.NoAck (next_success c)) (at + ack_time)) output

-- the deadline at which its session expires, if sessions have timers and the 2xx has an interval (RFC 4028 §10)
abbrev pub session_timer : Option ℕ → (at : ℕ) → CallNo → (number : ℕ) → List Emit
session_timer None at call number = []
session_timer (Some time) at call number = emit.Arm call (due.Expired number) (at + time) ∷ []

abbrev pub expiry_in : Option ℕ → (at : ℕ) → Call → List Emit
expiry_in time at c = session_timer time at c.opening.number (next_success c)

abbrev pub expiries : (timer : Bool) → (at : ℕ) → MessageView → Call → List Emit
expiries timer at m c = if timer then expiry_in (expiry_interval_of m.parsed.session) at c else []

abbrev pub with_expiry_timer : CallConfigView → (at : ℕ) → MessageView → Call → StepOutput → StepOutput
with_expiry_timer config at m c output = record output { out = output.out ++ expiries config.timer at m c }

-- What is claimed of every trace of a call: if its input is clean messages, and records and a directory whose URIs are clean, each message that is sent is clean.
use Rattle.std.specs.Prelude.{◌≡◌, ℕ, List, [], ◌∷◌}
use Rattle.mmtel_output.specs.declared.outputs.StepOutput.{StepOutput}
use Rattle.mmtel_leg.specs.Dialogues.{request_uri}
use Rattle.mmtel_call.specs.Detaching.{call_finish, detached_in}
use Rattle.mmtel_trust.specs.Members.{IsIn}
use Rattle.mmtel_types.specs.declared.sides.Side.{Side}
use Rattle.mmtel_call.specs.declared.signals.Signal.{Signal}
use Rattle.mmtel_call.specs.declared.signals.Signal.TheVariants as signal
use Rattle.mmtel_call_theorems.specs.CallTrace.{TraceStart, TraceStep, call_after, first_step, next_step}
use Rattle.mmtel_leg.specs.Requests.{RequestPartsView, ack_of}
use Rattle.mmtel_leg.specs.declared.dialogues.Dialogue.{Dialogue}
use Rattle.mmtel_message.specs.Texts.{message_text}
use Rattle.mmtel_transaction.specs.declared.words.Emit.{Emit}
use Rattle.mmtel_transaction.specs.declared.words.Emit.TheVariants as emit
use Rattle.mmtel_call_theorems.specs.NoInjection.Acks.{IsPassedTo, ReceivedAck, received_acks_after}
use Rattle.mmtel_call_theorems.specs.NoInjection.Messages.{HasNoInjection, HasOwnFields}
use Rattle.mmtel_call_theorems.specs.NoInjection.Emits.{Each, EmitHasNoInjection, OutputHasNoInjection}
use Rattle.mmtel_call_theorems.specs.NoInjection.Inputs.{ParsedHasNoInjection, SheetsHaveNoInjection}

-- ---- the input of a step

-- each message that is received was read from a clean one
abbrev pub SignalHasNoInjection : Signal → Type 0
SignalHasNoInjection (signal.Request side key request) = ParsedHasNoInjection request.parsed
SignalHasNoInjection (signal.Ack side ack) = ParsedHasNoInjection ack.parsed
SignalHasNoInjection (signal.Cancel key cancel invite) = ParsedHasNoInjection cancel.parsed
SignalHasNoInjection (signal.Answer key response) = ParsedHasNoInjection response.parsed
SignalHasNoInjection (signal.Silent branch method) = Unit {0}
SignalHasNoInjection (signal.Due what) = Unit {0}
SignalHasNoInjection (signal.Ended key) = Unit {0}

-- as the call opens: the home domain, the current records, the INVITE with its Request-URI, and the output before
pub record TraceStartHasNoInjection (acks : List ReceivedAck) (s : TraceStart) : Type 0 where
  pub home : HasNoInjection s.config.home
  pub sheets : SheetsHaveNoInjection s.now
  pub invite : ParsedHasNoInjection s.arrival.invite.parsed
  pub uri : HasNoInjection (request_uri s.arrival.invite.parsed.start)
  pub output : OutputHasNoInjection acks s.output

-- and in each later step
pub record TraceStepHasNoInjection (acks : List ReceivedAck) (x : TraceStep) : Type 0 where
  pub sheets : SheetsHaveNoInjection x.now
  pub signal : SignalHasNoInjection x.signal
  pub output : OutputHasNoInjection acks x.output

-- ---- what the last step of a trace sends, as it is in the output

abbrev pub output_after : TraceStart → List TraceStep → StepOutput
output_after s [] = (first_step s).output
output_after s (x ∷ earlier) = (next_step s x (call_after s earlier)).output

-- these ACKs are among those
abbrev pub AreAmong : (some acks : List ReceivedAck) → Type 0
AreAmong some acks = Each (λ (acked : ReceivedAck). IsIn acked acks) some

-- each message of it is clean, whatever happened before; and an ACK of a 2xx has no header fields but those that are copied from an ACK that the call received on the other side
abbrev pub EmitsHaveNoInjection : Type 0
EmitsHaveNoInjection = (acks : List ReceivedAck) (s : TraceStart) (received : List TraceStep) → TraceStartHasNoInjection acks s →
    Each (TraceStepHasNoInjection acks) received → AreAmong (received_acks_after s received) acks →
    Each (EmitHasNoInjection acks) (output_after s received).out

-- and so is what is sent where a leg is detached from the call then, and the call ends without it
abbrev pub FinishEmitsHaveNoInjection : Type 0
FinishEmitsHaveNoInjection =
    (acks : List ReceivedAck) (s : TraceStart) (received : List TraceStep) (side : Side) (at : ℕ) (output : StepOutput) →
    TraceStartHasNoInjection acks s → Each (TraceStepHasNoInjection acks) received →
    AreAmong (received_acks_after s received) acks → OutputHasNoInjection acks output →
    Each (EmitHasNoInjection acks) (call_finish s.config at (detached_in (call_after s received).phase side (call_after s received)) output).output.out

-- ---- and its text has its own lines

abbrev pub SendsOwnFields : (acks : List ReceivedAck) → Emit → Type 0
SendsOwnFields acks (emit.Ask peer m) = HasOwnFields m
SendsOwnFields acks (emit.Reply key m) = HasOwnFields m
SendsOwnFields acks (emit.Plain peer text) =
    (dialogue : Dialogue) × (given : RequestPartsView) × IsPassedTo acks dialogue given × (text ≡ message_text (ack_of dialogue given)) × HasOwnFields (ack_of dialogue given)
SendsOwnFields acks (emit.Ack key m) = HasOwnFields m
SendsOwnFields acks (emit.Settled key own) = Unit {0}
SendsOwnFields acks (emit.Arm call what at) = Unit {0}
SendsOwnFields acks (emit.ArmSeat room seat what at) = Unit {0}

abbrev pub EmitsHaveOwnFields : Type 0
EmitsHaveOwnFields = (acks : List ReceivedAck) (s : TraceStart) (received : List TraceStep) → TraceStartHasNoInjection acks s →
    Each (TraceStepHasNoInjection acks) received → AreAmong (received_acks_after s received) acks →
    Each (SendsOwnFields acks) (output_after s received).out

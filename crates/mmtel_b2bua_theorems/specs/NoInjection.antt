-- What a table of calls sends is clean (free of injected lines), if the input of its calls is: messages with clean header fields, records with clean URIs, tokens of a clean text.
use Rattle.std.specs.Prelude.{◌≡◌, ℕ, List, ◌∷◌, Some, IfSome, map}
use Rattle.mmtel_output.specs.declared.outputs.StepOutput.{StepOutput}
use Rattle.mmtel_leg.specs.Dialogues.{request_uri}
use Rattle.mmtel_sheet_values.specs.View.{SheetsInForce, sheet_in}
use Rattle.mmtel_types.specs.declared.sides.Side.{Side}
use Rattle.mmtel_call_services.specs.CallConfig.{CallConfigView}
use Rattle.mmtel_call_theorems.specs.NoInjection.Acks as acks
use Rattle.mmtel_call_theorems.specs.NoInjection.Messages.{HasNoInjection}
use Rattle.mmtel_call_theorems.specs.NoInjection.Emits.{Each, EmitHasNoInjection}
use Rattle.mmtel_call_theorems.specs.NoInjection.Inputs.{ParsedHasNoInjection, SheetHasNoInjection}
use Rattle.mmtel_call_theorems.specs.NoInjection.CallState.{LegHasNoInjection}
use Rattle.mmtel_call_theorems.specs.NoInjection.Traces.{SendsOwnFields}
use Rattle.mmtel_call_theorems.specs.CallTrace as traces
use Rattle.mmtel_b2bua.specs.Operations.{Drops, Finishes, ReceivedSignal, Receives, Releases, Restores, TableOp, table_after}
use Rattle.mmtel_b2bua.specs.Detaching.{released_leg_of}
use Rattle.mmtel_b2bua.specs.declared.signals.Signal.{Signal}
use Rattle.mmtel_b2bua.specs.declared.signals.Signal.TheVariants as signal
use Rattle.mmtel_b2bua_theorems.specs.Acks.{acked_after}
use Rattle.mmtel_b2bua_theorems.specs.TracesOfTables.{HasNumbers, emits_of, out_by, trace_of}
use Rattle.mmtel_b2bua_theorems.specs.TracesWithTransfers as transfers
use Rattle.mmtel_b2bua_theorems.specs.TracesWithTransfers.{CallEvent}

-- ---- the input of the table

-- each message that is received was read from a clean one; the Request-URI of an INVITE that opens a call is clean
abbrev pub SignalHasNoInjection : Signal → Type 0
SignalHasNoInjection (signal.Arrived key invite served registration identities) = ParsedHasNoInjection invite.parsed × HasNoInjection (request_uri invite.parsed.start)
SignalHasNoInjection (signal.Request call side key request) = ParsedHasNoInjection request.parsed
SignalHasNoInjection (signal.Ack call side ack) = ParsedHasNoInjection ack.parsed
SignalHasNoInjection (signal.Cancel call key cancel invite) = ParsedHasNoInjection cancel.parsed
SignalHasNoInjection (signal.Answer key response) = ParsedHasNoInjection response.parsed
SignalHasNoInjection (signal.Silent branch method) = Unit {0}
SignalHasNoInjection (signal.Due call what) = Unit {0}
SignalHasNoInjection (signal.Over key) = Unit {0}

-- the records in force have clean URIs
abbrev pub RecordsHaveNoInjection : SheetsInForce → Type 0
RecordsHaveNoInjection view = (number : ℕ) → IfSome (sheet_in view number) SheetHasNoInjection

pub record ReceivedHasNoInjection (x : ReceivedSignal) : Type 0 where
  pub records : RecordsHaveNoInjection x.view
  pub signal : SignalHasNoInjection x.signal
  pub token : HasNoInjection x.tokens.token

abbrev pub OpHasNoInjection : TableOp → Type 0
OpHasNoInjection (Receives x) = ReceivedHasNoInjection x
OpHasNoInjection (Releases number side) = Unit {0}
OpHasNoInjection (Restores number away) = Unit {0}
OpHasNoInjection (Finishes number at tokens) = HasNoInjection tokens.token
OpHasNoInjection (Drops count) = Unit {0}

-- the same, and a leg that is put back is clean
abbrev pub OpAndLegHaveNoInjection : TableOp → Type 0
OpAndLegHaveNoInjection (Receives x) = ReceivedHasNoInjection x
OpAndLegHaveNoInjection (Releases number side) = Unit {0}
OpAndLegHaveNoInjection (Restores number away) = LegHasNoInjection away
OpAndLegHaveNoInjection (Finishes number at tokens) = HasNoInjection tokens.token
OpAndLegHaveNoInjection (Drops count) = Unit {0}

-- ---- what is sent

-- traces of signals alone
abbrev pub signals : List traces.TraceStep → List CallEvent
signals received = map transfers.Receives received

-- for a call of which no leg was detached, and for one that ended in the operation after that; an ACK of a 2xx has no header fields but those that are copied from an ACK that this
-- call received
pub record CallsSendNoInjection : Type 0 where
  pub no_injection :
      (config : CallConfigView) (ops : List TableOp) (number : ℕ) (start : traces.TraceStart) (received : List traces.TraceStep) →
      HasNumbers config ops → HasNoInjection config.home →
      Each OpHasNoInjection ops →
      trace_of config number ops ≡ Some (record { start = start; events = signals received }) →
      Each (EmitHasNoInjection (acks.received_acks_after start received)) (emits_of config number ops)
  pub own_fields : (config : CallConfigView) (ops : List TableOp) (number : ℕ) (start : traces.TraceStart) (received : List traces.TraceStep) →
      HasNumbers config ops → HasNoInjection config.home →
      Each OpHasNoInjection ops →
      trace_of config number ops ≡ Some (record { start = start; events = signals received }) →
      Each (SendsOwnFields (acks.received_acks_after start received)) (emits_of config number ops)
  pub finished : (config : CallConfigView) (ops : List TableOp) (number : ℕ) (start : traces.TraceStart) (received : List traces.TraceStep)
      (side : Side) (at : ℕ) (output : StepOutput) →
      HasNumbers config ops → HasNoInjection config.home → Each OpHasNoInjection ops →
      trace_of config number ops ≡ Some (record { start = start; events = transfers.Finishes at output ∷ transfers.Releases side ∷ signals received }) →
      Each (EmitHasNoInjection (acks.received_acks_after start received)) (emits_of config number ops)

-- for each operation, whatever was done before; an ACK of a 2xx has no header fields but those that are copied from an ACK that was received in the call of its dialog
abbrev pub OperationsSendNoInjection : Type 0
OperationsSendNoInjection = (config : CallConfigView) (ops : List TableOp) (op : TableOp) → HasNoInjection config.home → Each OpAndLegHaveNoInjection (op ∷ ops) →
    Each (EmitHasNoInjection (acked_after config (op ∷ ops))) (out_by config op (table_after config ops))

-- and the leg that is detached from a call is clean
abbrev pub ReleasedLegsHaveNoInjection : Type 0
ReleasedLegsHaveNoInjection = (config : CallConfigView) (ops : List TableOp) (number : ℕ) (side : Side) → HasNoInjection config.home → Each OpAndLegHaveNoInjection ops →
    IfSome (released_leg_of number side (table_after config ops).entries) LegHasNoInjection

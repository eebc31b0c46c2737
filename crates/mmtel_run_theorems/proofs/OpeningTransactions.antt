-- The INVITE that opened a call opened a server transaction that awaits its final response.
use Rattle.std.proofs.Common.{◌≡◌, ℕ, List, [], ◌∷◌, Option, Some, None, IfSome}
use Rattle.std.specs.Option.{option_map}
use Rattle.mmtel_b2bua.specs.Operations.{Drops, Finishes, ReceivedSignal, Receives, Releases, Restores, TableOp, table_after}
use Rattle.mmtel_b2bua.specs.declared.entries.Entry.{Entry}
use Rattle.mmtel_b2bua.specs.declared.signals.Signal.{Signal}
use Rattle.mmtel_b2bua.specs.declared.signals.Signal.TheVariants as signal
use Rattle.mmtel_b2bua_theorems.specs.TracesOfTables.{arrival_of, event_by, opening_by, start_by, trace_of}
use Rattle.mmtel_b2bua_theorems.specs.TracesWithTransfers.{CallEvent, CallTraceWithTransfers}
use Rattle.mmtel_call_services.specs.CallConfig.{CallConfigView}
use Rattle.mmtel_call_theorems.specs.NoInjection.Emits.{Each}
use Rattle.mmtel_call_theorems.specs.CallTrace.{TraceStart}
use Rattle.mmtel_transaction.specs.Operations.{TransactionOp}
use Rattle.mmtel_run_theorems.proofs.OperationsOfEvents.{HasOpenedRequest, IsOpenedBy, OpensAt}
use Rattle.mmtel_run_theorems.proofs.TraceInduction.{AllHold, trace_holds}

-- what holds for how each call opens holds for how this one did
module _ (config : CallConfigView) (number : ℕ) (P : TraceStart → Type 0) where
  abbrev pub Starts : TraceStart → List CallEvent → Type 0
  Starts s events = P s

  abbrev pub AllStart : List TableOp → Type 0
  AllStart [] = Unit {0}
  AllStart (op ∷ older) = IfSome (opening_by config op (table_after config older)) P × AllStart older

  comes-so : (o : Option CallEvent) → IfSome o (λ x. (s : TraceStart) (earlier : List CallEvent) → Starts s earlier → Starts s (x ∷ earlier))
  comes-so None = tt
  comes-so (Some x) = λ s earlier p. p

  all-start : (ops : List TableOp) → AllStart ops → AllHold config number Starts ops
  all-start [] a = tt
  all-start (op ∷ older) a = ((λ mine. record { opens = a.0; comes = comes-so (event_by op number (table_after config older).entries) }), all-start older a.1)

  pub trace_starts : (ops : List TableOp) (trace : CallTraceWithTransfers) → AllStart ops → trace_of config number ops ≡ Some trace → P trace.start
  trace_starts ops trace a is = trace_holds config number Starts ops trace (all-start ops a) is

module _ (config : CallConfigView) (h : List TransactionOp) where
  abbrev IsStarted : TraceStart → Type 0
  IsStarted s = OpensAt h s.arrival.key.0 s.arrival.invite.peer

  signal-starts : (x : ReceivedSignal) (es : List Entry) (number : ℕ) (s : Signal) → IsOpenedBy h s → IfSome (option_map (start_by config x es) (arrival_of number s)) IsStarted
  signal-starts x es number (signal.Arrived key invite served registration identities) o = o
  signal-starts x es number (signal.Request call side key request) o = tt
  signal-starts x es number (signal.Ack call side ack) o = tt
  signal-starts x es number (signal.Cancel call key cancel invite) o = tt
  signal-starts x es number (signal.Answer key response) o = tt
  signal-starts x es number (signal.Silent branch method) o = tt
  signal-starts x es number (signal.Due call what) o = tt
  signal-starts x es number (signal.Over key) o = tt

  op-starts : (op : TableOp) (older : List TableOp) → HasOpenedRequest h op → IfSome (opening_by config op (table_after config older)) IsStarted
  op-starts (Receives x) older a = signal-starts x (table_after config older).entries _ x.signal a
  op-starts (Releases number side) older a = tt
  op-starts (Restores number away) older a = tt
  op-starts (Finishes number at tokens) older a = tt
  op-starts (Drops count) older a = tt

  all-started : (number : ℕ) (ops : List TableOp) → Each (HasOpenedRequest h) ops → AllStart config number IsStarted ops
  all-started number [] a = tt
  all-started number (op ∷ older) a = (op-starts op older a.0, all-started number older a.1)

  pub trace_opened : (number : ℕ) (ops : List TableOp) (trace : CallTraceWithTransfers) → Each (HasOpenedRequest h) ops → trace_of config number ops ≡ Some trace → IsStarted trace.start
  trace_opened number ops trace a is = trace_starts config number IsStarted ops trace (all-started number ops a) is

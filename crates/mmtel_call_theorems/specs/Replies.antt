-- In which server transactions a call replies: in those of its own requests, which are the INVITE that opened it and those that it receives (RFC 3261 §8.2.6, §17.2). The set of
-- these transactions is a parameter.
use Rattle.std.specs.Prelude.{◌≡◌, true, ℕ, Bool, List}
use Rattle.mmtel_call_services.specs.CallConfig.{CallConfigView}
use Rattle.mmtel_call_services.specs.declared.openings.Arrival.{Arrival}
use Rattle.mmtel_call.specs.Closing.{StepResult}
use Rattle.mmtel_call.specs.Detaching.{call_finish, detached_in, with_leg_restored}
use Rattle.mmtel_call.specs.Opening.{call_after_opening}
use Rattle.mmtel_call.specs.Table.{step}
use Rattle.mmtel_call.specs.declared.calls.Call.{Call}
use Rattle.mmtel_call.specs.declared.calls.RelayedTransaction.{RelayedTransaction}
use Rattle.mmtel_call.specs.declared.calls.Phase.{Phase}
use Rattle.mmtel_call.specs.declared.calls.Phase.TheVariants.{Detached, Established, Offered, Over}
use Rattle.mmtel_call.specs.declared.calls.Stage.{Stage}
use Rattle.mmtel_call.specs.declared.calls.Stage.TheVariants.{Answered, Departing, Reinviting, Stable}
use Rattle.mmtel_call.specs.declared.signals.Signal.{Signal}
use Rattle.mmtel_call.specs.declared.signals.Signal.TheVariants as signal
use Rattle.mmtel_output.specs.declared.outputs.StepOutput.{StepOutput}
use Rattle.mmtel_leg.specs.declared.legs.Released.{Released}
use Rattle.mmtel_precedence.specs.Calls.{SnapshotView}
use Rattle.mmtel_transaction.specs.declared.words.Emit.{Emit}
use Rattle.mmtel_transaction.specs.declared.words.Emit.TheVariants as emit
use Rattle.mmtel_types.specs.declared.sides.Side.{Side}
use Rattle.mmtel_call_theorems.specs.NoInjection.Emits.{Each}

-- what is sent is no reply, or one in these transactions
abbrev pub IsRepliedIn : (own : ℕ → Bool) → Emit → Type 0
IsRepliedIn own (emit.Ask peer m) = Unit {0}
IsRepliedIn own (emit.Reply key m) = own key.0 ≡ true
IsRepliedIn own (emit.Plain peer text) = Unit {0}
IsRepliedIn own (emit.Ack key m) = Unit {0}
IsRepliedIn own (emit.Settled key settled) = Unit {0}
IsRepliedIn own (emit.Arm call what at) = Unit {0}
IsRepliedIn own (emit.ArmSeat room seat what at) = Unit {0}

-- a request that is received is of these
abbrev pub SignalIsOf : (own : ℕ → Bool) → Signal → Type 0
SignalIsOf own (signal.Request side key request) = own key.0 ≡ true
SignalIsOf own (signal.Ack side ack) = Unit {0}
SignalIsOf own (signal.Cancel key cancel invite) = own key.0 ≡ true
SignalIsOf own (signal.Answer key response) = Unit {0}
SignalIsOf own (signal.Silent branch method) = Unit {0}
SignalIsOf own (signal.Due what) = Unit {0}
SignalIsOf own (signal.Ended key) = Unit {0}

-- so is the INVITE of a side that awaits its response,
abbrev pub StageIsOf : (own : ℕ → Bool) → Stage → Type 0
StageIsOf own (Answered waiting success) = Unit {0}
StageIsOf own (Departing waiting success) = Unit {0}
StageIsOf own Stable = Unit {0}
StageIsOf own (Reinviting asking q) = own q.key.0 ≡ true

abbrev pub PhaseIsOf : (own : ℕ → Bool) → Phase → Type 0
PhaseIsOf own (Offered x) = Unit {0}
PhaseIsOf own (Established x stage) = StageIsOf own stage
PhaseIsOf own (Detached detached) = Unit {0}
PhaseIsOf own (Over cause) = Unit {0}

-- its PRACK or UPDATE that is in flight,
abbrev pub RelayedIsOf : (own : ℕ → Bool) → RelayedTransaction → Type 0
RelayedIsOf own flight = own flight.exchange.key.0 ≡ true

abbrev pub InFlightIsOf : (own : ℕ → Bool) → List RelayedTransaction → Type 0
InFlightIsOf own flights = Each (RelayedIsOf own) flights

-- and the INVITE that opened the call
pub record CallIsOf (own : ℕ → Bool) (c : Call) : Type 0 where
  pub opening : own c.opening.key.0 ≡ true
  pub phase : PhaseIsOf own c.phase
  pub in_flight : InFlightIsOf own c.relayed

-- ---- each reply of a step is in them, if those that were in the output before are, and the requests of the call remain in them

pub record RepliesIn (own : ℕ → Bool) (s : StepResult) : Type 0 where
  pub call_in : CallIsOf own s.call
  pub out_in : Each (IsRepliedIn own) s.output.out

abbrev pub StepsReplyInTheirOwn : Type 0
StepsReplyInTheirOwn = (own : ℕ → Bool) (config : CallConfigView) (now : SnapshotView) (received : Signal) (c : Call) (output : StepOutput) →
    CallIsOf own c → SignalIsOf own received →
    Each (IsRepliedIn own) output.out → RepliesIn own (step config now received c output)

abbrev pub OpeningsReplyInTheirOwn : Type 0
OpeningsReplyInTheirOwn = (own : ℕ → Bool) (config : CallConfigView) (now : SnapshotView) (arrival : Arrival) (output : StepOutput) → own arrival.key.0 ≡ true →
    Each (IsRepliedIn own) output.out → RepliesIn own (call_after_opening config now arrival output)

-- of the end of a call whose leg is detached
abbrev pub EndsReplyInTheirOwn : Type 0
EndsReplyInTheirOwn = (own : ℕ → Bool) (config : CallConfigView) (at : ℕ) (c : Call) (output : StepOutput) → CallIsOf own c → Each (IsRepliedIn own) output.out →
    RepliesIn own (call_finish config at c output)

-- a leg is detached, or put back
abbrev pub DetachedCallsKeepTheirOwn : Type 0
DetachedCallsKeepTheirOwn = (own : ℕ → Bool) (side : Side) (c : Call) → CallIsOf own c → CallIsOf own (detached_in c.phase side c)

abbrev pub RestoredCallsKeepTheirOwn : Type 0
RestoredCallsKeepTheirOwn = (own : ℕ → Bool) (away : Released) (c : Call) → CallIsOf own c → CallIsOf own (with_leg_restored c.phase away c)

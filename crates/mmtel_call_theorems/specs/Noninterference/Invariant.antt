-- An invariant of a call in a table: the INVITE that opened it, and the requests of a side that await their responses, were sent by their own peers; and the account that is served
-- where it is offered has one of these records. It holds after whatever the call receives.
use Rattle.std.specs.Prelude.{ℕ, List}
use Rattle.mmtel_output.specs.declared.outputs.StepOutput.{StepOutput}
use Rattle.mmtel_leg.specs.declared.legs.Released.{Released}
use Rattle.mmtel_precedence.specs.Calls.{SnapshotView}
use Rattle.mmtel_sheet_values.specs.declared.values.Sheet.{Sheet}
use Rattle.mmtel_types.specs.declared.sides.Side.{Side}
use Rattle.mmtel_call_services.specs.CallConfig.{CallConfigView}
use Rattle.mmtel_call_services.specs.declared.openings.Arrival.{Arrival}
use Rattle.mmtel_call.specs.declared.calls.Call.{Call}
use Rattle.mmtel_call.specs.Detaching.{call_finish, detached_in, with_leg_restored}
use Rattle.mmtel_call.specs.Opening.{call_after_opening}
use Rattle.mmtel_call.specs.Table.{step}
use Rattle.mmtel_call.specs.declared.signals.Signal.{Signal}
use Rattle.mmtel_call.specs.declared.signals.Signal.TheVariants as signal
use Rattle.mmtel_call_theorems.specs.Noninterference.Premises.{IsFromOwnPeer, RecordsCoverSnapshot, requests_are_from_own_peers}
use Rattle.mmtel_call_theorems.specs.Noninterference.Observations.{Trust}
use Rattle.mmtel_call_theorems.specs.Noninterference.StepTable.{ServedIn}

pub record CallInvariant (records : List Sheet) (t : Trust) (c : Call) : Type 0 where
  pub opening : IsFromOwnPeer t c.opening.key c.opening.invite
  pub kept : requests_are_from_own_peers t c
  pub served : ServedIn c.phase records

-- a request that is received was sent by its own peer
abbrev pub SignalIsFromOwnPeer : Trust → Signal → Type 0
SignalIsFromOwnPeer t (signal.Request side key m) = IsFromOwnPeer t key m
SignalIsFromOwnPeer t (signal.Ack side ack) = Unit {0}
SignalIsFromOwnPeer t (signal.Cancel key cancel invite) = Unit {0}
SignalIsFromOwnPeer t (signal.Answer key response) = Unit {0}
SignalIsFromOwnPeer t (signal.Silent branch method) = Unit {0}
SignalIsFromOwnPeer t (signal.Due what) = Unit {0}
SignalIsFromOwnPeer t (signal.Ended key) = Unit {0}

pub record CallsKeepTheirInvariant : Type 0 where
  pub steps : (records : List Sheet) (t : Trust) (config : CallConfigView) (now : SnapshotView) (x : Signal) (c : Call) (output : StepOutput) →
      RecordsCoverSnapshot records now → SignalIsFromOwnPeer t x →
      CallInvariant records t c → CallInvariant records t (step config now x c output).call
  pub openings : (records : List Sheet) (t : Trust) (config : CallConfigView) (now : SnapshotView) (a : Arrival) (output : StepOutput) →
      RecordsCoverSnapshot records now → IsFromOwnPeer t a.key a.invite →
      CallInvariant records t (call_after_opening config now a output).call
  -- a leg is detached or put back, or the call ends without it
  pub out : (records : List Sheet) (t : Trust) (side : Side) (c : Call) → CallInvariant records t c → CallInvariant records t (detached_in c.phase side c)
  pub back : (records : List Sheet) (t : Trust) (leg : Released) (c : Call) → CallInvariant records t c → CallInvariant records t (with_leg_restored c.phase leg c)
  pub ended : (records : List Sheet) (t : Trust) (config : CallConfigView) (at : ℕ) (c : Call) (output : StepOutput) →
      CallInvariant records t c → CallInvariant records t (call_finish config at c output).call

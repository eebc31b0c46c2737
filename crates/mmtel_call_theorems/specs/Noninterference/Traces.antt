-- Two traces of a call, side by side: what each call receives, one signal after another, with the state and the output before it. So what is claimed of them holds however the
-- calls are interleaved with others.
use Rattle.std.specs.Prelude.{◌≡◌, Bool, List, [], ◌∷◌}
use Rattle.mmtel_output.specs.declared.outputs.StepOutput.{StepOutput}
use Rattle.mmtel_precedence.specs.Calls.{SnapshotView}
use Rattle.mmtel_sheet_values.specs.declared.values.Sheet.{Sheet}
use Rattle.mmtel_transaction.specs.declared.words.TKey.{TKey}
use Rattle.mmtel_call_services.specs.CallConfig.{CallConfigView, trusts}
use Rattle.mmtel_call.specs.declared.calls.Call.{Call}
use Rattle.mmtel_call.specs.Closing.{StepResult}
use Rattle.mmtel_call.specs.Table.{step}
use Rattle.mmtel_call.specs.declared.signals.Signal.{Signal}
use Rattle.mmtel_call_theorems.specs.Noninterference.EquivalentCalls.{EquivalentCalls, IsReceived}
use Rattle.mmtel_call_theorems.specs.Noninterference.Premises.{RecordsCoverSnapshot}
use Rattle.mmtel_call_theorems.specs.Noninterference.Roles.{Role}
use Rattle.mmtel_call_theorems.specs.Noninterference.Observations.{EquivalentOutputs, EquivalentSteps, trust_of}
use Rattle.mmtel_call_theorems.specs.Noninterference.StepTable.{public_signal}

-- what one call receives
pub record ReceivedWithRole : Type 0 where
  pub signal : Signal
  pub role : Role
  pub output : StepOutput

-- what both receive, at one moment
pub record StepPair : Type 0 where
  pub now : SnapshotView
  pub one : ReceivedWithRole
  pub other : ReceivedWithRole

-- ---- the calls after all that: the last is first in the list

abbrev pub next : CallConfigView → SnapshotView → ReceivedWithRole → Call → StepResult
next config now e c = step config now e.signal c e.output

abbrev pub one_after : CallConfigView → Call → List StepPair → Call
one_after config c [] = c
one_after config c (both ∷ earlier) = (next config both.now both.one (one_after config c earlier)).call

abbrev pub other_after : CallConfigView → Call → List StepPair → Call
other_after config d [] = d
other_after config d (both ∷ earlier) = (next config both.now both.other (other_after config d earlier)).call

-- ---- they receive the same but for private places

pub record ReceiveEquivalent (records : List Sheet) (config : CallConfigView) (keys : TKey → Bool) (both : StepPair) (c d : Call) : Type 0 where
  pub covered : RecordsCoverSnapshot records both.now
  pub signals : public_signal both.one.role both.one.signal ≡ public_signal both.other.role both.other.signal
  pub one : IsReceived records (trust_of config keys) both.one.signal both.one.role c
  pub other : IsReceived records (trust_of config keys) both.other.signal both.other.role d
  pub outputs : EquivalentOutputs (trust_of config keys) both.one.output both.other.output

abbrev pub AllReceiveEquivalent : (records : List Sheet) → CallConfigView → (keys : TKey → Bool) → Call → Call → List StepPair → Type 0
AllReceiveEquivalent records config keys c d [] = Unit {0}
AllReceiveEquivalent records config keys c d (both ∷ earlier) =
    ReceiveEquivalent records config keys both (one_after config c earlier) (other_after config d earlier) × AllReceiveEquivalent records config keys c d earlier

-- indistinguishable calls remain so through such traces, and each step has the same observable output
pub record TracesStayEquivalent : Type 0 where
  pub calls : (records : List Sheet) (config : CallConfigView) (keys : TKey → Bool) (c d : Call) (trace : List StepPair) → EquivalentCalls records (trusts config) c d →
      AllReceiveEquivalent records config keys c d trace → EquivalentCalls records (trusts config) (one_after config c trace) (other_after config d trace)
  pub steps : (records : List Sheet) (config : CallConfigView) (keys : TKey → Bool) (c d : Call) (both : StepPair) (earlier : List StepPair) →
      EquivalentCalls records (trusts config) c d →
      AllReceiveEquivalent records config keys c d (both ∷ earlier) →
      EquivalentSteps (trust_of config keys) (next config both.now both.one (one_after config c earlier)) (next config both.now both.other (other_after config d earlier))

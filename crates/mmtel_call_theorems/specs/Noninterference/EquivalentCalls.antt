-- Two calls that are equal but for private places: what calls contribute to two related states of a run.
use Rattle.std.specs.Prelude.{◌≡◌, Bool, List}
use Rattle.mmtel_output.specs.declared.outputs.StepOutput.{StepOutput}
use Rattle.mmtel_precedence.specs.Calls.{SnapshotView}
use Rattle.mmtel_sheet_values.specs.declared.values.Sheet.{Sheet}
use Rattle.mmtel_transaction.specs.declared.words.TKey.{TKey}
use Rattle.mmtel_types.specs.declared.numbers.Peer.{Peer}
use Rattle.mmtel_call_services.specs.CallConfig.{CallConfigView, trusts}
use Rattle.mmtel_call.specs.declared.calls.Call.{Call}
use Rattle.mmtel_call.specs.Table.{step}
use Rattle.mmtel_call.specs.declared.signals.Signal.{Signal}
use Rattle.mmtel_call_theorems.specs.Noninterference.PublicCall.{public_part}
use Rattle.mmtel_call_theorems.specs.Noninterference.Premises.{AreDecidedEqually, IsFromOwnPeer, RecordsCoverSnapshot, requests_are_from_own_peers}
use Rattle.mmtel_call_theorems.specs.Noninterference.Roles.{Role}
use Rattle.mmtel_call_theorems.specs.Noninterference.Observations.{EquivalentOutputs, EquivalentSteps, Trust, trust_of}
use Rattle.mmtel_call_theorems.specs.Noninterference.StepTable.{MayReceive, ServedIn, public_signal}

-- they have the same public part, and the same is decided on their callers
pub record EquivalentCalls (records : List Sheet) (trusts : Peer → Bool) (one other : Call) : Type 0 where
  pub same : public_part trusts one ≡ public_part trusts other
  pub callers : AreDecidedEqually records one.opening.identities other.opening.identities

-- a call, and what it receives, with the role of that message: the peers are those of the requests that it keeps, and the message hides no more than the call knows
pub record IsReceived (records : List Sheet) (t : Trust) (x : Signal) (role : Role) (c : Call) : Type 0 where
  pub opening : IsFromOwnPeer t c.opening.key c.opening.invite
  pub kept : requests_are_from_own_peers t c
  pub served : ServedIn c.phase records
  pub may_receive : MayReceive x t role c

-- two indistinguishable calls that receive the same but for private places continue indistinguishably: their public parts remain the same, untrusted peers see the same, of what is
-- sent to trusted peers the heads are the same, and so are deadlines, CDRs and tokens
abbrev pub StepsKeepEquivalence : Type 0
StepsKeepEquivalence = (records : List Sheet) (config : CallConfigView) (keys : TKey → Bool) (now : SnapshotView) (x y : Signal)
    (role second : Role) (c d : Call) (one other : StepOutput) →
    RecordsCoverSnapshot records now → EquivalentCalls records (trusts config) c d → public_signal role x ≡ public_signal second y →
    IsReceived records (trust_of config keys) x role c → IsReceived records (trust_of config keys) y second d → EquivalentOutputs (trust_of config keys) one other →
    EquivalentSteps (trust_of config keys) (step config now x c one) (step config now y d other)

-- what is known of a call as it opens does not change, whatever it receives
abbrev pub OpeningsStay : Type 0
OpeningsStay = (config : CallConfigView) (now : SnapshotView) (x : Signal) (c : Call) (output : StepOutput) → (step config now x c output).call.opening ≡ c.opening

-- so two indistinguishable calls remain so
abbrev pub CallsStayEquivalent : Type 0
CallsStayEquivalent = (records : List Sheet) (config : CallConfigView) (keys : TKey → Bool) (now : SnapshotView) (x y : Signal)
    (role second : Role) (c d : Call) (one other : StepOutput) →
    RecordsCoverSnapshot records now → EquivalentCalls records (trusts config) c d → public_signal role x ≡ public_signal second y →
    IsReceived records (trust_of config keys) x role c → IsReceived records (trust_of config keys) y second d → EquivalentOutputs (trust_of config keys) one other →
    EquivalentCalls records (trusts config) (step config now x c one).call (step config now y d other).call

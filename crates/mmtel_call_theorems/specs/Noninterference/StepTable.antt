-- The step table as a whole: what it uses of a call and of a signal is their public parts.
use Rattle.std.specs.Prelude.{◌≡◌, ℕ, Bool, true, false, Option, Some, None, List}
use Rattle.mmtel_compose.specs.ReceivedMessages.{MessageView}
use Rattle.mmtel_output.specs.declared.outputs.StepOutput.{StepOutput}
use Rattle.mmtel_precedence.specs.Calls.{SnapshotView}
use Rattle.mmtel_rules.specs.declared.values.Identities2.{Identities2}
use Rattle.mmtel_sheet_values.specs.declared.values.Sheet.{Sheet}
use Rattle.mmtel_transaction.specs.declared.words.TKey.{TKey}
use Rattle.mmtel_types.specs.Sides.{other_side}
use Rattle.mmtel_types.specs.declared.sides.Side.{Side}
use Rattle.mmtel_output.specs.ResponseMatching.{awaited_request_branch}
use Rattle.mmtel_call_services.specs.CallConfig.{CallConfigView, trusts}
use Rattle.mmtel_call.specs.declared.calls.Call.{Call}
use Rattle.mmtel_call.specs.declared.calls.Phase.{Phase}
use Rattle.mmtel_call.specs.declared.calls.Phase.TheVariants.{Detached, Established, Offered, Over}
use Rattle.mmtel_call.specs.declared.calls.Stage.TheVariants.{Answered, Departing, Reinviting, Stable}
use Rattle.mmtel_call.specs.Table.{is_current, step}
use Rattle.mmtel_call.specs.declared.signals.Signal.{Signal}
use Rattle.mmtel_call.specs.declared.signals.Signal.TheVariants as signal
use Rattle.mmtel_call_theorems.specs.Noninterference.PublicCall.{public_call}
use Rattle.mmtel_call_theorems.specs.Noninterference.Premises.{CanContinue, Fits, FitsOffered, IsFromOwnPeer, IsResponseOf, IsTargets}
use Rattle.mmtel_call_theorems.specs.Noninterference.Premises.{MayReceiveOther, RecordsCoverService, requests_are_from_own_peers, stage_is_sent}
use Rattle.mmtel_call_theorems.specs.Noninterference.Roles.{Role, without_private}
use Rattle.mmtel_call_theorems.specs.Noninterference.Observations.{EquivalentOutputs, EquivalentSteps, Trust, trust_of}

-- a signal without the private places of its message, which has this role
abbrev pub public_signal : Role → Signal → Signal
public_signal role (signal.Request side key request) = signal.Request side key (without_private role request)
public_signal role (signal.Ack side ack) = signal.Ack side (without_private role ack)
public_signal role (signal.Cancel key cancel invite) = signal.Cancel key (without_private role cancel) invite
public_signal role (signal.Answer key response) = signal.Answer key (without_private role response)
public_signal role (signal.Silent branch method) = signal.Silent branch method
public_signal role (signal.Due what) = signal.Due what
public_signal role (signal.Ended key) = signal.Ended key

-- ---- conditions on a signal, by the phase of the call that receives it

abbrev pub FitsIn : Phase → Call → Side → MessageView → Role → Type 0
FitsIn (Offered x) c side m role = FitsOffered c.opening x.attempt.service side m role
FitsIn (Established x stage) c side m role = Fits c.opening x.service side m role
FitsIn (Detached detached) c side m role = Unit {0}
FitsIn (Over cause) c side m role = Unit {0}

abbrev pub SentIn : Phase → Trust → Call → Side → MessageView → Type 0
SentIn (Offered x) t c side m = Unit {0}
SentIn (Established x stage) t c side m = stage_is_sent t c x side m stage
SentIn (Detached detached) t c side m = Unit {0}
SentIn (Over cause) t c side m = Unit {0}

abbrev pub ServedIn : Phase → (records : List Sheet) → Type 0
ServedIn (Offered x) records = RecordsCoverService records x.attempt.service
ServedIn (Established x stage) records = Unit {0}
ServedIn (Detached detached) records = Unit {0}
ServedIn (Over cause) records = Unit {0}

-- a response to the INVITE for which the call waits
abbrev pub RespondsIn : Phase → Trust → TKey → Role → MessageView → Call → Type 0
RespondsIn (Offered x) t key role m c = IsTargets t key x role m c.opening
RespondsIn (Established x (Answered side success)) t key role m c = Unit {0}
RespondsIn (Established x (Departing side success)) t key role m c = Unit {0}
RespondsIn (Established x Stable) t key role m c = Unit {0}
RespondsIn (Established x (Reinviting side q)) t key role m c = IsResponseOf t key q.invite.dialogue.peer role m × Fits c.opening x.service (other_side side) m role
RespondsIn (Detached detached) t key role m c = Unit {0}
RespondsIn (Over cause) t key role m c = Unit {0}

-- by the request to which it belongs: the INVITE for which the call waits, or another one
abbrev pub RespondsToOne : Option (List ℕ) → Trust → TKey → Role → MessageView → Call → Type 0
RespondsToOne None t key role m c = Unit {0}
RespondsToOne (Some branch) t key role m c =
    (is_current branch c ≡ true → RespondsIn c.phase t key role m c) × (is_current branch c ≡ false → MayReceiveOther t key branch role m c)

abbrev pub MayReceive : Signal → Trust → Role → Call → Type 0
MayReceive (signal.Request side key request) t role c = IsFromOwnPeer t key request × FitsIn c.phase c side request role
MayReceive (signal.Ack side ack) t role c = FitsIn c.phase c side ack role × SentIn c.phase t c side ack
MayReceive (signal.Cancel key cancel invite) t role c = IsFromOwnPeer t key cancel
MayReceive (signal.Answer key response) t role c = RespondsToOne (awaited_request_branch response) t key role response c
MayReceive (signal.Silent branch method) t role c = Unit {0}
MayReceive (signal.Due what) t role c = Unit {0}
MayReceive (signal.Ended key) t role c = Unit {0}

-- ---- the table

-- on any signal: with the public parts in the place of the call and of the signal, and another caller on whom the same is decided, the call after a step has the same public part,
-- and the observable output is the same
abbrev pub StepsSeePublicParts : Type 0
StepsSeePublicParts = (records : List Sheet) (config : CallConfigView) (keys : TKey → Bool) (now : SnapshotView) (who : Identities2)
    (x : Signal) (role : Role) (c : Call) (one other : StepOutput) →
    CanContinue records (trust_of config keys) now who c → requests_are_from_own_peers (trust_of config keys) c → ServedIn c.phase records →
    MayReceive x (trust_of config keys) role c →
    EquivalentOutputs (trust_of config keys) one other →
    EquivalentSteps (trust_of config keys) (step config now (public_signal role x) (public_call (trusts config) who c) one) (step config now x c other)

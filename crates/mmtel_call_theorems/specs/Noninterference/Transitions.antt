-- What each transition of the step table uses of a call and of a message: their public parts alone. With these in the place of the call and of the message, and with the same
-- observable output before, the call afterwards has the same public part, and the observable output is the same.
use Rattle.std.specs.Prelude.{◌≡◌, ℕ, Bool, false, if◌then◌else◌, nat_lt, Option, Some, List}
use Rattle.std.specs.Option.{option_map}
use Rattle.mmtel_compose.specs.ReceivedMessages.{MessageView}
use Rattle.mmtel_output.specs.declared.outputs.StepOutput.{StepOutput}
use Rattle.mmtel_precedence.specs.Calls.{AttemptEndView, SnapshotView}
use Rattle.mmtel_rules.specs.declared.values.Identities2.{Identities2}
use Rattle.mmtel_sheet_values.specs.declared.values.Sheet.{Sheet}
use Rattle.mmtel_transaction.specs.declared.words.DueWord.{DueWord}
use Rattle.mmtel_transaction.specs.declared.words.TKey.{TKey}
use Rattle.mmtel_types.specs.Sides.{other_side}
use Rattle.mmtel_types.specs.declared.sides.Side.{Side}
use Rattle.mmtel_types.specs.declared.sides.Side.TheVariants.{Callee}
use Rattle.mmtel_call_services.specs.CallConfig.{CallConfigView, trusts}
use Rattle.mmtel_call.specs.declared.calls.Call.{Call}
use Rattle.mmtel_call.specs.declared.calls.EstablishedLegs.{EstablishedLegs}
use Rattle.mmtel_call.specs.declared.calls.Reinvite.{Reinvite}
use Rattle.mmtel_call.specs.declared.calls.Stage.{Stage}
use Rattle.mmtel_call.specs.declared.calls.OfferedAttempt.{OfferedAttempt}
use Rattle.mmtel_call.specs.declared.calls.Stage.TheVariants.{Reinviting}
use Rattle.mmtel_call.specs.Diverting.{after_attempt}
use Rattle.mmtel_call.specs.RelayedTransactions.{output_after_dismissal}
use Rattle.mmtel_call.specs.OtherRequests.{on_other_response, on_other_timeout}
use Rattle.mmtel_call.specs.Ringing.{on_answer, on_cancel, on_due, on_provisional, on_request, on_response, on_timeout, on_trying}
use Rattle.mmtel_call.specs.Stages.{on_ack_at, on_cancel_at, on_due_at, on_request_at, on_response_at, on_timeout_at}
use Rattle.mmtel_call_theorems.specs.Noninterference.PublicCall.{public_call, public_established, public_offered, public_stage}
use Rattle.mmtel_call_theorems.specs.Noninterference.Premises.{AreDecidedEqually, CanContinue, Fits, FitsOffered, HasNothingPrivate, IsFromOwnPeer}
use Rattle.mmtel_call_theorems.specs.Noninterference.Premises.{IsResponseOf, IsTargets, MayReceiveOther, RecordsCoverService, RecordsCoverSnapshot}
use Rattle.mmtel_call_theorems.specs.Noninterference.Premises.{in_flight_is_from_own_peers, stage_is_from_own_peer, stage_is_sent}
use Rattle.mmtel_call_theorems.specs.Noninterference.Roles.{Role, without_private}
use Rattle.mmtel_call_theorems.specs.Noninterference.Observations.{EquivalentOutputs, EquivalentSteps, trust_of}

-- ---- while it is offered (RFC 3261 §9.2, §12.2.2, §15.1.2)

-- a request of a side: BYE of the caller abandons the call; its PRACK, and an UPDATE, are relayed; the server itself responds to others
abbrev pub RequestsWhileOffered : Type 0
RequestsWhileOffered = (config : CallConfigView) (keys : TKey →
    Bool) (who : Identities2) (at : ℕ) (x : OfferedAttempt) (side : Side) (key : TKey) (role : Role) (m : MessageView) (c : Call) (one other : StepOutput) →
    IsFromOwnPeer (trust_of config keys) c.opening.key c.opening.invite → IsFromOwnPeer (trust_of config keys) key m → FitsOffered c.opening x.attempt.service side m role →
    EquivalentOutputs (trust_of config keys) one other →
    EquivalentSteps (trust_of config keys) (on_request config at (public_offered (trusts config) x) side key (without_private role m) (public_call (trusts config) who c) one)
    (on_request config at x side key m c other)

-- CANCEL of the INVITE that opened the call, or of another one
abbrev pub CancelsWhileOffered : Type 0
CancelsWhileOffered = (config : CallConfigView) (keys : TKey →
    Bool) (who : Identities2) (at : ℕ) (x : OfferedAttempt) (key : TKey) (role : Role) (m : MessageView) (invite : TKey) (c : Call) (one other : StepOutput) →
    IsFromOwnPeer (trust_of config keys) c.opening.key c.opening.invite → IsFromOwnPeer (trust_of config keys) key m → EquivalentOutputs (trust_of config keys) one other →
    EquivalentSteps (trust_of config keys) (on_cancel config at (public_offered (trusts config) x) key (without_private role m) invite (public_call (trusts config) who c) one)
    (on_cancel config at x key m invite c other)

-- ---- once it is answered (§13.3.1.4, §14, §15)

-- a request of a side: BYE leaves, at each stage; an INVITE and an UPDATE are relayed; the server itself responds to others
abbrev pub RequestsOnceAnswered : Type 0
RequestsOnceAnswered = (stage : Stage) (config : CallConfigView) (keys : TKey →
    Bool) (who : Identities2) (at : ℕ) (x : EstablishedLegs) (side : Side) (key : TKey) (role : Role) (m : MessageView) (c : Call) (one other : StepOutput) →
    IsFromOwnPeer (trust_of config keys) key m → Fits c.opening x.service side m role →
    stage_is_from_own_peer (trust_of config keys) stage → EquivalentOutputs (trust_of config keys) one other →
    EquivalentSteps (trust_of config keys)
    (on_request_at (public_stage (trusts config) stage) config at (public_established (trusts config) x) side key (without_private role m) (public_call (trusts config) who c) one)
    (on_request_at stage config at x side key m c other)

-- CANCEL of the INVITE that a side sent
abbrev pub CancelsOnceAnswered : Type 0
CancelsOnceAnswered = (stage : Stage) (config : CallConfigView) (keys : TKey → Bool) (who : Identities2) (x : EstablishedLegs) (invite : TKey) (c : Call) (one other : StepOutput) →
    EquivalentOutputs (trust_of config keys) one other →
    EquivalentSteps (trust_of config keys)
    (on_cancel_at (public_stage (trusts config) stage) config (public_established (trusts config) x) invite (public_call (trusts config) who c) one)
    (on_cancel_at stage config x invite c other)

-- the other side's response to that INVITE, and its timeout
abbrev pub ResponsesAcross : Type 0
ResponsesAcross = (asking : Side) (q : Reinvite) (config : CallConfigView) (keys : TKey →
    Bool) (who : Identities2) (at : ℕ) (x : EstablishedLegs) (key : TKey) (role : Role) (m : MessageView) (c : Call) (one other : StepOutput) →
    IsFromOwnPeer (trust_of config keys) q.key q.request → IsResponseOf (trust_of config keys) key q.invite.dialogue.peer role m →
    Fits c.opening x.service (other_side asking) m role →
    EquivalentOutputs (trust_of config keys) one other →
    EquivalentSteps (trust_of config keys)
    (on_response_at (public_stage (trusts config) (Reinviting asking q)) config at (public_established (trusts config) x) key (without_private role m)
    (public_call (trusts config) who c) one) (on_response_at (Reinviting asking q) config at x key m c other)

abbrev pub TimeoutsOnceAnswered : Type 0
TimeoutsOnceAnswered = (stage : Stage) (config : CallConfigView) (keys : TKey → Bool) (who : Identities2) (at : ℕ) (x : EstablishedLegs) (c : Call) (one other : StepOutput) →
    stage_is_from_own_peer (trust_of config keys) stage → EquivalentOutputs (trust_of config keys) one other →
    EquivalentSteps (trust_of config keys)
    (on_timeout_at (public_stage (trusts config) stage) config at (public_established (trusts config) x) (public_call (trusts config) who c) one)
    (on_timeout_at stage config at x c other)

-- a 2xx that got no ACK, and a session that nobody refreshed
abbrev pub DeadlinesOnceAnswered : Type 0
DeadlinesOnceAnswered = (stage : Stage) (config : CallConfigView) (keys : TKey → Bool) (who : Identities2) (at : ℕ) (x : EstablishedLegs)
    (what : DueWord) (c : Call) (one other : StepOutput) →
    stage_is_from_own_peer (trust_of config keys) stage → EquivalentOutputs (trust_of config keys) one other →
    EquivalentSteps (trust_of config keys)
    (on_due_at (public_stage (trusts config) stage) config at (public_established (trusts config) x) what (public_call (trusts config) who c) one)
    (on_due_at stage config at x what c other)

-- ---- what the target sends before it refuses (§12.1.2, §13.2.2, §16.7)

-- 100, which is not relayed, and other provisional responses, which are relayed to the caller, as reliable ones or not
abbrev pub ProvisionalToAttempt : Type 0
ProvisionalToAttempt = (config : CallConfigView) (keys : TKey → Bool) (who : Identities2) (at : ℕ) (x : OfferedAttempt) (key : TKey)
    (role : Role) (m : MessageView) (code : ℕ) (c : Call) (one other : StepOutput) →
    IsFromOwnPeer (trust_of config keys) c.opening.key c.opening.invite → Fits c.opening x.attempt.service Callee m role →
    (trusts config x.callee.leg.dialogue.peer ≡ false → HasNothingPrivate role m) → (trusts config x.attempt.invite.dialogue.peer ≡ false → HasNothingPrivate role m) →
    EquivalentOutputs (trust_of config keys) one other →
    EquivalentSteps (trust_of config keys)
    (if nat_lt code 101 then on_trying key (public_offered (trusts config) x) (public_call (trusts config) who c) one
    else on_provisional config at (public_offered (trusts config) x) key (without_private role m) code (public_call (trusts config) who c) one)
    (if nat_lt code 101 then on_trying key x c other else on_provisional config at x key m code c other)

-- the 2xx
abbrev pub SuccessToAttempt : Type 0
SuccessToAttempt = (config : CallConfigView) (keys : TKey → Bool) (who : Identities2) (at : ℕ) (x : OfferedAttempt) (key : TKey)
    (role : Role) (m : MessageView) (c : Call) (one other : StepOutput) →
    IsFromOwnPeer (trust_of config keys) c.opening.key c.opening.invite → Fits c.opening x.attempt.service Callee m role →
    (trusts config x.callee.leg.dialogue.peer ≡ false → HasNothingPrivate role m) → EquivalentOutputs (trust_of config keys) one other →
    EquivalentSteps (trust_of config keys) (on_answer config at (public_offered (trusts config) x) key (without_private role m) (public_call (trusts config) who c) one)
    (on_answer config at x key m c other)

-- ---- how a call continues after an attempt (TS 24.604 §4.5.2.6, RFC 7044 §7)

-- it is diverted or refused, whatever diversions follow: for callers on whom the same is decided the outcome is the same
abbrev pub EndsOfAttempts : Type 0
EndsOfAttempts = (records : List Sheet) (config : CallConfigView) (keys : TKey →
    Bool) (now : SnapshotView) (who : Identities2) (x : OfferedAttempt) (how : AttemptEndView) (role : Role) (m : Option MessageView) (c : Call) (one other : StepOutput) →
    IsFromOwnPeer (trust_of config keys) c.opening.key c.opening.invite → AreDecidedEqually records who c.opening.identities →
    RecordsCoverSnapshot records now → RecordsCoverService records x.attempt.service →
    ((n : MessageView) → m ≡ Some n → Fits c.opening x.attempt.service Callee n role) → EquivalentOutputs (trust_of config keys) one other →
    EquivalentSteps (trust_of config keys)
    (after_attempt config now (public_offered (trusts config) x) how (option_map (without_private role) m) (public_call (trusts config) who c) one)
    (after_attempt config now x how m c other)

-- any response of the target of an attempt
abbrev pub ResponsesWhileOffered : Type 0
ResponsesWhileOffered = (records : List Sheet) (config : CallConfigView) (keys : TKey →
    Bool) (now : SnapshotView) (who : Identities2) (x : OfferedAttempt) (key : TKey) (role : Role) (m : MessageView) (code : ℕ) (c : Call) (one other : StepOutput) →
    CanContinue records (trust_of config keys) now who c → RecordsCoverService records x.attempt.service → IsTargets (trust_of config keys) key x role m c.opening →
    EquivalentOutputs (trust_of config keys) one other →
    EquivalentSteps (trust_of config keys) (on_response config now (public_offered (trusts config) x) key (without_private role m) code (public_call (trusts config) who c) one)
    (on_response config now x key m code c other)

-- its timeout, and the deadlines of an attempt and of its reliable responses
abbrev pub TimeoutsWhileOffered : Type 0
TimeoutsWhileOffered = (records : List Sheet) (config : CallConfigView) (keys : TKey → Bool) (now : SnapshotView) (who : Identities2)
    (x : OfferedAttempt) (c : Call) (one other : StepOutput) →
    CanContinue records (trust_of config keys) now who c → RecordsCoverService records x.attempt.service → EquivalentOutputs (trust_of config keys) one other →
    EquivalentSteps (trust_of config keys) (on_timeout config now (public_offered (trusts config) x) (public_call (trusts config) who c) one) (on_timeout config now x c other)

abbrev pub DeadlinesWhileOffered : Type 0
DeadlinesWhileOffered = (records : List Sheet) (config : CallConfigView) (keys : TKey → Bool) (now : SnapshotView) (who : Identities2)
    (x : OfferedAttempt) (what : DueWord) (c : Call) (one other : StepOutput) →
    CanContinue records (trust_of config keys) now who c → RecordsCoverService records x.attempt.service → EquivalentOutputs (trust_of config keys) one other →
    EquivalentSteps (trust_of config keys) (on_due config now (public_offered (trusts config) x) what (public_call (trusts config) who c) one) (on_due config now x what c other)

-- ---- requests for which the call does not wait, whatever its phase (RFC 3261 §9.1, §13.2.2.4, §17.1.1.3, RFC 3262 §4, RFC 3311 §5)

-- a response to an INVITE that was abandoned, or had a 2xx, and to a request in flight
abbrev pub ResponsesToOthers : Type 0
ResponsesToOthers = (config : CallConfigView) (keys : TKey → Bool) (who : Identities2) (at : ℕ) (key : TKey) (role : Role) (m : MessageView)
    (branch : List ℕ) (c : Call) (one other : StepOutput) →
    in_flight_is_from_own_peers (trust_of config keys) c.relayed → MayReceiveOther (trust_of config keys) key branch role m c → EquivalentOutputs (trust_of config keys) one other →
    EquivalentSteps (trust_of config keys) (on_other_response config at key (without_private role m) branch (public_call (trusts config) who c) one)
    (on_other_response config at key m branch c other)

-- a timeout: a request in flight gets its final response
abbrev pub TimeoutsOfOthers : Type 0
TimeoutsOfOthers = (config : CallConfigView) (keys : TKey → Bool) (who : Identities2) (branch : List ℕ) (c : Call) (one other : StepOutput) →
    in_flight_is_from_own_peers (trust_of config keys) c.relayed → EquivalentOutputs (trust_of config keys) one other →
    EquivalentSteps (trust_of config keys) (on_other_timeout config branch (public_call (trusts config) who c) one) (on_other_timeout config branch c other)

-- requests in flight get their final responses before everything else in a step that ends the attempt without a 2xx, or ends the call (RFC 3262 §3, RFC 3311 §5.2)
abbrev pub Dismissals : Type 0
Dismissals = (config : CallConfigView) (keys : TKey → Bool) (who : Identities2) (c : Call) (one other : StepOutput) →
    in_flight_is_from_own_peers (trust_of config keys) c.relayed → EquivalentOutputs (trust_of config keys) one other →
    EquivalentOutputs (trust_of config keys) (output_after_dismissal config (public_call (trusts config) who c) one) (output_after_dismissal config c other)

-- the ACK of a 2xx: it is relayed, and kept; or a departing call ends
abbrev pub AcksOnceAnswered : Type 0
AcksOnceAnswered = (stage : Stage) (config : CallConfigView) (keys : TKey → Bool) (who : Identities2) (at : ℕ) (x : EstablishedLegs)
    (side : Side) (role : Role) (m : MessageView) (c : Call)
    (one other : StepOutput) →
    Fits c.opening x.service side m role → stage_is_sent (trust_of config keys) c x side m stage → EquivalentOutputs (trust_of config keys) one other →
    EquivalentSteps (trust_of config keys)
    (on_ack_at (public_stage (trusts config) stage) config at (public_established (trusts config) x) side (without_private role m) (public_call (trusts config) who c) one)
    (on_ack_at stage config at x side m c other)

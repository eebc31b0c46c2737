-- What is observed of a call from outside while it is offered: the INVITEs to its targets, and the final response to its caller (RFC 3261 §13.2.1, §13.3.1, §16.6, §16.7).
use Rattle.std.specs.Prelude.{◌≡◌, true, false, ℕ, ◌==◌, nat_lt, Bool, if◌then◌else◌, List, [], ◌∷◌, ◌++◌, Option, Some, None, codes}
use Rattle.mmtel_compose.specs.ReceivedMessages.{status_of as status_in}
use Rattle.mmtel_history.specs.EntryUri.{with_cause}
use Rattle.mmtel_leg.specs.Dialogues.{request_uri}
use Rattle.mmtel_lex.specs.Grammar.{uri_text}
use Rattle.mmtel_lex.specs.declared.values.Uri.{Uri}
use Rattle.mmtel_message.specs.Faults.{is_method}
use Rattle.mmtel_precedence.specs.Calls.{Answered, CallResult, Final, NotOffered, OfferState, Offered, OutcomeTarget, Pending}
use Rattle.mmtel_precedence.specs.Services.{DueDiversionView}
use Rattle.mmtel_transaction.specs.declared.words.Emit.{Emit}
use Rattle.mmtel_transaction.specs.declared.words.Emit.TheVariants as emit
use Rattle.mmtel_transaction.specs.declared.words.TKey.{TKey}
use Rattle.mmtel_types.specs.Causes.{status_of}
use Rattle.mmtel_call_services.specs.declared.openings.Opening.{Opening}
use Rattle.mmtel_call.specs.Requests.{is_invite}
use Rattle.mmtel_call.specs.declared.calls.RelayedTransaction.{RelayedTransaction}
use Rattle.mmtel_call.specs.declared.calls.Phase.{Phase}
use Rattle.mmtel_call.specs.declared.calls.Phase.TheVariants as phases
use Rattle.mmtel_call.specs.declared.calls.Stage.{Stage}
use Rattle.mmtel_call.specs.declared.calls.Stage.TheVariants as stages
use Rattle.mmtel_call.specs.declared.signals.Signal.{Signal}
use Rattle.mmtel_call.specs.declared.signals.Signal.TheVariants as signal
use Rattle.mmtel_call_theorems.specs.NoInjection.Emits.{Each}
use Rattle.mmtel_call_theorems.specs.CallTrace.{TraceStart, TraceStep, call_after, first_step, items_added, next_step}

-- ---- what is observed in what is sent

pub data Label : Type 0 where
  -- an INVITE, with this Request-URI
  Invited : (uri : List ℕ) → Label
  -- a 2xx to the INVITE that opened the call
  Accepted : Label
  -- any other final response to it
  Refused : (code : ℕ) → Label

-- by a status; a provisional one is no final response
abbrev pub final_label : (code : ℕ) → List Label
final_label code = if nat_lt code 200 then [] else if nat_lt code 300 then Accepted ∷ [] else Refused code ∷ []

-- of what is sent, where the INVITE that opened the call has this server transaction
abbrev pub label_of : (key : TKey) → Emit → List Label
label_of key (emit.Ask peer m) = if is_method (codes "INVITE") m.start then Invited (request_uri m.start) ∷ [] else []
label_of key (emit.Reply asked m) = if asked.0 == key.0 then final_label (status_in m.start) else []
label_of key (emit.Plain peer text) = []
label_of key (emit.Ack asked m) = []
label_of key (emit.Settled answered own) = []
label_of key (emit.Arm call what at) = []
label_of key (emit.ArmSeat room seat what at) = []

abbrev pub labels_of : (key : TKey) → List Emit → List Label
labels_of key [] = []
labels_of key (e ∷ later) = label_of key e ++ labels_of key later

-- ---- what is observed of a step, whether or not the call is offered

-- an INVITE that a side sends within the call (RFC 3261 §14),
abbrev pub is_reinvite : Signal → Bool
is_reinvite (signal.Request side asked request) = is_invite request
is_reinvite (signal.Ack side ack) = false
is_reinvite (signal.Cancel asked cancel invite) = false
is_reinvite (signal.Answer asked response) = false
is_reinvite (signal.Silent branch method) = false
is_reinvite (signal.Due what) = false
is_reinvite (signal.Ended asked) = false

-- which is relayed to the other side: all but the first INVITE, which is that one
abbrev pub without_relayed_invite : List Label → List Label
without_relayed_invite [] = []
without_relayed_invite (Invited uri ∷ later) = later
without_relayed_invite (Accepted ∷ later) = Accepted ∷ without_relayed_invite later
without_relayed_invite (Refused code ∷ later) = Refused code ∷ without_relayed_invite later

-- where this was received, and this was sent
abbrev pub labels_of_step : (key : TKey) → Signal → List Emit → List Label
labels_of_step key received out = if is_reinvite received then without_relayed_invite (labels_of key out) else labels_of key out

-- ---- what Outcome gives

-- the Request-URI: that of the first target is as the INVITE requested it, that of a diversion has its cause (RFC 4458)
abbrev pub request_uri_at : Opening → Option DueDiversionView → Uri → List ℕ
request_uri_at o None uri = request_uri o.invite.parsed.start
request_uri_at o (Some due) uri = with_cause due.cause (uri_text uri)

abbrev pub label_if : OfferState → (uri : List ℕ) → List Label
label_if NotOffered uri = []
label_if (Offered waiting) uri = Invited uri ∷ []

-- of each target to which the call is offered
abbrev pub labels_of_targets : Opening → List OutcomeTarget → List Label
labels_of_targets o [] = []
labels_of_targets o (target ∷ later) = label_if target.offer (request_uri_at o target.diversion target.uri) ++ labels_of_targets o later

-- by the result
abbrev pub label_of_result : CallResult → List Label
label_of_result Pending = []
label_of_result Answered = Accepted ∷ []
label_of_result (Final cause) = final_label (status_of cause)

-- ---- in a trace

-- the phase of a call that is offered to a target
abbrev pub is_offered : Phase → Bool
is_offered (phases.Offered x) = true
is_offered (phases.Established x stage) = false
is_offered (phases.Detached detached) = false
is_offered (phases.Over cause) = false

-- what was sent as it opened, and in the steps at which it was offered, in order
unfoldable pub emits_while_offered : TraceStart → List TraceStep → List Emit
emits_while_offered s [] = items_added s.output.out (first_step s).output.out
emits_while_offered s (x ∷ earlier) =
    emits_while_offered s earlier ++ (if is_offered (call_after s earlier).phase then items_added x.output.out (next_step s x (call_after s earlier)).output.out else [])

-- a request that is received later has another server transaction than the INVITE that opened the call
abbrev pub HasOtherKey : (key : TKey) → Signal → Type 0
HasOtherKey key (signal.Request side asked request) = (asked.0 == key.0) ≡ false
HasOtherKey key (signal.Ack side ack) = Unit {0}
HasOtherKey key (signal.Cancel asked cancel invite) = (asked.0 == key.0) ≡ false
HasOtherKey key (signal.Answer asked response) = Unit {0}
HasOtherKey key (signal.Silent branch method) = Unit {0}
HasOtherKey key (signal.Due what) = Unit {0}
HasOtherKey key (signal.Ended asked) = Unit {0}

-- a call that waits for the response to an INVITE of a side waits for that to another request than the INVITE that opened it
abbrev pub StageHasOtherKey : (key : TKey) → Stage → Type 0
StageHasOtherKey key (stages.Answered waiting success) = Unit {0}
StageHasOtherKey key (stages.Departing waiting success) = Unit {0}
StageHasOtherKey key stages.Stable = Unit {0}
StageHasOtherKey key (stages.Reinviting asking q) = (q.key.0 == key.0) ≡ false

abbrev pub PhaseHasOtherKey : (key : TKey) → Phase → Type 0
PhaseHasOtherKey key (phases.Offered x) = Unit {0}
PhaseHasOtherKey key (phases.Established x stage) = StageHasOtherKey key stage
PhaseHasOtherKey key (phases.Detached detached) = Unit {0}
PhaseHasOtherKey key (phases.Over cause) = Unit {0}

-- the same for the requests in flight
abbrev pub InFlightHasOtherKeys : (key : TKey) → List RelayedTransaction → Type 0
InFlightHasOtherKeys key flights = Each (λ (flight : RelayedTransaction). (flight.exchange.key.0 == key.0) ≡ false) flights

-- and each step has an empty output before it
abbrev pub HaveEmptyOutputs : TraceStart → List TraceStep → Type 0
HaveEmptyOutputs s [] = s.output.out ≡ []
HaveEmptyOutputs s (x ∷ earlier) = (x.output.out ≡ []) × HasOtherKey s.arrival.key x.signal × HaveEmptyOutputs s earlier

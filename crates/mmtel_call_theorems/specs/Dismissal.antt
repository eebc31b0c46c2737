-- Requests in flight of a call: the PRACKs and UPDATEs that were relayed and have no final response (RFC 3262 §4, RFC 3311 §5.1). There is one more after a side sent one, in the
-- dialog of the other side; one fewer after its final response was relayed back; and none after the attempt ended without a 2xx or the call is over: each has had its final
-- response then, before everything else in that step (RFC 3262 §3, RFC 3311 §5.2).
use Rattle.std.specs.Prelude.{◌≡◌, ◌⊎◌, ℕ, not, Bool, true, false, List, [], ◌∷◌, ◌++◌, map, Option, Some, None, slice_get}
use Rattle.std.specs.List.{filter}
use Rattle.mmtel_compose.specs.Responses.{own_response}
use Rattle.mmtel_call.specs.Answered.{leg_of}
use Rattle.mmtel_call.specs.Closing.{StepResult}
use Rattle.mmtel_call.specs.RelayedTransactions.{is_updating}
use Rattle.mmtel_call.specs.Detaching.{call_finish, is_detached}
use Rattle.mmtel_call.specs.Table.{step}
use Rattle.mmtel_call.specs.declared.calls.Call.{Call}
use Rattle.mmtel_call.specs.declared.calls.RelayedTransaction.{RelayedTransaction}
use Rattle.mmtel_call.specs.declared.calls.RelayedKind.{RelayedKind}
use Rattle.mmtel_call.specs.declared.calls.RelayedKind.TheVariants.{Prack, Update}
use Rattle.mmtel_call.specs.declared.calls.Phase.{Phase}
use Rattle.mmtel_call.specs.declared.calls.Phase.TheVariants.{Detached, Established, Offered, Over}
use Rattle.mmtel_call.specs.declared.signals.Signal.{Signal}
use Rattle.mmtel_call.specs.declared.signals.Signal.TheVariants as signal
use Rattle.mmtel_call_services.specs.CallConfig.{CallConfigView}
use Rattle.mmtel_output.specs.SentInvites.{without_at}
use Rattle.mmtel_output.specs.declared.outputs.StepOutput.{StepOutput}
use Rattle.mmtel_leg.specs.Dialogues.{after_request}
use Rattle.mmtel_leg.specs.declared.dialogues.Dialogue.{Dialogue}
use Rattle.mmtel_message.specs.Addresses.{contact_text}
use Rattle.mmtel_message.specs.Message.{Message}
use Rattle.mmtel_message.specs.declared.messages.Start.{Start as StartLine}
use Rattle.mmtel_precedence.specs.Calls.{SnapshotView}
use Rattle.mmtel_transaction.specs.declared.words.Emit.{Emit}
use Rattle.mmtel_transaction.specs.declared.words.Emit.TheVariants as emit
use Rattle.mmtel_types.specs.Sides.{other_side}
use Rattle.mmtel_types.specs.declared.sides.Side.{Side}
use Rattle.mmtel_types.specs.declared.sides.Side.TheVariants.{Caller, Callee}
use Rattle.mmtel_call_theorems.specs.Branches.SentRequests.{method_of}
use Rattle.mmtel_call_theorems.specs.NoInjection.Emits.{Each}
use Rattle.mmtel_call_theorems.specs.Replies.{CallIsOf, IsRepliedIn, SignalIsOf}
use Rattle.mmtel_call_theorems.specs.CallTrace.{TraceStart, TraceStep, call_after, first_step, is_over}

-- ---- the attempt ended without a 2xx, or the call ended

-- there is another attempt, by its number; or the call is over, and was not before
abbrev pub AttemptHasEnded : (before after : Call) → Type 0
AttemptHasEnded before after = (after.attempts ≡ before.attempts → ⊥) ⊎ ((is_over before.phase ≡ false) × (is_over after.phase ≡ true))

-- the status of the final response to a request in flight then: 481 to a PRACK, which acknowledges nothing any more, 487 to an UPDATE
abbrev pub status_of : RelayedKind → ℕ
status_of Prack = 481
status_of Update = 487

abbrev pub final_of : CallConfigView → Call → RelayedTransaction → Emit
final_of config c flight = emit.Reply flight.exchange.key (own_response (contact_text config.sip) flight.exchange.request c.opening.tag (status_of flight.kind) [] [] [])

-- in the order in which they were relayed, the PRACKs first
abbrev pub dismissal_order : List RelayedTransaction → List RelayedTransaction
dismissal_order flights = filter (λ flight. not (is_updating flight)) flights ++ filter is_updating flights

-- before everything else in the step the requests in flight get their final responses, and nothing is in flight after it. What follows replies to none of these: in any set of
-- transactions that has those of the other requests of the call and of what is received, its replies are in that set
pub record AreDismissed (config : CallConfigView) (received_in : (own : ℕ → Bool) → Type 0) (c : Call) (output : StepOutput) (s : StepResult) : Type 0 where
  pub none : s.call.relayed ≡ []
  pub more : List Emit
  pub out : s.output.out ≡ output.out ++ (map (final_of config c) (dismissal_order c.relayed) ++ more)
  pub once : (own : ℕ → Bool) → CallIsOf own (record c { relayed = [] }) → received_in own → Each (IsRepliedIn own) more

-- ---- or the attempt or the call continues

-- the dialog of the other side, as long as there is one
abbrev pub other_dialogue : Phase → Side → Option Dialogue
other_dialogue (Offered x) Caller = Some x.callee.leg.dialogue
other_dialogue (Offered x) Callee = Some x.caller.dialogue
other_dialogue (Established x stage) side = Some (leg_of (other_side side) x).dialogue
other_dialogue (Detached detached) side = None
other_dialogue (Over cause) side = None

-- the request is the one that is received, and is sent in the dialog of the other side
pub record IsRelayedAcross (input : Signal) (c : Call) (flight : RelayedTransaction) : Type 0 where
  pub received : input ≡ signal.Request flight.side flight.exchange.key flight.exchange.request
  pub dialogue : Dialogue
  pub other : other_dialogue c.phase flight.side ≡ Some dialogue
  pub sent : flight.exchange.invite.dialogue ≡ after_request dialogue (method_of flight.kind)

-- its final response is sent to the side that sent the request, before everything else in the step
pub record HasFinalResponse (c : Call) (output : StepOutput) (s : StepResult) (place : ℕ) (flight : RelayedTransaction) : Type 0 where
  pub there : slice_get c.relayed place ≡ Some flight
  pub gone : s.call.relayed ≡ without_at place c.relayed
  pub final : Message StartLine
  pub more : List Emit
  pub out : s.output.out ≡ output.out ++ emit.Reply flight.exchange.key final ∷ more

pub data InFlightContinues (received : Signal) (c : Call) (output : StepOutput) (s : StepResult) : Type 0 where
  Same : s.call.relayed ≡ c.relayed → InFlightContinues received c output s
  OneRelayed : (flight : RelayedTransaction) → IsRelayedAcross received c flight → s.call.relayed ≡ c.relayed ++ flight ∷ [] → InFlightContinues received c output s
  OneAnswered : (place : ℕ) → (flight : RelayedTransaction) → HasFinalResponse c output s place flight → InFlightContinues received c output s

-- ---- the theorems

abbrev pub ReceivedIsOf : Signal → (own : ℕ → Bool) → Type 0
ReceivedIsOf received own = SignalIsOf own received

-- where the attempt ended without a 2xx, or the call is over
abbrev pub StepsDismiss : Type 0
StepsDismiss = (config : CallConfigView) (now : SnapshotView) (received : Signal) (c : Call) (output : StepOutput) → AttemptHasEnded c (step config now received c output).call →
    AreDismissed config (ReceivedIsOf received) c output (step config now received c output)

-- each step
abbrev pub StepsContinue : Type 0
StepsContinue = (config : CallConfigView) (now : SnapshotView) (received : Signal) (c : Call) (output : StepOutput) →
    InFlightContinues received c output (step config now received c output) ⊎ AreDismissed config (ReceivedIsOf received) c output (step config now received c output)

-- the end of a call whose leg is detached
abbrev pub EndsDismiss : Type 0
EndsDismiss = (config : CallConfigView) (at : ℕ) (c : Call) (output : StepOutput) → is_detached c.phase ≡ true →
    AreDismissed config (λ own. Unit {0}) c output (call_finish config at c output)

-- nothing is in flight as a call opens, and once it is over
pub record NothingIsInFlight : Type 0 where
  pub first : (s : TraceStart) → (first_step s).call.relayed ≡ []
  pub last : (s : TraceStart) (received : List TraceStep) → is_over (call_after s received).phase ≡ true → (call_after s received).relayed ≡ []
